use Rattle.yt_log.proofs.Tells.{Tells_none}
use Rattle.yt_log.proofs.log.Log.new.Goals as goal

pub invariant_of-result : goal.invariant_of-result
invariant_of-result c = (Tells_none c.new.result.items c.new.ensures.items).invariant

pub returns : goal.returns
returns c = (Tells_none c.new.result.items c.new.ensures.items).view
