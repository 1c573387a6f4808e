use Rattle.yt_log.proofs.Overloads.{overloads}
use Rattle.yt_log.proofs.laws.overloads_miss.Goals as goal

pub returns : goal.returns
returns c = overloads
