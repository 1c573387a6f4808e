use Rattle.yt_log.proofs.Keeping.{demand_keeps}
use Rattle.yt_log.proofs.laws.demand_keeps.Goals as goal

pub returns : goal.returns
returns c = demand_keeps
