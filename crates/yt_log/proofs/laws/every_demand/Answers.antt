use Rattle.yt_log.proofs.Periods.{every_demand}
use Rattle.yt_log.proofs.laws.every_demand.Goals as goal

pub returns : goal.returns
returns c = every_demand
