use Rattle.yt_log.proofs.Examples.{worked}
use Rattle.yt_log.proofs.laws.worked_schedules.Goals as goal

pub returns : goal.returns
returns c = worked
