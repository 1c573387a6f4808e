use Rattle.yt_schedule_laws.proofs.LogsEnding.{logs_end}
use Rattle.yt_schedule_laws.proofs.laws.logs_end.Goals as goal

pub returns : goal.returns
returns c = logs_end
