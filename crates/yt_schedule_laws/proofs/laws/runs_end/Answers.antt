use Rattle.yt_schedule_laws.proofs.LogsEnding.{runs_end}
use Rattle.yt_schedule_laws.proofs.laws.runs_end.Goals as goal

pub returns : goal.returns
returns c = runs_end
