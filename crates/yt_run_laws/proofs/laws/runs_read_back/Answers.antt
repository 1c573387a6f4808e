use Rattle.yt_run_laws.proofs.ReadingBack.{runs_read_back}
use Rattle.yt_run_laws.proofs.laws.runs_read_back.Goals as goal

pub returns : goal.returns
returns c = runs_read_back
