use Rattle.yt_body_laws.proofs.Running.{bodies_run}
use Rattle.yt_body_laws.proofs.laws.bodies_run.Goals as goal

pub returns : goal.returns
returns c = bodies_run
