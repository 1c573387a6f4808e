use Rattle.yt_body_laws.proofs.Start.{bodies_start}
use Rattle.yt_body_laws.proofs.laws.bodies_start.Goals as goal

pub returns : goal.returns
returns c = bodies_start
