use Rattle.yt_body_laws.proofs.Idle.{bodies_idle}
use Rattle.yt_body_laws.proofs.laws.bodies_idle.Goals as goal

pub returns : goal.returns
returns c = bodies_idle
