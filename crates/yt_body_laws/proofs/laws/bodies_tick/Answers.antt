use Rattle.yt_body_laws.proofs.Steps.{bodies_tick}
use Rattle.yt_body_laws.proofs.laws.bodies_tick.Goals as goal

pub returns : goal.returns
returns c = bodies_tick
