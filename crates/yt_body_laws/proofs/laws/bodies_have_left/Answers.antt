use Rattle.yt_body_laws.proofs.Left.{bodies_have_left}
use Rattle.yt_body_laws.proofs.laws.bodies_have_left.Goals as goal

pub returns : goal.returns
returns c = bodies_have_left
