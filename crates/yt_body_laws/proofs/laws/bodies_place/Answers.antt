use Rattle.yt_body_laws.proofs.Placing.{bodies_place}
use Rattle.yt_body_laws.proofs.laws.bodies_place.Goals as goal

pub returns : goal.returns
returns c = bodies_place
