use Rattle.yt_body_laws.proofs.Rest.{bodies_rest}
use Rattle.yt_body_laws.proofs.laws.bodies_rest.Goals as goal

pub returns : goal.returns
returns c = bodies_rest
