use Rattle.yt_body_laws.proofs.Telling.{bodies_tell}
use Rattle.yt_body_laws.proofs.laws.bodies_tell.Goals as goal

pub returns : goal.returns
returns c = bodies_tell
