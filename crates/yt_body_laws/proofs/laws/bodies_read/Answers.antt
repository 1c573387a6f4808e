use Rattle.yt_body_laws.proofs.Reading.{bodies_read}
use Rattle.yt_body_laws.proofs.laws.bodies_read.Goals as goal

pub returns : goal.returns
returns c = bodies_read
