use Rattle.yt_body.proofs.Sound.{are_wires}
use Rattle.yt_body.proofs.laws.wires_are_sound.Goals as goal

pub returns : goal.returns
returns c = are_wires
