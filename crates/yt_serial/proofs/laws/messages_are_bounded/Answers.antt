use Rattle.yt_serial.proofs.Bounds.{messages_are_bounded}
use Rattle.yt_serial.proofs.laws.messages_are_bounded.Goals as goal

pub returns : goal.returns
returns c = messages_are_bounded
