use Rattle.yt_serial.proofs.SerialLaws.{messages_are_apart}
use Rattle.yt_serial.proofs.laws.messages_are_apart.Goals as goal

pub returns : goal.returns
returns c = messages_are_apart
