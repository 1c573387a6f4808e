use Rattle.yt_serial.proofs.LogWrites.{variables_stay}
use Rattle.yt_serial.proofs.laws.variables_stay.Goals as goal

pub returns : goal.returns
returns c = variables_stay
