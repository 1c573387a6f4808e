use Rattle.yt_run_laws.proofs.SerialValues.{serial_handling_keeps_values}
use Rattle.yt_run_laws.proofs.laws.serial_handling_keeps_values.Goals as goal

pub returns : goal.returns
returns c = serial_handling_keeps_values
