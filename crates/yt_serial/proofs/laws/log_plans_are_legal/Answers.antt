use Rattle.yt_serial.proofs.SerialLaws.{log_plans_are_legal}
use Rattle.yt_serial.proofs.laws.log_plans_are_legal.Goals as goal

pub returns : goal.returns
returns c = log_plans_are_legal
