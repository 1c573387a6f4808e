use Rattle.yt_serial.proofs.SerialLaws.{plans_are_legal}
use Rattle.yt_serial.proofs.laws.plans_are_legal.Goals as goal

pub returns : goal.returns
returns c = plans_are_legal
