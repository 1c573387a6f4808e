use Rattle.yt_serial.proofs.RunRules.{run_rules_are_exact}
use Rattle.yt_serial.proofs.laws.run_rules_are_exact.Goals as goal

pub returns : goal.returns
returns c = run_rules_are_exact
