use Rattle.yt_log.proofs.Made.{rule_makes_logs}
use Rattle.yt_log.proofs.laws.rule_makes_logs.Goals as goal

pub returns : goal.returns
returns c = rule_makes_logs
