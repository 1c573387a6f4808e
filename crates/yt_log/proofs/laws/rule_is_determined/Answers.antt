use Rattle.yt_log.proofs.Made.{rule_is_determined}
use Rattle.yt_log.proofs.laws.rule_is_determined.Goals as goal

pub returns : goal.returns
returns c = rule_is_determined
