use Rattle.yt_log.proofs.Exclusions.{rule_is_safe}
use Rattle.yt_log.proofs.laws.rule_is_safe.Goals as goal

pub returns : goal.returns
returns c = rule_is_safe
