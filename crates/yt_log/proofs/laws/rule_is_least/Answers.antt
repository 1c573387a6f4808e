use Rattle.yt_log.proofs.Leasts.{rule_is_least}
use Rattle.yt_log.proofs.laws.rule_is_least.Goals as goal

pub returns : goal.returns
returns c = rule_is_least
