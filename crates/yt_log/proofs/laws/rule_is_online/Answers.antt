use Rattle.yt_log.proofs.Growing.{rule_is_online}
use Rattle.yt_log.proofs.laws.rule_is_online.Goals as goal

pub returns : goal.returns
returns c = rule_is_online
