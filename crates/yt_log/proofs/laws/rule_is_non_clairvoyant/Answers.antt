use Rattle.yt_log.proofs.Costs.{rule_is_non_clairvoyant}
use Rattle.yt_log.proofs.laws.rule_is_non_clairvoyant.Goals as goal

pub returns : goal.returns
returns c = rule_is_non_clairvoyant
