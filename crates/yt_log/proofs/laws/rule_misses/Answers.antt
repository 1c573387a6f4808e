use Rattle.yt_log.proofs.Exact.{rule_misses}
use Rattle.yt_log.proofs.laws.rule_misses.Goals as goal

pub returns : goal.returns
returns c = rule_misses
