use Rattle.std.proofs.Common.{ℕ, ◌<◌}
use Rattle.yt_log.specs.Inside.Counts.{IsNoLater, segment_at}
use Rattle.yt_log.proofs.judge.counts.passed.Given as goal

abbrev pub invariant-loop-n : goal.invariant-loop-n
invariant-loop-n l = (k : ℕ) → k < l.n → IsNoLater l.job (segment_at l.segments k)
