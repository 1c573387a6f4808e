use Rattle.std.proofs.Common.{ℕ, suc, ◌<◌}
use Rattle.yt_log.specs.Inside.Heads.{Starts, head_at}
use Rattle.yt_log.proofs.judge.heads.start.Given as goal

abbrev pub invariant-loop-n : goal.invariant-loop-n
invariant-loop-n l = (k : ℕ) → k < l.n → Starts l.set l.items (suc k) 0 (head_at l.heads k)
