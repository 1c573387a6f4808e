use Rattle.std.proofs.Common.{ℕ, ◌<◌}
use Rattle.yt_log.specs.Inside.Heads.{KeepsResource, head_at}
use Rattle.yt_log.proofs.judge.broken.shares.Given as goal

abbrev pub invariant-loop-head : goal.invariant-loop-head
invariant-loop-head l = (n : ℕ) → n < l.head-index → KeepsResource l.set l.items l.resource l.job (head_at l.heads n) → ⊥
