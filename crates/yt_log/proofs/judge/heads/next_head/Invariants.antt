use Rattle.std.proofs.Common.{◌≡◌, ℕ, ◌<◌, ◌≤◌}
use Rattle.yt_log.specs.Inside.Heads.{item_at}
use Rattle.yt_log.proofs.judge.heads.next_head.Given as goal

abbrev pub invariant-loop-place : goal.invariant-loop-place
invariant-loop-place l = (k : ℕ) → l.from ≤ k → k < l.place → (item_at l.items k).job.task ≡ l.task → ⊥
