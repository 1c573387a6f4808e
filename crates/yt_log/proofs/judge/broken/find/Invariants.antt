use Rattle.std.proofs.Common.{◌≡◌, ℕ, ◌<◌}
use Rattle.yt_log.specs.Inside.Heads.{item_at}
use Rattle.yt_log.proofs.judge.broken.find.Given as goal

abbrev pub invariant-loop-item : goal.invariant-loop-item
invariant-loop-item l = (k : ℕ) → k < l.item-index → (item_at l.items k).job ≡ l.job → ⊥
