use Rattle.std.proofs.Common.{◌≡◌, ◌+◌, [], ◌∷◌, replicate}
use Rattle.yt_exec.specs.Inside.Counting.{no_count}
use Rattle.yt_exec.proofs.counts.empty_rows.Given as goal

abbrev pub invariant-loop-task : goal.invariant-loop-task
invariant-loop-task l = l.rows.items ≡ replicate (l._task + 1) (no_count ∷ [])
