-- The load of longer and longer lists of tasks.
use Rattle.std.proofs.Common.{◌≡◌, ℕ, ◌+◌, ◌*◌, ◌/◌, List, take, slice_get, Some, ap, ◌∙◌}
use Rattle.std.proofs.lemmas.List.Sums.{sum_by_more}
use Rattle.std.proofs.lemmas.Option.{get_or_from_slice_get, slice_get_within}
use Rattle.yt_set.specs.declared.task.Task.{Task}
use Rattle.yt_set.specs.Tasks.{load}

-- the load of one more task
pub load_next : (tasks : List Task) (n : ℕ) (task : Task) (h : ℕ) → slice_get tasks n ≡ Some task → load (take (n + 1) tasks) h ≡ load (take n tasks) h + task.cost * (h / task.period)
load_next tasks n task h at =
    sum_by_more (λ (t : Task). t.cost * (h / t.period)) tasks n task (slice_get_within tasks n task at)
    ∙ ap (λ (t : Task). load (take n tasks) h + t.cost * (h / t.period)) (get_or_from_slice_get tasks n task task at)
