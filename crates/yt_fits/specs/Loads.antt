-- When the hyperperiod of a set is too great to compute with, and the two sides of the load's condition.
use Rattle.std.specs.Prelude.{ℕ, ◌^◌, ◌<◌, ◌≤◌, List, length, take}
use Rattle.yt_set.specs.declared.task.Task.{Task}
use Rattle.yt_set.specs.Tasks.{hyperperiod, load}
use Rattle.yt_fits.specs.declared.sums.LoadSum.{LoadSum}

-- the greatest multiple of periods that is computed with
abbrev pub most_multiple : ℕ
most_multiple = 2 ^ 100

-- the greatest hyperperiod that a set may have
abbrev pub hyperperiod_limit : List Task → ℕ
hyperperiod_limit tasks = most_multiple

-- the multiple of the periods of the first n tasks passes it, and no fewer tasks have one that does
pub record IsFirstWide (tasks : List Task) (n : ℕ) : Type 0 where
  pub positive : 1 ≤ n
  pub there : n ≤ length tasks
  pub wide : hyperperiod_limit tasks < hyperperiod (take n tasks)
  pub first : (k : ℕ) → k < n → hyperperiod (take k tasks) ≤ hyperperiod_limit tasks

-- the load over the hyperperiod, and the hyperperiod
abbrev pub load_sum : List Task → LoadSum
load_sum tasks = record { part = load tasks (hyperperiod tasks); whole = hyperperiod tasks }
