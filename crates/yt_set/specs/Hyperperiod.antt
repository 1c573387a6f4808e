-- The hyperperiod is the least common multiple of the periods.
use Rattle.std.specs.Prelude.{ℕ, ◌≤◌, List}
use Rattle.std.specs.List.{All}
use Rattle.std.specs.Int.{◌∣◌}
use Rattle.yt_set.specs.declared.task.Task.{Task}
use Rattle.yt_set.specs.Tasks.{IsTaskSet, hyperperiod}

-- each period divides the number
abbrev pub IsCommonMultiple : List Task → ℕ → Type 0
IsCommonMultiple tasks m = All (λ task. task.period ∣ m) tasks

-- of a set it is a common multiple above 0, and divides each other one, so that it is the least
pub record IsLeastMultiple (tasks : List Task) (h : ℕ) : Type 0 where
  pub positive : 1 ≤ h
  pub common : IsCommonMultiple tasks h
  pub least : (m : ℕ) → IsCommonMultiple tasks m → h ∣ m

abbrev pub HyperperiodIsLeast : Type 0
HyperperiodIsLeast = (tasks : List Task) → IsTaskSet tasks → IsLeastMultiple tasks (hyperperiod tasks)
