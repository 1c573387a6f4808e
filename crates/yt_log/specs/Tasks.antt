-- Tasks by their numbers.
use Rattle.std.specs.Prelude.{◌≡◌, ◌⊎◌, ℕ, zero, suc, List, [], ◌∷◌, get_or}
use Rattle.yt_set.specs.declared.task.Task.{Task}

-- x is one of xs
abbrev pub Has : {X : Type 0} → List X → X → Type 0
Has [] x = ⊥
Has (y ∷ ys) x = (x ≡ y) ⊎ Has ys x

-- what stands for a task outside the set
abbrev pub no_task : Task
no_task = record { cost = 0; period = 0; resource = 0 }

-- the task of a number, from 1
unfoldable pub task_of : List Task → ℕ → Task
task_of tasks zero = no_task
task_of tasks (suc n) = get_or tasks n no_task
