-- A task as a line of a set's text.
use Rattle.std.specs.Prelude.{ℕ, ◌==◌, List, [], ◌∷◌, ◌++◌, codes, decimal, if◌then◌else◌}
use Rattle.yt_set.specs.declared.task.Task.{Task}

-- `task NAME COST PERIOD`, with the resource's name behind it where there is one
abbrev pub task_line : List ℕ → Task → List ℕ → List ℕ
task_line label task group = codes "task " ++ label ++ 32 ∷ decimal task.cost ++ 32 ∷ decimal task.period ++ (if task.resource == 0 then [] else 32 ∷ group)
