-- What is asked for in the spans of a worked set, by computing.
use Rattle.std.specs.Prelude.{◌≡◌, ℕ, List, [], ◌∷◌, Some}
use Rattle.yt_set.specs.declared.task.Task.{Task}
use Rattle.yt_set.specs.Tasks.{floor_of, need_of}

abbrev pub task : ℕ → ℕ → ℕ → Task
task cost period resource = record { cost = cost; period = period; resource = resource }

-- one free task, and two under a resource
abbrev pub three : List Task
three = task 3 6 0 ∷ task 1 5 1 ∷ task 5 30 1 ∷ []

-- a job of the last task leaves room in a span of 6 ticks, and none in one of 7
pub record WorkedIntervals : Type 0 where
  pub floor : floor_of three 1 ≡ Some 5
  pub fits : need_of three (task 5 30 1) 6 ≡ 6
  pub over : need_of three (task 5 30 1) 7 ≡ 9
