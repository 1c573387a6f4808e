-- Task sets whose tasks and resources have names.
use Rattle.std.specs.Prelude.{◌≡◌, ℕ, ◌≤◌, List, length}
use Rattle.std.specs.List.{All}
use Rattle.yt_set.specs.declared.task.Task.{Task}
use Rattle.yt_set.specs.Limits.{most_name_bytes}
use Rattle.yt_set.specs.Tasks.{IsTaskSet}

-- tasks in order, the name of each, and the names of their resources by number
pub record NamedTasks : Type 0 where
  pub tasks : List Task
  pub labels : List (List ℕ)
  pub groups : List (List ℕ)

-- it has as many bytes as a name
abbrev pub HasNameLength : List ℕ → Type 0
HasNameLength text = (1 ≤ length text) × (length text ≤ most_name_bytes)

-- the tasks are a set, each has a name, as has each resource that one of them is under, and there are no more resources than tasks
pub record IsNamed (set : NamedTasks) : Type 0 where
  pub in_range : IsTaskSet set.tasks
  pub labelled : length set.labels ≡ length set.tasks
  pub labels : All HasNameLength set.labels
  pub grouped : All (λ task. task.resource ≤ length set.groups) set.tasks
  pub groups : All HasNameLength set.groups
  pub few : length set.groups ≤ length set.tasks
