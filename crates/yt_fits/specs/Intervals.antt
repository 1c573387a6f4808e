-- When a job that keeps its resource leaves others too little room, and where it first does.
use Rattle.std.specs.Prelude.{◌≡◌, ℕ, ◌-◌, ◌<◌, List, take, Some}
use Rattle.std.specs.List.{All}
use Rattle.yt_list.specs.Numbered.{numbered}
use Rattle.yt_set.specs.declared.task.Task.{Task}
use Rattle.yt_set.specs.Tasks.{LacksRoom, need_of}
use Rattle.yt_fits.specs.declared.interval.Breach.{Breach}

-- some tasks of a set, none of which lacks room in a span
abbrev pub HaveRoom : List Task → ℕ → List Task → Type 0
HaveRoom tasks span some = All (λ task. LacksRoom tasks span task → ⊥) some

-- the breach is that of the first task that lacks room in its span
pub record IsLowestBreach (tasks : List Task) (breach : Breach) : Type 0 where
  pub task : Task
  pub there : numbered tasks breach.task ≡ Some task
  pub lacks : LacksRoom tasks breach.len task
  pub need : breach.need ≡ need_of tasks task breach.len
  pub lowest : HaveRoom tasks breach.len (take (breach.task - 1) tasks)

-- and no task lacks room in a shorter span
pub record IsFirstBreach (tasks : List Task) (breach : Breach) : Type 0 where
  pub lowest : IsLowestBreach tasks breach
  pub shortest : (span : ℕ) → span < breach.len → HaveRoom tasks span tasks
