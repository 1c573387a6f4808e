-- Following a log for as long as each tick goes where the rule gives it.
use Rattle.std.specs.Prelude.{◌≡◌, ℕ, ◌<◌, ◌≤◌, List, length, drop}
use Rattle.yt_set.specs.declared.task.Task.{Task}
use Rattle.yt_log.specs.declared.job.Segment.{Segment}
use Rattle.yt_log.specs.declared.plan.PlanItem.{PlanItem}
use Rattle.yt_log.specs.declared.judge.heads.Head.{Head}
use Rattle.yt_log.specs.declared.judge.stretch.Stretch.{Stretch}
use Rattle.yt_log.specs.Ticks.{Ticks, tick}
use Rattle.yt_log.specs.EdfDdm.{choice}
use Rattle.yt_log.specs.Segments.{AreInOrder, job_at}
use Rattle.yt_log.specs.Inside.Counts.{segment_at}
use Rattle.yt_log.specs.Inside.Heads.{head_at, AreHeads, AreUnfinished}

-- the ticks from t to before the stretch's end all went to its job, or all were idle
pub record IsStretch (log : Ticks) (t : ℕ) (stretch : Stretch) : Type 0 where
  pub after : t < stretch.to
  pub within : stretch.to ≤ length log
  pub goes : (u : ℕ) → t ≤ u → u < stretch.to → tick log u ≡ stretch.job

-- the segments from a place on tell the ticks from t on, and the first of them ends after t
pub record Reads (log : Ticks) (segments : List Segment) (t next : ℕ) : Type 0 where
  pub tells : (u : ℕ) → t ≤ u → job_at (drop next segments) u ≡ tick log u
  pub ordered : AreInOrder 0 (drop next segments) (length log)
  pub ends : next < length segments → t < (segment_at segments next).to

-- each tick below t went where the rule gives it, and the heads are those at t
pub record Follows (tasks : List Task) (plan : List PlanItem) (log : Ticks) (t : ℕ) (heads : List Head) : Type 0 where
  pub within : t ≤ length log
  pub ruled : (u : ℕ) → u < t → tick log u ≡ choice tasks plan log u
  pub long : length heads ≡ length tasks
  pub are : AreHeads tasks plan log t (length heads) (head_at heads)
  pub more : AreUnfinished plan (length heads) (head_at heads)
