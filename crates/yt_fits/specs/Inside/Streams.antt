-- Tasks whose jobs are due at the same points, and the dearest job that can keep its resource.
use Rattle.std.specs.Prelude.{◌≡◌, ℕ, ◌+◌, ◌-◌, ◌*◌, ◌/◌, ◌<◌, ◌≤◌, List, length, IsSomeAnd}
use Rattle.std.specs.List.{All, sum_by}
use Rattle.yt_set.specs.declared.task.Task.{Task}
use Rattle.yt_set.specs.Limits.{most_ticks}
use Rattle.yt_set.specs.Tasks.{demand_bound, floor_of, jobs_due, within}
use Rattle.yt_fits.specs.declared.stream.Stream.{Stream}

-- how many jobs of each of its tasks can arrive and be due within t ticks
abbrev pub due_in : Stream → ℕ → ℕ
due_in stream t = (t + stream.period - stream.within) / stream.period

-- the least span in which a job more than those that are counted can be due
abbrev pub next_of : Stream → ℕ
next_of stream = stream.jobs * stream.period + stream.within

-- what the counted jobs cost
abbrev pub cost_counted : List Stream → ℕ
cost_counted streams = sum_by (λ stream. stream.jobs * stream.cost) streams

-- its jobs are due after a tick or more and within their period, which has its limit as the cost has
pub record IsPaced (stream : Stream) (cost : ℕ) : Type 0 where
  pub due : 1 ≤ stream.within
  pub in_period : stream.within ≤ stream.period
  pub short : stream.period ≤ most_ticks
  pub some : 1 ≤ stream.cost
  pub cheap : stream.cost ≤ cost

-- no job more of a task can be due in a span that is longer than the point and shorter than the next
abbrev pub IsBeforeNext : List Task → ℕ → ℕ → Type 0
IsBeforeNext tasks point next = All (λ task. next ≤ jobs_due task point * task.period + within task) tasks

-- each task is in one of the streams, and in no other
pub record AreStreamsOf (tasks : List Task) (streams : List Stream) : Type 0 where
  pub few : length streams ≤ length tasks
  pub paced : All (λ stream. IsPaced stream (length tasks * most_ticks)) streams
  pub demand : (t : ℕ) → sum_by (λ stream. due_in stream t * stream.cost) streams ≡ demand_bound tasks t
  pub all : (point next : ℕ) → All (λ stream. next ≤ due_in stream point * stream.period + stream.within) streams → IsBeforeNext tasks point next

-- a span is longer than the deadline floor of the task's resource, and ends before its job is due
abbrev pub IsInRange : List Task → ℕ → Task → Type 0
IsInRange tasks span task = IsSomeAnd (floor_of tasks task.resource) (λ floor. floor < span) × (span < within task)
