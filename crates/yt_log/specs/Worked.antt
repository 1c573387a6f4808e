-- Worked schedules: what the rule does with the jobs of small sets, and the patterns of sets that don't fit, by computing.
use Rattle.std.specs.Prelude.{◌≡◌, ℕ, List, [], ◌∷◌, ◌++◌, Some, replicate}
use Rattle.yt_set.specs.declared.task.Task.{Task}
use Rattle.yt_set.specs.Tasks.{floor_of}
use Rattle.yt_log.specs.declared.job.Job.{Job}
use Rattle.yt_log.specs.declared.plan.PlanItem.{PlanItem}
use Rattle.yt_log.specs.Ticks.{Ticks, done}
use Rattle.yt_log.specs.EdfDdm.{edf_ddm}
use Rattle.yt_log.specs.Patterns.{Arrivals, pattern_plan, all_tasks, blocker}

abbrev pub task : ℕ → ℕ → ℕ → Task
task cost period resource = record { cost = cost; period = period; resource = resource }

abbrev pub job : ℕ → ℕ → Job
job task number = record { task = task; number = number }

abbrev pub item : ℕ → ℕ → ℕ → ℕ → PlanItem
item task number arrival cost = record { job = job task number; arrival = arrival; cost = cost }

-- so many ticks that go to a job
abbrev pub run : ℕ → ℕ → ℕ → Ticks
run n task number = replicate n (Some (job task number))

-- a short period without a resource, and two tasks that share one, of which the second is long
unfoldable pub sharing : List Task
sharing = task 2 5 0 ∷ task 1 8 1 ∷ task 4 40 1 ∷ []

unfoldable pub sharing_plan : List PlanItem
sharing_plan = item 3 1 0 4 ∷ item 1 1 1 2 ∷ item 2 1 1 1 ∷ item 1 2 6 2 ∷ []

-- a short period and a long job, without resources
unfoldable pub free : List Task
free = task 2 5 0 ∷ task 20 100 0 ∷ []

unfoldable pub free_plan : List PlanItem
free_plan = item 2 1 0 20 ∷ item 1 1 1 2 ∷ []

-- a tick too much in the hyperperiod of 20
unfoldable pub overloaded : List Task
overloaded = task 5 10 0 ∷ task 11 20 0 ∷ []

abbrev pub arrive : ℕ → ℕ → ℕ → ℕ → Arrivals
arrive first step count cost = record { first = first; step = step; count = count; cost = cost }

unfoldable pub overload : List PlanItem
overload = item 1 1 0 5 ∷ item 2 1 0 11 ∷ item 1 2 10 5 ∷ []

-- sharers of which the last takes too long
unfoldable pub blocked : List Task
blocked = task 3 6 0 ∷ task 1 5 1 ∷ task 5 30 1 ∷ []

unfoldable pub block : List PlanItem
block = item 3 1 0 5 ∷ item 1 1 1 3 ∷ item 2 1 1 1 ∷ []

pub record WorkedSchedules : Type 0 where
  -- the second task's job, due at 9, waits for the third's, whose deadline is 9 from its first tick on, and which has begun
  pub lowered : edf_ddm sharing sharing_plan 9 ≡ run 1 3 1 ++ run 2 1 1 ++ run 3 3 1 ++ run 1 2 1 ++ run 2 1 2
  pub floor : floor_of sharing 1 ≡ Some 8
  -- a job without a resource is interrupted
  pub interrupted : edf_ddm free free_plan 22 ≡ run 1 2 1 ++ run 2 1 1 ++ run 19 2 1
  -- the overload's pattern and its plan, and the miss: of two equal deadlines the begun job goes first, and the last job's last tick is left at 20
  pub over : all_tasks overloaded 20 ≡ arrive 0 10 2 5 ∷ arrive 0 20 1 11 ∷ []
  pub over_plan : pattern_plan (all_tasks overloaded 20) ≡ overload
  pub missed : done (edf_ddm overloaded overload 20) (job 1 2) 20 ≡ 4
  -- the blocker's pattern for a span of 7 ticks and its plan, and the miss of the first task's job, which is due at 7
  pub blocks : blocker blocked 3 7 ≡ arrive 1 6 1 3 ∷ arrive 1 5 1 1 ∷ arrive 0 30 1 5 ∷ []
  pub blocks_plan : pattern_plan (blocker blocked 3 7) ≡ block
  pub late : done (edf_ddm blocked block 7) (job 1 1) 7 ≡ 1
