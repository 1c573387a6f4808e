-- Patterns: arrivals that show that a set does not fit.
use Rattle.std.specs.Prelude.{ℕ, zero, suc, ◌+◌, ◌-◌, ◌*◌, ◌≤◌, ◌==◌, Bool, List, [], ◌∷◌, ◌++◌, length, if◌then◌else◌}
use Rattle.yt_set.specs.declared.task.Task.{Task}
use Rattle.yt_set.specs.Tasks.{jobs_due}
use Rattle.yt_log.specs.declared.plan.PlanItem.{PlanItem}
use Rattle.yt_log.specs.Tasks.{task_of}
use Rattle.yt_log.specs.Plan.{IsLegal}
use Rattle.yt_log.specs.Ticks.{Ticks, IsLawful, IsWorkConserving, IsExclusive, Misses}
use Rattle.yt_order.specs.Sorting.{before_by, sort_by}

-- the jobs of a task: so many of one cost, the first at a tick, each later one a step after the one before
pub record Arrivals : Type 0 where
  pub first : ℕ
  pub step : ℕ
  pub count : ℕ
  pub cost : ℕ

-- the first n of these jobs
abbrev pub jobs_arriving : ℕ → Arrivals → ℕ → List PlanItem
jobs_arriving task a zero = []
jobs_arriving task a (suc n) =
    jobs_arriving task a n ++ (record { job = record { task = task; number = suc n }; arrival = a.first + n * a.step; cost = a.cost }) ∷ []

-- the jobs of the tasks from this number on
abbrev pub all_arriving : ℕ → List Arrivals → List PlanItem
all_arriving task [] = []
all_arriving task (a ∷ arrivals) = jobs_arriving task a a.count ++ all_arriving (suc task) arrivals

-- an item comes before another by arrival, and then by task
abbrev pub item_before : PlanItem → PlanItem → Bool
item_before = before_by (λ (item : PlanItem). item.arrival) (λ (item : PlanItem). item.job.task)

-- the plan of a pattern: all its jobs, in order of arrival and then of task
abbrev pub pattern_plan : List Arrivals → List PlanItem
pattern_plan arrivals = sort_by item_before (all_arriving 1 arrivals)

-- the pattern of tasks, numbered from n on: so many jobs of each, from its start on, at its period and its greatest cost
abbrev pub arrivals_from : (ℕ → ℕ) → (ℕ → ℕ) → ℕ → List Task → List Arrivals
arrivals_from start count n [] = []
arrivals_from start count n (task ∷ tasks) =
    (record { first = start n; step = task.period; count = count n; cost = task.cost }) ∷ arrivals_from start count (suc n) tasks

-- the pattern of all tasks: each from 0 on, as often as its jobs can be due by h
abbrev pub all_tasks : List Task → ℕ → List Arrivals
all_tasks tasks h = arrivals_from (λ n. 0) (λ n. jobs_due (task_of tasks n) h) 1 tasks

-- the pattern of a blocker, which is a task's number: its task once, at 0, and each other task from 1 on, as often as its jobs can be due within the rest of the span
abbrev pub blocker : List Task → ℕ → ℕ → List Arrivals
blocker tasks i span = arrivals_from (λ n. if n == i then 0 else 1) (λ n. if n == i then 1 else jobs_due (task_of tasks n) (span - 1)) 1 tasks

-- a legal plan of which each lawful, work-conserving and exclusive log of at least h ticks misses a deadline by h
pub record MustMiss (tasks : List Task) (plan : List PlanItem) (h : ℕ) : Type 0 where
  pub legal : IsLegal tasks plan
  pub misses : (log : Ticks) → h ≤ length log → IsLawful plan log → IsWorkConserving plan log → IsExclusive tasks plan log → Misses tasks plan log h
