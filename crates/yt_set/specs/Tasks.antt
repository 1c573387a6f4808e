-- Task sets: what their tasks ask of the processor, and when they fit.
use Rattle.std.specs.Prelude.{ℕ, ◌+◌, ◌-◌, ◌*◌, ◌/◌, ◌%◌, ◌<◌, ◌≤◌, ◌==◌, min, zero, suc, List, [], ◌∷◌, length, map, if◌then◌else◌, Option, None, IsSomeAnd}
use Rattle.std.specs.List.{All, filter, reduce, sum_by}
use Rattle.yt_set.specs.declared.task.Task.{Task}
use Rattle.yt_set.specs.Limits.{most_tasks, most_ticks}

-- a task whose cost and whose period are within the limits
abbrev pub IsTask : Task → Type 0
IsTask task = (1 ≤ task.cost) × (task.cost ≤ most_ticks) × (1 ≤ task.period) × (task.period ≤ most_ticks)

-- such tasks, no more than a set has at most
abbrev pub IsTaskSet : List Task → Type 0
IsTaskSet tasks = (length tasks ≤ most_tasks) × All IsTask tasks

-- how many ticks after its arrival a job is due: at the end of its period
abbrev pub within : Task → ℕ
within task = task.period

-- the tasks under a resource
abbrev pub users_of : List Task → ℕ → List Task
users_of tasks resource = filter (λ task. task.resource == resource) tasks

-- the deadline floor of a resource: within how many ticks the most urgent of its users is due; none where it has no users, and of resource 0, which is none
abbrev pub floor_of : List Task → ℕ → Option ℕ
floor_of tasks resource = if resource == 0 then None else reduce min (map within (users_of tasks resource))

-- how many jobs of a task can arrive and be due within t ticks: none before the first is due, then one more with each period
abbrev pub jobs_due : Task → ℕ → ℕ
jobs_due task t = (t + task.period - within task) / task.period

-- the demand of t ticks: the most that the jobs cost which can arrive and be due within them
abbrev pub demand_bound : List Task → ℕ → ℕ
demand_bound tasks t = sum_by (λ task. jobs_due task t * task.cost) tasks

-- the greatest common divisor of a and b, by Euclid's steps, at most so many of them
unfoldable pub gcd_by : ℕ → ℕ → ℕ → ℕ
gcd_by zero a b = a
gcd_by (suc steps) a b = if b == 0 then a else gcd_by steps b (a % b)

-- the least common multiple
unfoldable pub lcm : ℕ → ℕ → ℕ
lcm a b = a / gcd_by (suc b) a b * b

-- the least common multiple of a number and of the periods of tasks
unfoldable pub multiple_from : ℕ → List Task → ℕ
multiple_from m [] = m
multiple_from m (task ∷ tasks) = multiple_from (lcm m task.period) tasks

-- the hyperperiod: the least common multiple of the periods, 1 of no tasks
abbrev pub hyperperiod : List Task → ℕ
hyperperiod tasks = multiple_from 1 tasks

-- the load of h ticks: what the jobs cost whose periods end within them where all come as soon as they may
abbrev pub load : List Task → ℕ → ℕ
load tasks h = sum_by (λ task. task.cost * (h / task.period)) tasks

-- over the hyperperiod the load fits
abbrev pub FitsLoad : List Task → Type 0
FitsLoad tasks = load tasks (hyperperiod tasks) ≤ hyperperiod tasks

-- the ticks that a job of the task and the jobs that can arrive after its first tick and be due in a span ask for in it
abbrev pub need_of : List Task → Task → ℕ → ℕ
need_of tasks task span = task.cost + demand_bound tasks (span - 1)

-- a span that is longer than the deadline floor of the task's resource, and ends before its job is due, has fewer ticks than are asked for
abbrev pub LacksRoom : List Task → ℕ → Task → Type 0
LacksRoom tasks span task = IsSomeAnd (floor_of tasks task.resource) (λ floor. floor < span) × (span < within task) × (span < need_of tasks task span)

-- a job of this task, which keeps its resource from its first tick on, leaves room in each span for what can arrive after that tick and be due in the span
abbrev pub LeavesRoom : List Task → Task → Type 0
LeavesRoom tasks task = (span : ℕ) → LacksRoom tasks span task → ⊥

-- each task under a resource leaves room for the others
abbrev pub FitsInterval : List Task → Type 0
FitsInterval tasks = All (LeavesRoom tasks) tasks

-- the set fits
pub record Fits (tasks : List Task) : Type 0 where
  pub loads : FitsLoad tasks
  pub intervals : FitsInterval tasks
