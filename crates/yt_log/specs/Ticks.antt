-- Logs as the list of their ticks: which job each tick went to.
use Rattle.std.specs.Prelude.{◌≡◌, ℕ, zero, suc, ◌+◌, ◌<◌, ◌≤◌, ◌==◌, Bool, false, List, Option, Some, None, length, get_or, if◌then◌else◌}
use Rattle.yt_set.specs.declared.task.Task.{Task}
use Rattle.yt_log.specs.declared.job.Job.{Job}
use Rattle.yt_log.specs.declared.plan.PlanItem.{PlanItem}
use Rattle.yt_log.specs.Tasks.{Has}
use Rattle.yt_log.specs.Plan.{same_job, its_task, deadline_of}

-- a log: for each tick the job that it went to, or none where it was idle
abbrev pub Ticks : Type 0
Ticks = List (Option Job)

-- the job that a tick went to; beyond the log's end none
unfoldable pub tick : Ticks → ℕ → Option Job
tick log t = get_or log t None

unfoldable pub names : Option Job → Job → Bool
names None job = false
names (Some named) job = same_job named job

-- how many ticks below t went to a job
unfoldable pub done : Ticks → Job → ℕ → ℕ
done log job zero = 0
done log job (suc t) = done log job t + (if names (tick log t) job then 1 else 0)

-- the first tick below t that went to a job, where one did
unfoldable pub first_tick : Ticks → Job → ℕ → ℕ
first_tick log job zero = 0
first_tick log job (suc t) = if done log job t == 0 then t else first_tick log job t

-- an item has arrived at t and is not done
pub record IsWaiting (log : Ticks) (t : ℕ) (item : PlanItem) : Type 0 where
  pub arrived : item.arrival ≤ t
  pub unfinished : done log item.job t < item.cost

-- each tick that goes to a job finds it waiting
abbrev pub IsLawful : List PlanItem → Ticks → Type 0
IsLawful plan log = (t : ℕ) (job : Job) → tick log t ≡ Some job → (item : PlanItem) × (Has plan item) × (item.job ≡ job) × IsWaiting log t item

-- no tick of the log is idle while a job waits
abbrev pub IsWorkConserving : List PlanItem → Ticks → Type 0
IsWorkConserving plan log = (t : ℕ) → t < length log → tick log t ≡ None → (item : PlanItem) → Has plan item → IsWaiting log t item → ⊥

-- an item has begun by the end of tick t, and was not done before it
pub record IsActive (log : Ticks) (t : ℕ) (item : PlanItem) : Type 0 where
  pub begun : 0 < done log item.job (suc t)
  pub unfinished : done log item.job t < item.cost

-- no two items under one resource are active in one tick
abbrev pub IsExclusive : List Task → List PlanItem → Ticks → Type 0
IsExclusive tasks plan log =
    (t : ℕ) → t < length log → (a b : PlanItem) → Has plan a → Has plan b →
    0 < (its_task tasks a).resource → (its_task tasks a).resource ≡ (its_task tasks b).resource →
    IsActive log t a → IsActive log t b → a.job ≡ b.job

-- each item that is due by h is done by its deadline
abbrev pub KeepsDeadlines : List Task → List PlanItem → Ticks → ℕ → Type 0
KeepsDeadlines tasks plan log h = (item : PlanItem) → Has plan item → deadline_of tasks item ≤ h → done log item.job (deadline_of tasks item) ≡ item.cost

-- an item is due by h, and its job has too few ticks below its deadline, of as many as are counted below a tick
pub record IsMiss (tasks : List Task) (count : Job → ℕ → ℕ) (h : ℕ) (item : PlanItem) : Type 0 where
  pub due : deadline_of tasks item ≤ h
  pub short : count item.job (deadline_of tasks item) < item.cost

-- an item of the plan that is due by h is not done by its deadline
abbrev pub Misses : List Task → List PlanItem → Ticks → ℕ → Type 0
Misses tasks plan log h = (item : PlanItem) × Has plan item × IsMiss tasks (done log) h item
