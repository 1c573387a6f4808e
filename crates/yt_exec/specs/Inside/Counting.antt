-- A body that only counts the ticks that jobs cost, and a play as far as it has come.
use Rattle.std.specs.Prelude.{◌≡◌, ℕ, ◌+◌, ◌<◌, ◌≤◌, List, [], length, take, drop, slice_index_or}
use Rattle.yt_set.specs.declared.task.Task.{Task}
use Rattle.yt_log.specs.declared.job.Job.{Job}
use Rattle.yt_log.specs.declared.plan.PlanItem.{PlanItem}
use Rattle.yt_log.specs.Tasks.{Has}
use Rattle.yt_log.specs.Plan.{IsLegal}
use Rattle.yt_log.specs.Ticks.{Ticks}
use Rattle.yt_log.specs.EdfDdm.{IsEdfDdm}
use Rattle.yt_exec.specs.declared.counts.Count.{Count}
use Rattle.yt_exec.specs.Bodies.{task_in, KeepsOthers}
use Rattle.yt_exec.specs.Moments.{Moment}
use Rattle.yt_exec.specs.StandsFor.{StandsFor, IsBodyOf}

-- what stands for the count of a job that isn't there
abbrev pub no_count : Count
no_count = record { cost = 0; left = 0 }

-- the count of a job, in rows by task and number
abbrev pub count_at : List (List Count) → Job → Count
count_at rows job = slice_index_or (slice_index_or rows job.task []) job.number no_count

-- what a job costs, and how many ticks of it are left
abbrev pub cost_at : List (List Count) → Job → ℕ
cost_at rows job = (count_at rows job).cost

abbrev pub left_at : List (List Count) → Job → ℕ
left_at rows job = (count_at rows job).left

-- a job may begin whose cost is one of its task
abbrev pub MayBegin : List Task → List (List Count) → Job → Type 0
MayBegin tasks rows job = (1 ≤ cost_at rows job) × (cost_at rows job ≤ (task_in tasks job).cost)

-- so many ticks of a job are left now, of each other as many as before, and no cost has changed
pub record Leaves (old new : List (List Count)) (job : Job) (ticks : ℕ) : Type 0 where
  pub left : left_at new job ≡ ticks
  pub others : KeepsOthers (left_at old) (left_at new) job
  pub costs : (other : Job) → cost_at new other ≡ cost_at old other

-- a play that has come so far: the items before place `next` are released, and the log is the rule's for them
pub record IsPlaying (tasks : List Task) (plan : List PlanItem) (moment : Moment) (rows : List (List Count)) (next : ℕ) (log : Ticks) : Type 0 where
  pub inside : next ≤ length plan
  pub set : moment.tasks ≡ tasks
  pub legal : IsLegal moment.tasks (take next plan)
  pub stands : StandsFor moment (left_at rows) (take next plan) log
  pub rule : IsEdfDdm moment.tasks (take next plan) log
  pub body : IsBodyOf moment tasks (left_at rows) (MayBegin tasks rows)
  pub told : (item : PlanItem) → Has plan item → cost_at rows item.job ≡ item.cost
  pub room : length plan ≤ moment.spare + next
  pub later : (item : PlanItem) → Has (drop next plan) item → moment.clock ≤ item.arrival

-- the rows have a count of a job
abbrev pub HasCount : List (List Count) → Job → Type 0
HasCount rows job = (job.task < length rows) × (job.number < length (slice_index_or rows job.task []))
