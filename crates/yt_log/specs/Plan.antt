-- Plans: which jobs arrive when, and what they cost.
use Rattle.std.specs.Prelude.{◌≡◌, ℕ, ◌+◌, ◌≤◌, ◌==◌, ◌&&◌, max, Bool, List, [], ◌∷◌, length, if◌then◌else◌}
use Rattle.std.specs.List.{All}
use Rattle.yt_set.specs.declared.task.Task.{Task}
use Rattle.yt_set.specs.Tasks.{within}
use Rattle.yt_log.specs.declared.job.Job.{Job}
use Rattle.yt_log.specs.declared.plan.PlanItem.{PlanItem}
use Rattle.yt_log.specs.Limits.{most_arrival}
use Rattle.yt_log.specs.Tasks.{Has, task_of}

unfoldable pub same_job : Job → Job → Bool
same_job a b = (a.task == b.task) && (a.number == b.number)

-- an item's task
abbrev pub its_task : List Task → PlanItem → Task
its_task tasks item = task_of tasks item.job.task

-- the tick before which an item is to be done
unfoldable pub deadline_of : List Task → PlanItem → ℕ
deadline_of tasks item = item.arrival + within (its_task tasks item)

-- how many of the items are of a task
unfoldable pub jobs_of : ℕ → List PlanItem → ℕ
jobs_of task [] = 0
jobs_of task (item ∷ items) = (if item.job.task == task then 1 else 0) + jobs_of task items

-- an item may follow those before it
pub record IsNext (tasks : List Task) (before : List PlanItem) (item : PlanItem) : Type 0 where
  pub from_one : 1 ≤ item.job.task
  pub in_set : item.job.task ≤ length tasks
  pub number : item.job.number ≡ 1 + jobs_of item.job.task before
  pub order : (earlier : PlanItem) → Has before earlier → earlier.arrival ≤ item.arrival
  pub apart : (earlier : PlanItem) → Has before earlier → earlier.job.task ≡ item.job.task → earlier.arrival + (its_task tasks item).period ≤ item.arrival
  pub some : 1 ≤ item.cost
  pub most : item.cost ≤ (its_task tasks item).cost

-- the items may follow those before them, which are given from the last
abbrev pub IsLegalAfter : List Task → List PlanItem → List PlanItem → Type 0
IsLegalAfter tasks before [] = Unit {0}
IsLegalAfter tasks before (item ∷ items) = IsNext tasks before item × IsLegalAfter tasks (item ∷ before) items

-- a legal plan: in order of arrival, each task's jobs numbered from 1 and at least its period apart, none above its task's cost
abbrev pub IsLegal : List Task → List PlanItem → Type 0
IsLegal tasks plan = IsLegalAfter tasks [] plan

-- the items arrive in order, the first at t or later
abbrev pub ArriveFrom : ℕ → List PlanItem → Type 0
ArriveFrom t [] = Unit {0}
ArriveFrom t (item ∷ items) = (t ≤ item.arrival) × ArriveFrom item.arrival items

-- the items are in order of arrival
abbrev pub IsInOrder : List PlanItem → Type 0
IsInOrder plan = ArriveFrom 0 plan

-- the arrival of the last item, t where there is none
abbrev pub last_from : ℕ → List PlanItem → ℕ
last_from t [] = t
last_from t (item ∷ items) = last_from item.arrival items

-- the arrival of a plan's last item; 0 where it has none
abbrev pub last_arrival : List PlanItem → ℕ
last_arrival plan = last_from 0 plan

-- a legal plan whose items arrive by the last tick at which they may
pub record IsLegalPlan (tasks : List Task) (plan : List PlanItem) : Type 0 where
  pub legal : IsLegal tasks plan
  pub early : All (λ item. item.arrival ≤ most_arrival) plan

-- the greatest deadline of the items; 0 where there are none
abbrev pub horizon : List Task → List PlanItem → ℕ
horizon tasks [] = 0
horizon tasks (item ∷ items) = max (deadline_of tasks item) (horizon tasks items)
