-- The first unfinished job of each task: what is kept of a log of the rule to tell where the next tick goes.
use Rattle.std.specs.Prelude.{◌≡◌, ℕ, suc, ◌+◌, ◌<◌, ◌≤◌, ◌==◌, false, List, [], ◌∷◌, Option, Some, None, length, get_or, if◌then◌else◌}
use Rattle.yt_set.specs.declared.task.Task.{Task}
use Rattle.yt_set.specs.Tasks.{floor_of}
use Rattle.yt_log.specs.declared.job.Job.{Job}
use Rattle.yt_log.specs.declared.plan.PlanItem.{PlanItem}
use Rattle.yt_log.specs.declared.judge.heads.Head.{Head}
use Rattle.yt_log.specs.Ticks.{Ticks, done}
use Rattle.yt_log.specs.Plan.{its_task, deadline_of}
use Rattle.yt_log.specs.EdfDdm.{lowered, current_deadline}
use Rattle.yt_order.specs.Words.{precedes}

-- what stands for an item outside the plan
abbrev pub no_item : PlanItem
no_item = record { job = record { task = 0; number = 0 }; arrival = 0; cost = 0 }

-- the item at a place of a plan, from 0
unfoldable pub item_at : List PlanItem → ℕ → PlanItem
item_at plan place = get_or plan place no_item

-- the item of a head
abbrev pub item_of : List PlanItem → Head → PlanItem
item_of plan head = item_at plan head.place

-- what stands for a head outside the list
abbrev pub no_head : Head
no_head = record { place = 0; had = 0; due = 0 }

-- the head of a task's number less one
unfoldable pub head_at : List Head → ℕ → Head
head_at heads n = get_or heads n no_head

-- at t a head tells of its item: how many ticks it has had, and its current deadline
pub record TellsItem (tasks : List Task) (log : Ticks) (t task : ℕ) (head : Head) (item : PlanItem) : Type 0 where
  pub of_task : item.job.task ≡ task
  pub had : done log item.job t ≡ head.had
  pub most : head.had ≤ item.cost
  pub due : current_deadline tasks log t item ≡ head.due

-- at t the task's items before the head are done, and those behind it have not begun
pub record IsHead (tasks : List Task) (plan : List PlanItem) (log : Ticks) (t task : ℕ) (head : Head) : Type 0 where
  pub within : head.place ≤ length plan
  pub before : (k : ℕ) → k < head.place → (item_at plan k).job.task ≡ task → (item_at plan k).cost ≤ done log (item_at plan k).job t
  pub behind : (k : ℕ) → head.place < k → k < length plan → (item_at plan k).job.task ≡ task → done log (item_at plan k).job t ≡ 0
  pub here : head.place < length plan → TellsItem tasks log t task head (item_of plan head)

-- each is the head of its task: of the task's number less one
abbrev pub AreHeads : List Task → List PlanItem → Ticks → ℕ → ℕ → (ℕ → Head) → Type 0
AreHeads tasks plan log t count heads = (n : ℕ) → n < count → IsHead tasks plan log t (suc n) (heads n)

-- the head's item waits at t
pub record Waits (plan : List PlanItem) (t : ℕ) (head : Head) : Type 0 where
  pub within : head.place < length plan
  pub arrived : (item_of plan head).arrival ≤ t
  pub unfinished : head.had < (item_of plan head).cost

-- the rank of a head's item
unfoldable pub head_rank : List PlanItem → Head → List ℕ
head_rank plan head =
    let item = item_of plan head in
    head.due ∷ (if head.had == 0 then 1 else 0) ∷ item.arrival ∷ item.job.task ∷ item.job.number ∷ []

-- of the heads that wait at t, none comes before this one
pub record IsLeastHead (plan : List PlanItem) (t count : ℕ) (heads : ℕ → Head) (n : ℕ) : Type 0 where
  pub within : n < count
  pub waits : Waits plan t (heads n)
  pub first : (k : ℕ) → k < count → Waits plan t (heads k) → precedes (head_rank plan (heads k)) (head_rank plan (heads n)) ≡ false

-- the least of the first heads that waits; none where none of them waits
abbrev pub Leads : List PlanItem → ℕ → ℕ → (ℕ → Head) → Option ℕ → Type 0
Leads plan t count heads None = (n : ℕ) → n < count → Waits plan t (heads n) → ⊥
Leads plan t count heads (Some n) = IsLeastHead plan t count heads n

-- the head after so many ticks from t on went to its item: the first of these lowers its deadline, where it had none before
abbrev pub ran : List Task → List PlanItem → ℕ → ℕ → Head → Head
ran tasks plan t ticks head = record {
  place = head.place;
  had = head.had + ticks;
  due = if head.had == 0 then lowered head.due t (floor_of tasks (its_task tasks (item_of plan head)).resource) else head.due;
}

-- the head is the first item of a task from a place on, which has had no ticks
pub record Starts (tasks : List Task) (plan : List PlanItem) (task from : ℕ) (head : Head) : Type 0 where
  pub after : from ≤ head.place
  pub within : head.place ≤ length plan
  pub between : (k : ℕ) → from ≤ k → k < head.place → (item_at plan k).job.task ≡ task → ⊥
  pub fresh : head.had ≡ 0
  pub of_task : head.place < length plan → (item_of plan head).job.task ≡ task
  pub due : head.place < length plan → head.due ≡ deadline_of tasks (item_of plan head)

-- a head's item has begun and keeps the resource from another job
pub record KeepsResource (tasks : List Task) (plan : List PlanItem) (resource : ℕ) (job : Job) (head : Head) : Type 0 where
  pub within : head.place < length plan
  pub begun : 0 < head.had
  pub differs : (item_of plan head).job ≡ job → ⊥
  pub under : (its_task tasks (item_of plan head)).resource ≡ resource

-- each head that is left has ticks to come
abbrev pub AreUnfinished : List PlanItem → ℕ → (ℕ → Head) → Type 0
AreUnfinished plan count heads = (n : ℕ) → n < count → (heads n).place < length plan → (heads n).had < (item_of plan (heads n)).cost
