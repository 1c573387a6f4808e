-- Earliest deadline first with dynamic deadline modification: the deadline of a job under a resource may be lowered once it has begun.
use Rattle.std.specs.Prelude.{◌≡◌, ℕ, zero, suc, ◌+◌, ◌<◌, ◌==◌, ◌&&◌, min, Bool, false, nat_lt, nat_le, List, [], ◌∷◌, ◌++◌, Option, Some, None, length, if◌then◌else◌}
use Rattle.yt_order.specs.Words.{precedes}
use Rattle.yt_set.specs.declared.task.Task.{Task}
use Rattle.yt_set.specs.Tasks.{floor_of}
use Rattle.yt_log.specs.declared.job.Job.{Job}
use Rattle.yt_log.specs.declared.plan.PlanItem.{PlanItem}
use Rattle.yt_log.specs.Tasks.{Has}
use Rattle.yt_log.specs.Plan.{its_task, deadline_of}
use Rattle.yt_log.specs.Ticks.{Ticks, tick, done, first_tick, IsWaiting}

-- the deadline of a job whose first tick is known, by the deadline floor of its resource: no later than that of any sharer that arrives after that tick; its own where it has no resource
unfoldable pub lowered : ℕ → ℕ → Option ℕ → ℕ
lowered deadline first None = deadline
lowered deadline first (Some floor) = min deadline (first + 1 + floor)

-- an item's deadline at t: its own until it has begun, lowered from then on
unfoldable pub current_deadline : List Task → Ticks → ℕ → PlanItem → ℕ
current_deadline tasks log t item =
    if done log item.job t == 0
    then deadline_of tasks item
    else lowered (deadline_of tasks item) (first_tick log item.job t) (floor_of tasks (its_task tasks item).resource)

-- what the rule goes by, first to last: the current deadline; begun before not begun; the arrival; the task; the number
unfoldable pub rank : List Task → Ticks → ℕ → PlanItem → List ℕ
rank tasks log t item =
    current_deadline tasks log t item ∷ (if done log item.job t == 0 then 1 else 0) ∷ item.arrival ∷ item.job.task ∷ item.job.number ∷ []

-- an item has arrived at t and is not done
unfoldable pub waits : Ticks → ℕ → PlanItem → Bool
waits log t item = nat_le item.arrival t && nat_lt (done log item.job t) item.cost

-- of two values the one that comes first by its key, the former where neither does
unfoldable pub sooner : {X : Type 0} → (X → List ℕ) → X → Option X → X
sooner key x None = x
sooner key x (Some other) = if precedes (key other) (key x) then other else x

-- of the items that pass, the one that comes first
unfoldable pub least : (PlanItem → List ℕ) → (PlanItem → Bool) → List PlanItem → Option PlanItem
least key passes [] = None
least key passes (item ∷ items) =
    if passes item then Some (sooner key item (least key passes items)) else least key passes items

unfoldable pub job_of : Option PlanItem → Option Job
job_of None = None
job_of (Some item) = Some item.job

-- the job that the rule gives tick t to, after the ticks of the log below t
unfoldable pub choice : List Task → List PlanItem → Ticks → ℕ → Option Job
choice tasks plan log t = job_of (least (rank tasks log t) (waits log t) plan)

-- an item of the plan waits, and none that waits comes before it
pub record ComesFirst (tasks : List Task) (plan : List PlanItem) (log : Ticks) (t : ℕ) (item : PlanItem) : Type 0 where
  pub has : Has plan item
  pub waiting : IsWaiting log t item
  pub first : (other : PlanItem) → Has plan other → IsWaiting log t other → precedes (rank tasks log t other) (rank tasks log t item) ≡ false

-- each tick of the log went where the rule gives it
abbrev pub IsEdfDdm : List Task → List PlanItem → Ticks → Type 0
IsEdfDdm tasks plan log = (t : ℕ) → t < length log → tick log t ≡ choice tasks plan log t

-- the log of n ticks that the rule makes
unfoldable pub edf_ddm : List Task → List PlanItem → ℕ → Ticks
edf_ddm tasks plan zero = []
edf_ddm tasks plan (suc n) =
    let log = edf_ddm tasks plan n in
    log ++ choice tasks plan log n ∷ []
