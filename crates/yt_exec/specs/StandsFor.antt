-- When an executive and the body of its jobs stand for a plan and a log, and how they go on.
use Rattle.std.specs.Prelude.{◌≡◌, ℕ, ◌+◌, ◌-◌, ◌<◌, ◌≤◌, ◌==◌, true, false, List, [], ◌∷◌, ◌++◌, length, replicate, Option, Some, None, ◌↔◌, IsTrue, if◌then◌else◌}
use Rattle.std.specs.List.{Contains}
use Rattle.yt_set.specs.declared.task.Task.{Task}
use Rattle.yt_log.specs.declared.job.Job.{Job}
use Rattle.yt_log.specs.declared.plan.PlanItem.{PlanItem}
use Rattle.yt_log.specs.Tasks.{Has}
use Rattle.yt_log.specs.Plan.{same_job, IsLegal}
use Rattle.yt_log.specs.Ticks.{Ticks, done, IsWaiting}
use Rattle.yt_log.specs.EdfDdm.{current_deadline, IsEdfDdm}
use Rattle.yt_ready.specs.declared.entry.Entry.{Entry}
use Rattle.yt_ready.specs.Order.{IsLeast}
use Rattle.yt_log.specs.declared.last_jobs.LastJob.{LastJob}
use Rattle.yt_exec.specs.declared.executive.Ticked.{Ticked}
use Rattle.yt_exec.specs.declared.executive.Ticked.TheVariants.{Idle, Ran}
use Rattle.yt_exec.specs.Bodies.{task_in, Runs}
use Rattle.yt_exec.specs.Moments.{Moment, job_in, no_release, release_of}

-- the entry of an item at the end of a log
abbrev pub entry_of : List Task → Ticks → PlanItem → Entry
entry_of tasks log item = record {
  deadline = current_deadline tasks log (length log) item;
  begun = if done log item.job (length log) == 0 then false else true;
  arrival = item.arrival;
  task = item.job.task;
  number = item.job.number;
}

-- the last release of a task after the items of a list, where it was `last` before them
unfoldable pub last_release : LastJob → ℕ → List PlanItem → LastJob
last_release last task [] = last
last_release last task (item ∷ items) =
    last_release (if item.job.task == task then record { number = item.job.number; arrival = item.arrival } else last) task items

-- an executive, with a body that has so many ticks of each job left, stands for a plan and a log
pub record StandsFor (moment : Moment) (left : Job → ℕ) (plan : List PlanItem) (log : Ticks) : Type 0 where
  -- the entries are exactly the jobs that have arrived and are not done, with their current deadlines
  pub waiting : (item : PlanItem) → Has plan item → IsWaiting log (length log) item → Contains moment.entries (entry_of moment.tasks log item)
  pub only : (entry : Entry) → Contains moment.entries entry → (item : PlanItem) × (Has plan item) × IsWaiting log (length log) item × (entry ≡ entry_of moment.tasks log item)
  -- the next tick is the log's end
  pub clock : moment.clock ≡ length log
  -- the last releases are the plan's
  pub releases : (task : ℕ) → 1 ≤ task → task ≤ length moment.tasks → release_of moment.releases task ≡ last_release no_release task plan
  -- each tick of the log went to a job of the plan, or to none
  pub named : (job : Job) → 0 < done log job (length log) → (item : PlanItem) × (Has plan item) × (item.job ≡ job)
  -- each job that has begun and isn't done costs what it got and what the body has left
  pub costs : (item : PlanItem) → Has plan item → IsWaiting log (length log) item → 0 < done log item.job (length log) → item.cost ≡ done log item.job (length log) + left item.job

-- a body is that of an executive: it is made for its set, its jobs with ticks left are those that have begun there and not ended, and each other job there may begin
pub record IsBodyOf (moment : Moment) (tasks : List Task) (left : Job → ℕ) (may_begin : Job → Type 0) : Type 0 where
  pub set : tasks ≡ moment.tasks
  pub begun : (entry : Entry) → Contains moment.entries entry → entry.begun ≡ true → 0 < left (job_in entry)
  pub only : (job : Job) → 0 < left job → (entry : Entry) × (Contains moment.entries entry) × (entry.begun ≡ true) × (job_in entry ≡ job)
  pub waiting : (entry : Entry) → Contains moment.entries entry → entry.begun ≡ false → may_begin (job_in entry)

-- an executive that stood for a plan and a log stands for these, legal and by the rule where they were so
pub record GoesOn (moment : Moment) (left : Job → ℕ) (plan other : List PlanItem) (log more : Ticks) : Type 0 where
  pub legal : IsLegal moment.tasks other
  pub stands : StandsFor moment left other more
  pub rule : IsEdfDdm moment.tasks plan log → IsEdfDdm moment.tasks other more

-- the item of a job that is released
abbrev pub item_at : ℕ → Job → ℕ → PlanItem
item_at now job cost = record { job = job; arrival = now; cost = cost }

-- a release adds the item to the plan, whatever it costs within its task's limit
abbrev pub GoesOnWith : Moment → Moment → Job → Type 0
GoesOnWith old new job =
    (left : Job → ℕ) (plan : List PlanItem) (log : Ticks) → IsLegal old.tasks plan → StandsFor old left plan log →
    (cost : ℕ) → 1 ≤ cost → cost ≤ (task_in old.tasks job).cost → GoesOn new left plan (plan ++ item_at old.clock job cost ∷ []) log log

-- the plan with another cost of a job
unfoldable pub with_cost : Job → ℕ → List PlanItem → List PlanItem
with_cost job cost [] = []
with_cost job cost (item ∷ items) = (if same_job item.job job then record item { cost = cost } else item) ∷ with_cost job cost items

-- the job that a tick went to
abbrev pub job_run : Ticked → Option Job
job_run Idle = None
job_run (Ran job ended) = Some job

-- the plan after a tick: a job that began in it costs the tick and what the body has left
abbrev pub plan_after : (Job → ℕ) → (Job → ℕ) → Ticked → List PlanItem → List PlanItem
plan_after old new Idle plan = plan
plan_after old new (Ran job ended) plan = if old job == 0 then with_cost job (new job + 1) plan else plan

-- a tick adds to the log the job that ran in it, and settles what a job costs that began in it
abbrev pub GoesOnTo : Moment → Moment → (Job → ℕ) → (Job → ℕ) → Ticked → Type 0
GoesOnTo old new left left_after ticked =
    (plan : List PlanItem) (log : Ticks) → IsLegal old.tasks plan → StandsFor old left plan log →
    GoesOn new left_after plan (plan_after left left_after ticked plan) log (log ++ job_run ticked ∷ [])

-- an executive with no job goes on to a later tick: the log has idle ticks up to it
abbrev pub IdlesTo : Moment → Moment → Type 0
IdlesTo old new =
    (left : Job → ℕ) (plan : List PlanItem) (log : Ticks) → IsLegal old.tasks plan → StandsFor old left plan log →
    GoesOn new left plan plan log (log ++ replicate (new.clock - old.clock) None)

-- what a tick does: nothing where no job waits; else the least job runs, and leaves where the body has no tick of it left
abbrev pub IsTick : {X : Type 0} → (X → Job → X → Type 0) → (X → Job → X → Type 0) → (Job → ℕ) → Moment → Moment → X → X → Ticked → Type 0
IsTick begins steps left old new before after Idle = (old.entries ≡ []) × (new.entries ≡ []) × (new.spare ≡ old.spare) × (after ≡ before)
IsTick begins steps left old new before after (Ran job ended) =
    (entry : Entry) × IsLeast old.entries entry × (job_in entry ≡ job) × Runs begins steps entry.begun job before after
    × (IsTrue ended ↔ (left job ≡ 0)) × (new.spare ≡ (if ended then old.spare + 1 else old.spare))
