-- Judging logs: the first miss, and the first tick at which a log breaks a rule.
use Rattle.std.specs.Prelude.{◌≡◌, ℕ, ◌<◌, false, List, [], ◌∷◌, Some, None, length}
use Rattle.yt_set.specs.declared.task.Task.{Task}
use Rattle.yt_log.specs.declared.job.Job.{Job}
use Rattle.yt_log.specs.declared.plan.PlanItem.{PlanItem}
use Rattle.yt_log.specs.declared.judge.broken.Broken.{Broken}
use Rattle.yt_log.specs.declared.judge.broken.Rule.{Rule}
use Rattle.yt_log.specs.declared.judge.broken.Rule.TheVariants.{Unlawful, Idle, Shared, NotLeast}
use Rattle.yt_log.specs.Tasks.{Has}
use Rattle.yt_log.specs.Plan.{its_task, deadline_of}
use Rattle.yt_log.specs.Ticks.{Ticks, tick, done, IsMiss, IsWaiting, IsActive, IsLawful, IsWorkConserving, IsExclusive}
use Rattle.yt_log.specs.EdfDdm.{choice, IsEdfDdm}
use Rattle.yt_order.specs.Words.{precedes}

-- what misses go by, first to last: the deadline; the task; the number
unfoldable pub miss_rank : List Task → PlanItem → List ℕ
miss_rank tasks item = deadline_of tasks item ∷ item.job.task ∷ item.job.number ∷ []

-- the job misses, and no miss comes before it
pub record IsFirstMiss (tasks : List Task) (plan : List PlanItem) (log : Ticks) (h : ℕ) (job : Job) : Type 0 where
  pub item : PlanItem
  pub named : item.job ≡ job
  pub has : Has plan item
  pub misses : IsMiss tasks (done log) h item
  pub first : (other : PlanItem) → Has plan other → IsMiss tasks (done log) h other → precedes (miss_rank tasks other) (miss_rank tasks item) ≡ false

-- a job waits: an item of it does
abbrev pub JobWaits : List PlanItem → Ticks → ℕ → Job → Type 0
JobWaits plan log t job = (item : PlanItem) × (Has plan item) × (item.job ≡ job) × IsWaiting log t item

-- tick t goes to a job that doesn't wait
pub record NamesUnwaiting (plan : List PlanItem) (log : Ticks) (t : ℕ) : Type 0 where
  pub job : Job
  pub named : tick log t ≡ Some job
  pub unwaiting : JobWaits plan log t job → ⊥

-- tick t is idle while a job waits
pub record IdlesWhileWaiting (plan : List PlanItem) (log : Ticks) (t : ℕ) : Type 0 where
  pub below : t < length log
  pub idle : tick log t ≡ None
  pub item : PlanItem
  pub has : Has plan item
  pub waiting : IsWaiting log t item

-- two jobs under one resource are active in tick t
pub record SharesResource (tasks : List Task) (plan : List PlanItem) (log : Ticks) (t : ℕ) : Type 0 where
  pub below : t < length log
  pub one : PlanItem
  pub other : PlanItem
  pub has_one : Has plan one
  pub has_other : Has plan other
  pub held : 0 < (its_task tasks one).resource
  pub shared : (its_task tasks one).resource ≡ (its_task tasks other).resource
  pub active_one : IsActive log t one
  pub active_other : IsActive log t other
  pub differ : one.job ≡ other.job → ⊥

-- tick t went elsewhere than where the rule gives it
pub record LeavesRule (tasks : List Task) (plan : List PlanItem) (log : Ticks) (t : ℕ) : Type 0 where
  pub below : t < length log
  pub elsewhere : tick log t ≡ choice tasks plan log t → ⊥

-- the log breaks this rule at tick t
abbrev pub Breaks : Rule → List Task → List PlanItem → Ticks → ℕ → Type 0
Breaks Unlawful tasks plan log t = NamesUnwaiting plan log t
Breaks Idle tasks plan log t = IdlesWhileWaiting plan log t
Breaks Shared tasks plan log t = SharesResource tasks plan log t
Breaks NotLeast tasks plan log t = LeavesRule tasks plan log t

-- the place of a rule in the order in which they are judged
abbrev pub place_of : Rule → ℕ
place_of Unlawful = 0
place_of Idle = 1
place_of Shared = 2
place_of NotLeast = 3

-- the log breaks the rule at the tick, none before this tick, and none that comes before this rule at it
pub record IsFirstBroken (tasks : List Task) (plan : List PlanItem) (log : Ticks) (broken : Broken) : Type 0 where
  pub breaks : Breaks broken.rule tasks plan log broken.tick
  pub earliest : (t : ℕ) (rule : Rule) → t < broken.tick → Breaks rule tasks plan log t → ⊥
  pub foremost : (rule : Rule) → place_of rule < place_of broken.rule → Breaks rule tasks plan log broken.tick → ⊥

-- the log is lawful, work-conserving and exclusive, and each tick went where the rule gives it
pub record IsUnbroken (tasks : List Task) (plan : List PlanItem) (log : Ticks) : Type 0 where
  pub lawful : IsLawful plan log
  pub work_conserving : IsWorkConserving plan log
  pub exclusive : IsExclusive tasks plan log
  pub rule : IsEdfDdm tasks plan log
