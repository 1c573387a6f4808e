-- What is proved of every task set, plan and log. The rule is earliest deadline first with dynamic deadline modification (`IsEdfDdm`).
use Rattle.std.specs.Prelude.{◌≡◌, ◌⊎◌, ℕ, ◌<◌, ◌≤◌, List, [], ◌∷◌, ◌++◌, Some, None, length}
use Rattle.std.specs.List.{All}
use Rattle.yt_list.specs.Numbered.{numbered}
use Rattle.yt_set.specs.declared.task.Task.{Task}
use Rattle.yt_set.specs.Tasks.{IsTaskSet, FitsLoad, FitsInterval, Fits, LacksRoom, within, demand_bound, hyperperiod, load}
use Rattle.yt_log.specs.declared.plan.PlanItem.{PlanItem}
use Rattle.yt_log.specs.Tasks.{Has}
use Rattle.yt_log.specs.Plan.{IsNext, IsLegal}
use Rattle.yt_log.specs.Ticks.{Ticks, done, IsWaiting, IsLawful, IsWorkConserving, IsExclusive, KeepsDeadlines, Misses}
use Rattle.yt_log.specs.EdfDdm.{ComesFirst, choice, IsEdfDdm, edf_ddm}
use Rattle.yt_log.specs.Patterns.{MustMiss, pattern_plan, all_tasks, blocker}

-- no span asks for more ticks than it has
abbrev pub FitsDemand : List Task → Type 0
FitsDemand tasks = (t : ℕ) → demand_bound tasks t ≤ t

-- so it is where the load fits and each job is due at its period's end
abbrev pub EveryDemandFits : Type 0
EveryDemandFits = (tasks : List Task) → IsTaskSet tasks → All (λ task. within task ≡ task.period) tasks → FitsLoad tasks → FitsDemand tasks

-- where more is due than there are ticks, all tasks from zero on must miss a deadline by then; so they must by the hyperperiod where the load doesn't fit
pub record OverloadsMiss : Type 0 where
  pub demand : (tasks : List Task) → IsTaskSet tasks → (t : ℕ) → t < demand_bound tasks t → MustMiss tasks (pattern_plan (all_tasks tasks t)) t
  pub load : (tasks : List Task) → IsTaskSet tasks → hyperperiod tasks < load tasks (hyperperiod tasks) → MustMiss tasks (pattern_plan (all_tasks tasks (hyperperiod tasks))) (hyperperiod tasks)

-- where a task lacks room in a span, its job at 0 and what arrives after that must miss a deadline by the span's end
abbrev pub BlockersMiss : Type 0
BlockersMiss =
    (tasks : List Task) → IsTaskSet tasks → (i : ℕ) (task : Task) → numbered tasks i ≡ Some task →
    (span : ℕ) → LacksRoom tasks span task → MustMiss tasks (pattern_plan (blocker tasks i span)) span

-- a log that is lawful, work-conserving and exclusive
pub record IsSafe (tasks : List Task) (plan : List PlanItem) (log : Ticks) : Type 0 where
  pub lawful : IsLawful plan log
  pub work_conserving : IsWorkConserving plan log
  pub exclusive : IsExclusive tasks plan log

-- whether the set fits or not, each log of the rule is so
abbrev pub RuleIsSafe : Type 0
RuleIsSafe = (tasks : List Task) (plan : List PlanItem) → IsLegal tasks plan → (log : Ticks) → IsEdfDdm tasks plan log → IsSafe tasks plan log

-- each log of the rule, of any length, keeps its deadlines up to its length
abbrev pub RuleKeeps : List Task → Type 0
RuleKeeps tasks = (plan : List PlanItem) → IsLegal tasks plan → (log : Ticks) → IsEdfDdm tasks plan log → KeepsDeadlines tasks plan log (length log)

-- so it does where no span asks for more ticks than it has, and each task under a resource leaves room
abbrev pub DemandKeeps : Type 0
DemandKeeps = (tasks : List Task) → IsTaskSet tasks → FitsDemand tasks → FitsInterval tasks → RuleKeeps tasks

-- so where the set fits
abbrev pub FitsKeeps : Type 0
FitsKeeps = (tasks : List Task) → IsTaskSet tasks → Fits tasks → RuleKeeps tasks

-- where no task is under a resource, it is enough that no span asks for more ticks than it has
abbrev pub FreeFitsKeeps : Type 0
FreeFitsKeeps = (tasks : List Task) → IsTaskSet tasks → All (λ task. task.resource ≡ 0) tasks → FitsDemand tasks → RuleKeeps tasks

-- the rule's own log is among those that miss
abbrev pub RuleMisses : Type 0
RuleMisses =
    (tasks : List Task) (plan : List PlanItem) (h : ℕ) → MustMiss tasks plan h →
    (log : Ticks) → h ≤ length log → IsEdfDdm tasks plan log → Misses tasks plan log h

-- each set fits or has a legal plan that must miss, and none has both
pub record FitsIsExact : Type 0 where
  pub one : (tasks : List Task) → IsTaskSet tasks → Fits tasks ⊎ ((plan : List PlanItem) × (h : ℕ) × MustMiss tasks plan h)
  pub not_both : (tasks : List Task) → IsTaskSet tasks → Fits tasks → (plan : List PlanItem) (h : ℕ) → MustMiss tasks plan h → ⊥

-- the log that the rule makes has the length that is asked for, and each tick of it goes where the rule gives it
pub record IsMade (tasks : List Task) (plan : List PlanItem) (n : ℕ) : Type 0 where
  pub long : length (edf_ddm tasks plan n) ≡ n
  pub rule : IsEdfDdm tasks plan (edf_ddm tasks plan n)

abbrev pub RuleMakesLogs : Type 0
RuleMakesLogs = (tasks : List Task) (plan : List PlanItem) (n : ℕ) → IsMade tasks plan n

-- two logs of the rule, of one plan and one length, are one
abbrev pub RuleIsDetermined : Type 0
RuleIsDetermined =
    (tasks : List Task) (plan : List PlanItem) (a b : Ticks) → IsEdfDdm tasks plan a → IsEdfDdm tasks plan b → length a ≡ length b → a ≡ b

-- the rule gives a tick to the item that waits and that none which waits comes before, and to none where none waits
pub record RuleIsLeast : Type 0 where
  pub some : (tasks : List Task) (plan : List PlanItem) (log : Ticks) (t : ℕ) (item : PlanItem) → ComesFirst tasks plan log t item → choice tasks plan log t ≡ Some item.job
  pub none : (tasks : List Task) (plan : List PlanItem) (log : Ticks) (t : ℕ) → ((item : PlanItem) → Has plan item → IsWaiting log t item → ⊥) → choice tasks plan log t ≡ None

-- the rule decides as time goes on: a plan and a log may grow by an item that may follow, by items that arrive at the log's end or later, and by the tick that the rule gives
pub record RuleIsOnline : Type 0 where
  pub item : (tasks : List Task) (plan : List PlanItem) (item : PlanItem) → IsLegal tasks plan → IsNext tasks plan item → IsLegal tasks (plan ++ item ∷ [])
  pub plan : (tasks : List Task) (plan more : List PlanItem) (log : Ticks) → ((item : PlanItem) → Has more item → length log ≤ item.arrival) → IsEdfDdm tasks plan log → IsEdfDdm tasks (plan ++ more) log
  pub tick : (tasks : List Task) (plan : List PlanItem) (log : Ticks) → IsEdfDdm tasks plan log → IsEdfDdm tasks plan (log ++ choice tasks plan log (length log) ∷ [])

-- the job of an item isn't done at the log's end, so that the log doesn't tell its cost
abbrev pub IsUnfinished : Ticks → PlanItem → Type 0
IsUnfinished log item = done log item.job (length log) < item.cost

-- as far as the log tells, two items are the same: of one job and one arrival, and of one cost or both unfinished
pub record IsSameSoFar (log : Ticks) (a b : PlanItem) : Type 0 where
  pub job : a.job ≡ b.job
  pub arrival : a.arrival ≡ b.arrival
  pub cost : (a.cost ≡ b.cost) ⊎ (IsUnfinished log a × IsUnfinished log b)

-- as far as the log tells, two plans are the same
abbrev pub AreSameSoFar : Ticks → List PlanItem → List PlanItem → Type 0
AreSameSoFar log [] [] = Unit {0}
AreSameSoFar log [] (b ∷ ys) = ⊥
AreSameSoFar log (a ∷ xs) [] = ⊥
AreSameSoFar log (a ∷ xs) (b ∷ ys) = IsSameSoFar log a b × AreSameSoFar log xs ys

-- of two plans that differ in costs alone which the log doesn't tell, the rule chooses alike in each of its ticks and in the next one
pub record RuleIsNonClairvoyant : Type 0 where
  pub choice : (tasks : List Task) (plan other : List PlanItem) (log : Ticks) → AreSameSoFar log plan other → (t : ℕ) → t ≤ length log → choice tasks plan log t ≡ choice tasks other log t
  pub rule : (tasks : List Task) (plan other : List PlanItem) (log : Ticks) → AreSameSoFar log plan other → IsEdfDdm tasks plan log → IsEdfDdm tasks other log
