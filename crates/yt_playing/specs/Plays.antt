-- The play of a legal plan, and what its text shows.
use Rattle.std.specs.Prelude.{◌≡◌, ℕ, List}
use Rattle.yt_answer.specs.declared.verdict.Verdict.{Verdict}
use Rattle.yt_answer.specs.declared.verdict.Verdict.TheVariants.{Done, Missed}
use Rattle.yt_set.specs.declared.task.Task.{Task}
use Rattle.yt_set.specs.NamedTasks.{NamedTasks}
use Rattle.yt_set.specs.Tasks.{Fits}
use Rattle.yt_log.specs.declared.job.Job.{Job}
use Rattle.yt_log.specs.declared.plan.PlanItem.{PlanItem}
use Rattle.yt_log.specs.EdfDdm.{edf_ddm}
use Rattle.yt_log.specs.Judging.{IsFirstMiss}
use Rattle.yt_log.specs.Laws.{IsSafe}
use Rattle.yt_log.specs.Plan.{IsLegalPlan, deadline_of, horizon}
use Rattle.yt_log.specs.Ticks.{Ticks, KeepsDeadlines, Misses}
use Rattle.yt_playing.specs.Texts.{kept_text, missed_text}

-- the log that the rule makes of a plan, until all its deadlines have passed
abbrev pub played : List Task → List PlanItem → Ticks
played tasks plan = edf_ddm tasks plan (horizon tasks plan)

-- a job of the plan misses its deadline there
abbrev pub PlayMisses : List Task → List PlanItem → Type 0
PlayMisses tasks plan = Misses tasks plan (played tasks plan) (horizon tasks plan)

-- each job of the plan is done there by its deadline
abbrev pub PlayKeeps : List Task → List PlanItem → Type 0
PlayKeeps tasks plan = KeepsDeadlines tasks plan (played tasks plan) (horizon tasks plan)

-- whether the set fits or not, the plan is legal, and its log is lawful, work-conserving and exclusive
pub record IsPlay (tasks : List Task) (plan : List PlanItem) : Type 0 where
  pub legal : IsLegalPlan tasks plan
  pub safe : IsSafe tasks plan (played tasks plan)

-- the text shows the schedule up to the first deadline that a job misses, and this job; the set doesn't fit
pub record ShowsMiss (set : NamedTasks) (plan : List PlanItem) (text : List ℕ) : Type 0 where
  pub play : IsPlay set.tasks plan
  pub job : Job
  pub first : IsFirstMiss set.tasks plan (played set.tasks plan) (horizon set.tasks plan) job
  pub printed : text ≡ missed_text set.labels (played set.tasks plan) job (deadline_of set.tasks first.item)
  pub unfit : Fits set.tasks → ⊥

-- the text shows the whole schedule, in which each job is done by its deadline
pub record ShowsAll (set : NamedTasks) (plan : List PlanItem) (text : List ℕ) : Type 0 where
  pub play : IsPlay set.tasks plan
  pub keeps : PlayKeeps set.tasks plan
  pub printed : text ≡ kept_text set.labels (played set.tasks plan)

-- how the play of a legal plan ends: a job misses its deadline, or none does
pub data Ending (set : NamedTasks) (plan : List PlanItem) : Type 0 where
  misses : PlayMisses set.tasks plan → Ending set plan
  keeps : (PlayMisses set.tasks plan → ⊥) → Ending set plan

-- the verdict
abbrev pub ending_verdict : {set : NamedTasks} {plan : List PlanItem} → Ending set plan → Verdict
ending_verdict (misses miss) = Missed
ending_verdict (keeps none) = Done

-- its text
abbrev pub IsEndingText : {set : NamedTasks} {plan : List PlanItem} → Ending set plan → List ℕ → Type 0
IsEndingText {set} {plan} (misses miss) text = ShowsMiss set plan text
IsEndingText {set} {plan} (keeps none) text = ShowsAll set plan text
