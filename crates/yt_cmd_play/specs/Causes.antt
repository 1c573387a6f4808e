-- Why a verdict on a play comes, by the texts of the set and of the plan, and its text.
use Rattle.std.specs.Prelude.{◌≡◌, ℕ, List, Ok}
use Rattle.yt_answer.specs.declared.verdict.Verdict.{Verdict}
use Rattle.yt_answer.specs.declared.verdict.Verdict.TheVariants.{Done, Missed, Trace}
use Rattle.yt_fitting.specs.Sets.{IsSetText, SetCause, set_verdict}
use Rattle.yt_log.specs.declared.plan.PlanItem.{PlanItem}
use Rattle.yt_log.specs.declared.read.PlanFault.{PlanFault}
use Rattle.yt_log.specs.declared.read.PlanFault.TheVariants.{Memory}
use Rattle.yt_log.specs.PlanFaults.{IsFaultOf}
use Rattle.yt_log.specs.PlanText.{plan_of}
use Rattle.yt_set.specs.NamedTasks.{NamedTasks}
use Rattle.yt_cmd_play.specs.Lines.{IsPlanLine}
use Rattle.yt_playing.specs.Plays.{PlayMisses, ShowsAll, ShowsMiss}

-- why a verdict on the text of a plan for a set comes: it has this first line at fault; or it says these items, which are played, with
-- a miss or without
pub data PlanCause (set : NamedTasks) (plan : List ℕ) : Type 0 where
  plan_at_fault : (fault : PlanFault) → IsFaultOf set plan fault → (fault ≡ Memory → ⊥) → PlanCause set plan
  missed : (items : List PlanItem) → plan_of set plan ≡ Ok items → PlayMisses set.tasks items → PlanCause set plan
  kept : (items : List PlanItem) → plan_of set plan ≡ Ok items → (PlayMisses set.tasks items → ⊥) → PlanCause set plan

-- the verdict
abbrev pub plan_verdict : {set : NamedTasks} {plan : List ℕ} → PlanCause set plan → Verdict
plan_verdict (plan_at_fault fault is not_memory) = Trace
plan_verdict (missed items is misses) = Missed
plan_verdict (kept items is keeps) = Done

-- its text
abbrev pub IsPlanText : {set : NamedTasks} {plan : List ℕ} → PlanCause set plan → List ℕ → Type 0
IsPlanText (plan_at_fault fault is not_memory) text = IsPlanLine text fault
IsPlanText {set} (missed items is misses) text = ShowsMiss set items text
IsPlanText {set} (kept items is keeps) text = ShowsAll set items text

-- why a verdict on a play comes: the set has a first line at fault, or the plan is judged
abbrev pub PlayCause : List ℕ → List ℕ → Type 0
PlayCause set plan = SetCause set (λ named. PlanCause named plan)

-- the verdict
abbrev pub play_verdict : {set plan : List ℕ} → PlayCause set plan → Verdict
play_verdict cause = set_verdict (λ named why. plan_verdict why) cause

-- its text
abbrev pub IsPlayText : {set plan : List ℕ} → PlayCause set plan → List ℕ → Type 0
IsPlayText cause text = IsSetText (λ named why told. IsPlanText why told) cause text
