-- What is due to the text of a plan.
use Rattle.std.proofs.Common.{◌≡◌, ℕ, List, subst}
use Rattle.std.specs.Prelude.{Result, Ok, Err, IfOk}
use Rattle.yt_answer.specs.Due.{IsDue}
use Rattle.yt_answer.specs.declared.verdict.Verdict.{Verdict}
use Rattle.yt_log.specs.declared.plan.PlanItem.{PlanItem}
use Rattle.yt_log.specs.declared.read.PlanFault.{PlanFault}
use Rattle.yt_log.specs.declared.read.PlanFault.TheVariants.{Memory}
use Rattle.yt_log.specs.PlanText.{plan_of}
use Rattle.yt_playing.specs.Plays.{Ending, IsEndingText, ending_verdict, keeps, misses}
use Rattle.yt_set.specs.NamedTasks.{NamedTasks}
use Rattle.yt_cmd_play.specs.Causes.{IsPlanText, kept, missed, plan_verdict}
use Rattle.yt_cmd_play.specs.Lines.{IsPlanLine}

-- what holds of an answer makes this hold of it
pub if_ok_from : {A E : Type 0} (P Q : A → Type 0) (r : Result A E) → ((a : A) → P a → Q a) → IfOk r P → IfOk r Q
if_ok_from P Q (Ok a) f h = f a h
if_ok_from P Q (Err e) f h = tt

-- a fault that has a line is no want of memory
pub no_line_of_memory : (text : List ℕ) (fault : PlanFault) → IsPlanLine text fault → fault ≡ Memory → ⊥
no_line_of_memory text fault line e = subst (λ f. IsPlanLine text f) e line

-- what is due to the play of the plan that a text says is due to the text
pub played_due : (set : NamedTasks) (text : List ℕ) (items : List PlanItem) (verdict : Verdict) (told : List ℕ) → plan_of set text ≡ Ok items →
    IsDue (ending_verdict {set = set} {plan = items}) IsEndingText verdict told → IsDue (plan_verdict {set = set} {plan = text}) IsPlanText verdict told
played_due set text items verdict told read due = by due.cause due.verdict due.told
  where
    by : (ending : Ending set items) → verdict ≡ ending_verdict ending → IsEndingText ending told → IsDue (plan_verdict {set = set} {plan = text}) IsPlanText verdict told
    by (misses miss) is shown = record { cause = missed items read miss; verdict = is; told = shown }
    by (keeps none) is shown = record { cause = kept items read none; verdict = is; told = shown }
