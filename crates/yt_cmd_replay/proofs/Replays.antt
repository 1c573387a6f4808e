-- What is due to the replay of a set.
use Rattle.std.proofs.Common.{◌≡◌, List, Some, subst}
use Rattle.std.specs.Prelude.{Result, Ok, Err, IfOk, codes}
use Rattle.yt_answer.specs.declared.answer.Answer.{Answer}
use Rattle.yt_answer.specs.Due.{IsDue}
use Rattle.yt_fits.specs.declared.unfit.Unfit.{Unfit}
use Rattle.yt_fits.specs.declared.unfit.Unfit.TheVariants.{Hyperperiod, Overload, Interval}
use Rattle.yt_fits.specs.Unfits.{IsReason}
use Rattle.yt_fitting.specs.Loads.{IsUnfitText, unfit_verdict}
use Rattle.yt_log.specs.declared.plan.PlanItem.{PlanItem}
use Rattle.yt_log.specs.Patterns.{MustMiss}
use Rattle.yt_playing.specs.Plays.{IsEndingText, ShowsMiss, ending_verdict}
use Rattle.yt_playing.proofs.Lemmas.{miss_is_due, plays_miss}
use Rattle.yt_set.specs.NamedTasks.{NamedTasks}
use Rattle.yt_witness.specs.declared.pattern.Pattern.{Pattern}
use Rattle.yt_witness.specs.Witnesses.{IsShort, IsWide, horizon, pattern_of, plan_of}
use Rattle.yt_cmd_replay.specs.Causes.{IsPatternText, IsReplayedText, pattern_verdict, played, replayed_verdict, too_wide, unfit}

-- what is due to the play of a pattern's plan is due to the pattern: a miss
pub played_due : {E : Type 0} (set : NamedTasks) (pattern : Pattern) (plan : List PlanItem) (result : Result Answer E) → plan ≡ plan_of set.tasks pattern → IsShort set.tasks pattern → MustMiss set.tasks plan (horizon pattern) →
    IfOk result (λ a. IsDue (ending_verdict {set = set} {plan = plan}) IsEndingText a.verdict a.text) → IfOk result (λ a. IsDue (pattern_verdict {set = set} {pattern = pattern}) IsPatternText a.verdict a.text)
played_due set pattern plan (Err e) is short must due = tt
played_due set pattern plan (Ok a) is short must due =
    let shown = miss_is_due set plan a.verdict a.text (plays_miss set.tasks plan (horizon pattern) must) due in
    record {
      cause = played short;
      verdict = shown.0;
      told = record {
        miss = subst (λ (items : List PlanItem). ShowsMiss set items a.text) is shown.1;
        must_miss = subst (λ (items : List PlanItem). MustMiss set.tasks items (horizon pattern)) is must;
      };
    }

-- what is due to the pattern that shows that a set doesn't fit is due to the set
pub shown_due : {E : Type 0} (set : NamedTasks) (why : Unfit) (pattern : Pattern) (result : Result Answer E) → IsReason set.tasks why → pattern_of why ≡ Some pattern →
    IfOk result (λ a. IsDue (pattern_verdict {set = set} {pattern = pattern}) IsPatternText a.verdict a.text) → IfOk result (λ a. IsDue (replayed_verdict {set = set}) IsReplayedText a.verdict a.text)
shown_due set why pattern (Err e) is given due = tt
shown_due set why pattern (Ok a) is given due = record { cause = unfit why is pattern given due.cause; verdict = due.verdict; told = due.told }

-- what is due to a set whose hyperperiod is too great
pub wide_due : {E : Type 0} (set : NamedTasks) (why : Unfit) (result : Result Answer E) → IsWide why → IsReason set.tasks why → IfOk result (λ a. a.verdict ≡ unfit_verdict why) →
    IfOk result (λ a. IsUnfitText (codes "set") set.labels set.tasks why a.text) → IfOk result (λ a. IsDue (replayed_verdict {set = set}) IsReplayedText a.verdict a.text)
wide_due set why (Err e) wide is verdict text = tt
wide_due set (Hyperperiod task) (Ok a) wide is verdict text = record { cause = too_wide task is; verdict = verdict; told = text }
wide_due set (Overload sum) (Ok a) wide is verdict text = absurd wide
wide_due set (Interval breach) (Ok a) wide is verdict text = absurd wide
