use Rattle.std.proofs.Common.{refl}
use Rattle.yt_answer.specs.Due.{IsDue}
use Rattle.yt_answer.proofs.Lemmas.{due_answer}
use Rattle.yt_fitting.specs.Sets.{at_fault, read}
use Rattle.yt_cmd_play.specs.Causes.{IsPlanText, IsPlayText, plan_verdict, play_verdict}
use Rattle.yt_cmd_play.proofs.Plans.{if_ok_from}
use Rattle.yt_cmd_play.proofs.answer.play_answer.Goals as goal

pub returns-in-Set : goal.returns-in-Set
returns-in-Set c =
    let is = rw c.in-Set.is at c.in_ok-named.ensures in
    if_ok_from (λ a. IsDue (plan_verdict {set = c.in-Set.named} {plan = c.args.plan.now}) IsPlanText a.verdict a.text)
    (λ a. IsDue (play_verdict {set = c.args.set.now} {plan = c.args.plan.now}) IsPlayText a.verdict a.text) c.plan_answer.result
    (λ a h. record { cause = read c.in-Set.named is.0 h.cause; verdict = h.verdict; told = h.told }) c.plan_answer.ensures

pub returns-in-Refused : goal.returns-in-Refused
returns-in-Refused c =
    let is = rw c.in-Refused.is at c.in_ok-named.ensures in
    due_answer (play_verdict {set = c.args.set.now} {plan = c.args.plan.now}) IsPlayText (at_fault is.0 is.1 is.2) c.in-Refused.answer _ _ is.3 refl refl
