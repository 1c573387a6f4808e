use Rattle.std.proofs.Common.{refl}
use Rattle.yt_answer.specs.Due.{IsDue}
use Rattle.yt_cmd_play.specs.Causes.{IsPlanText, plan_at_fault, plan_verdict}
use Rattle.yt_playing.specs.Plays.{IsEndingText, ending_verdict}
use Rattle.yt_cmd_play.proofs.Plans.{if_ok_from, no_line_of_memory, played_due}
use Rattle.yt_cmd_play.proofs.answer.plan_answer.Goals as goal

pub returns-in-Ok : goal.returns-in-Ok
returns-in-Ok c =
    let set = c.args.named.now in
    if_ok_from (λ a. IsDue (ending_verdict {set = set} {plan = c.in-Ok.plan}) IsEndingText a.verdict a.text)
    (λ a. IsDue (plan_verdict {set = set} {plan = c.args.plan.now}) IsPlanText a.verdict a.text) c.played_answer.result
    (λ a h. played_due set c.args.plan.now c.in-Ok.plan a.verdict a.text c.in-Ok.ensures.ok h) c.played_answer.ensures

pub returns-in_ok-plan_line-in-Err : goal.returns-in_ok-plan_line-in-Err
returns-in_ok-plan_line-in-Err c = record {
  cause = plan_at_fault c.in-Err.fault c.in-Err.ensures.err (no_line_of_memory c.in_ok-plan_line-in-Err.field-0 c.in-Err.fault c.in_ok-plan_line-in-Err.ensures);
  verdict = refl;
  told = c.in_ok-plan_line-in-Err.ensures;
}
