use Rattle.std.proofs.Common.{◌≡◌, ◌≤◌, ℕ, List, refl, subst, sym}
use Rattle.std.specs.Prelude.{IfOk, codes}
use Rattle.yt_answer.specs.declared.verdict.Verdict.TheVariants.{Done}
use Rattle.yt_answer.proofs.Lemmas.{due_result}
use Rattle.yt_fits.specs.Loads.{hyperperiod_limit}
use Rattle.yt_fits.specs.Unfits.{IsReason}
use Rattle.yt_fitting.specs.Loads.{IsUnfitText}
use Rattle.yt_fitting.specs.TaskText.{accepted_text}
use Rattle.yt_set.specs.declared.task.Task.{Task}
use Rattle.yt_set.specs.Tasks.{Fits, hyperperiod}
use Rattle.yt_cmd_replay.specs.Causes.{IsReplayedText, fits, replayed_verdict}
use Rattle.yt_cmd_replay.proofs.Replays.{shown_due, wide_due}
use Rattle.yt_cmd_replay.proofs.answer.replay_set.Goals as goal

pub returns-in-Ok : goal.returns-in-Ok
returns-in-Ok c =
    let named = c.args.named.now in
    let is = c.set-set.ensures.set in
    let narrow = subst (λ ts. hyperperiod ts ≤ hyperperiod_limit ts) is c.in-Ok.ensures.narrow in
    let room = subst (λ (ts : List Task). Fits ts) is c.in-Ok.ensures.fits in
    let shown = subst (λ (ts : List Task). IfOk c.accepted_answer.result (λ a. a ≡ record { verdict = Done; text = accepted_text ts })) is c.accepted_answer.ensures in
    due_result (replayed_verdict {set = named}) IsReplayedText (fits narrow room) c.accepted_answer.result Done (accepted_text named.tasks) shown refl refl

pub returns-in-Some : goal.returns-in-Some
returns-in-Some c =
    let reason = subst (λ ts. IsReason ts c.in-Err.why) c.set-set.ensures.set c.in-Err.ensures.err in
    shown_due c.args.named.now c.in-Err.why c.in-Some.pattern c.replay_pattern.result reason (sym c.in-Some.ensures.value) c.replay_pattern.ensures

pub returns-in-None : goal.returns-in-None
returns-in-None c =
    let named = c.args.named.now in
    let is = c.set-set.ensures.set in
    let reason = subst (λ ts. IsReason ts c.in-Err.why) is c.in-Err.ensures.err in
    let text = subst (λ (ls : List (List ℕ)). IfOk c.unfit_answer.result (λ a. IsUnfitText (codes "set") ls named.tasks c.in-Err.why a.text)) c.labels.ensures.labels
    (subst (λ (ts : List Task). IfOk c.unfit_answer.result (λ a. IsUnfitText (codes "set") c.labels.result.now ts c.in-Err.why a.text)) is c.unfit_answer.ensures.text) in
    wide_due named c.in-Err.why c.unfit_answer.result (c.in-None.ensures.none.0 refl) reason c.unfit_answer.ensures.verdict text
