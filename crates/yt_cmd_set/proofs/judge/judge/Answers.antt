use Rattle.std.proofs.Common.{◌≡◌, ℕ, List, refl, subst, ◌≤◌}
use Rattle.std.specs.Prelude.{IfOk, codes}
use Rattle.yt_answer.specs.declared.verdict.Verdict.TheVariants.{Done}
use Rattle.yt_answer.proofs.Lemmas.{due_result}
use Rattle.yt_fits.specs.Loads.{hyperperiod_limit}
use Rattle.yt_fits.specs.Unfits.{IsReason}
use Rattle.yt_fitting.specs.Loads.{IsUnfitText, fits}
use Rattle.yt_fitting.specs.TaskText.{accepted_text}
use Rattle.yt_fitting.proofs.Lemmas.{due_unfit}
use Rattle.yt_set.specs.declared.task.Task.{Task}
use Rattle.yt_set.specs.Tasks.{Fits, hyperperiod}
use Rattle.yt_cmd_set.specs.Judged.{IsFitText, fit_verdict}
use Rattle.yt_cmd_set.proofs.judge.judge.Goals as goal

pub returns-in-Ok : goal.returns-in-Ok
returns-in-Ok c =
    let named = c.args.named.now in
    let is = c.set-set.ensures.set in
    let narrow = subst (λ ts. hyperperiod ts ≤ hyperperiod_limit ts) is c.in-Ok.ensures.narrow in
    let room = subst (λ (ts : List Task). Fits ts) is c.in-Ok.ensures.fits in
    let shown = subst (λ (ts : List Task). IfOk c.accepted_answer.result (λ a. a ≡ record { verdict = Done; text = accepted_text ts })) is c.accepted_answer.ensures in
    due_result (fit_verdict named) (IsFitText named) (fits narrow room tt) c.accepted_answer.result Done (accepted_text named.tasks) shown refl refl

pub returns-in-Err : goal.returns-in-Err
returns-in-Err c =
    let named = c.args.named.now in
    let is = c.set-set.ensures.set in
    let reason = subst (λ ts. IsReason ts c.in-Err.why) is c.in-Err.ensures.err in
    let text = subst (λ (ls : List (List ℕ)). IfOk c.unfit_answer.result (λ a. IsUnfitText (codes "set") ls named.tasks c.in-Err.why a.text)) c.labels.ensures.labels
    (subst (λ (ts : List Task). IfOk c.unfit_answer.result (λ a. IsUnfitText (codes "set") c.labels.result.now ts c.in-Err.why a.text)) is c.unfit_answer.ensures.text) in
    due_unfit (codes "set") named.labels named.tasks (Unit {0}) (λ _. Done) (λ _ t. t ≡ accepted_text named.tasks) c.in-Err.why c.unfit_answer.result reason c.unfit_answer.ensures.verdict text
