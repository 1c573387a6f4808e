use Rattle.std.proofs.Common.{◌≡◌, ◌∷◌, ◌++◌, ◌+◌, [], Option, sym, ap, subst, ◌∙◌}
use Rattle.yt_exec.specs.StandsFor.{GoesOnTo, IsBodyOf, IsTick, job_run}
use Rattle.yt_log.specs.declared.job.Job.{Job}
use Rattle.yt_body.specs.State.{MayBegin, left_at, set_of}
use Rattle.yt_body.specs.Steps.{BeginsJob, StepsJob}
use Rattle.yt_runner.specs.Inside.Going.{IsGoing}
use Rattle.yt_runner.specs.Inside.State.{RunnerState}
use Rattle.yt_runner.proofs.Ticking.{body_now, goes_on, on_ok}
use Rattle.yt_runner.proofs.running.Running.tick.Goals as goal

pub tick-ticked-requires-clause-body : goal.tick-ticked-requires-clause-body
tick-ticked-requires-clause-body c =
    subst (λ (s : RunnerState). IsBodyOf s.moment (set_of s.body) (left_at s.body) (MayBegin s.body)) (sym c.self.view_is)
    (body_now c.handlers_go_on.ensures c.args.self.now c.requires.placed)

pub returns-clause-going : goal.returns-clause-going
returns-clause-going c =
    let now = c.args.self.now in
    let e = c.tick-ticked.ensures in
    let moment = c.tick-ticked.new.self in
    let after = c.tick-ticked.new.body in
    let ticked = c.tick-ticked.result in
    let log = c.tell.new.self in
    let tasks : moment.tasks ≡ now.moment.tasks = e.tasks ∙ ap (λ (s : RunnerState). s.moment.tasks) c.self.view_is in
    let releases : moment.releases ≡ now.moment.releases = e.releases ∙ ap (λ (s : RunnerState). s.moment.releases) c.self.view_is in
    let clock : moment.clock ≡ now.moment.clock + 1 = e.now ∙ ap (λ (s : RunnerState). s.moment.clock + 1) c.self.view_is in
    let tick = subst (λ (s : RunnerState). IsTick BeginsJob StepsJob (left_at after) s.moment moment s.body after ticked) c.self.view_is e.ticked in
    let on = subst (λ (s : RunnerState). GoesOnTo s.moment moment (left_at s.body) (left_at after) ticked) c.self.view_is e.stands in
    on_ok c.tell.result _ _ c.tell.ensures.ok (λ told upto early.
    let is : log ≡ now.log ++ job_run ticked ∷ [] = told ∙ ap (λ (o : Option Job). c.self.inside.log ++ o ∷ []) c.job_run.ensures ∙ ap (λ (s : RunnerState). s.log ++ job_run ticked ∷ []) c.self.view_is in
    subst (λ (s : RunnerState). IsGoing upto (record s { moment = moment; body = after; log = log })) (sym c.self.view_is)
    (goes_on c.handlers_go_on.ensures now c.requires.placed c.requires.some after c.vars-sound.ensures.sound moment tasks releases ticked tick clock on log is upto early))
