-- How a tick of a run goes to a job.
use Rattle.std.proofs.Common.{◌≡◌, ◌≢◌, ℕ, suc, ◌+◌, ◌<◌, List, [], ◌∷◌, ◌++◌, length, refl, sym, ap, subst, ◌∙◌, inl, inr, arith, length-append}
use Rattle.std.specs.Prelude.{Result, Ok, Err, OnOk}
use Rattle.std.specs.List.{Contains}
use Rattle.yt_exec.specs.declared.executive.Ticked.{Ticked}
use Rattle.yt_exec.specs.declared.executive.Ticked.TheVariants.{Idle, Ran}
use Rattle.yt_exec.specs.Moments.{Moment}
use Rattle.yt_exec.specs.StandsFor.{GoesOnTo, IsBodyOf, IsTick, job_run}
use Rattle.yt_log.specs.declared.job.Job.{Job}
use Rattle.yt_log.specs.Ticks.{Ticks}
use Rattle.yt_body.specs.Sound.{IsSound}
use Rattle.yt_body.specs.State.{HandlersState, MayBegin, left_at, set_of}
use Rattle.yt_body.specs.Steps.{BeginsJob, StepsJob}
use Rattle.yt_body_laws.specs.Reading.{IsReadTo}
use Rattle.yt_body_laws.specs.Running.{EndsWithJob, HasTicked}
use Rattle.yt_runner.specs.Inside.Going.{IsGoing, IsPlacedNow}
use Rattle.yt_runner.specs.Inside.Laws.{HandlersGoOn}
use Rattle.yt_runner.specs.Inside.State.{RunnerState, graph_of}
use Rattle.yt_runner.proofs.Room.{room_ticked}

pub on_ok : {T E : Type 0} (r : Result T E) (P Q : Type 0) → OnOk r P → (P → Q) → OnOk r Q
on_ok (Ok x) P Q h f = f h
on_ok (Err e) P Q h f = h

-- where a job waits, the tick goes to one
ends_with_job : (next moment : Moment) (before after : HandlersState) (left : Job → ℕ) (log : Ticks) (ticked : Ticked) → moment.entries ≢ [] → IsTick BeginsJob StepsJob left moment next before after ticked →
    EndsWithJob (log ++ job_run ticked ∷ [])
ends_with_job next moment before after left log Idle some tick = absurd (some tick.0)
ends_with_job next moment before after left log (Ran job ended) some tick = (log, job, refl)

some_item : {X : Type 0} (xs : List X) → xs ≢ [] → (x : X) × Contains xs x
some_item [] some = absurd (some refl)
some_item (x ∷ xs) some = (x, (0, omega arith, refl))

module _ (laws : HandlersGoOn) (s : RunnerState) (p : IsPlacedNow s) where
  -- the handlers are a body of the executive
  pub body_now : IsBodyOf s.moment (set_of s.body) (left_at s.body) (MayBegin s.body)
  body_now = laws.run.body s.parts s.trace p.serial p.run p.plan s.lines s.body s.moment p.in_step

  -- after a tick of theirs the run goes on
  pub goes_on :
      s.moment.entries ≢ [] → (after : HandlersState) → IsSound after → (next : Moment) → next.tasks ≡ s.moment.tasks → next.releases ≡ s.moment.releases → (ticked : Ticked) →
      IsTick BeginsJob StepsJob (left_at after) s.moment next s.body after ticked → next.clock ≡ s.moment.clock + 1 → GoesOnTo s.moment next (left_at s.body) (left_at after) ticked →
      (log : Ticks) → log ≡ s.log ++ job_run ticked ∷ [] → (upto : ℕ) → s.moment.clock < upto → IsGoing upto (record s { moment = next; body = after; log = log })
  goes_on some after sound next tasks releases ticked tick clock on log told upto early = record {
    serial = ticks.serial;
    run = ticks.run;
    plan = ticks.plan;
    in_step = ticks.in_step;
    read = subst (λ (n : ℕ). IsReadTo (graph_of s) s.trace n s.taken) (sym long) p.read;
    log = told ∙ ap (λ (l : Ticks). l ++ job_run ticked ∷ []) p.log ∙ sym ticks.log;
    clock = let before = p.clock in let l = long in omega arith;
    room = room_ticked p.room BeginsJob StepsJob (left_at after) s.body after ticked tick tasks releases;
    early = let before = p.clock in let l = long in let one = some_item s.moment.entries some in let lt = laws.run.runs_early s.parts s.trace p.serial p.run p.plan s.lines (suc (length p.run.log)) s.body s.moment p.in_step one.0 one.1 in omega arith;
    to = let before = p.clock in let l = long in omega arith;
    cause = inl (inr (inl (subst EndsWithJob (sym ticks.log) (ends_with_job next s.moment s.body after (left_at after) p.run.log ticked some tick))));
  }
    where
      ticks : HasTicked s.parts s.trace p.run.log s.lines ticked after next
      ticks = laws.run.ticks s.parts s.trace p.serial p.run p.plan s.lines s.body s.moment p.in_step after sound next tasks ticked tick on

      long : length ticks.run.log ≡ suc (length p.run.log)
      long = ap (λ (l : Ticks). length l) ticks.log ∙ (let l = length-append p.run.log (job_run ticked ∷ []) in omega arith)
