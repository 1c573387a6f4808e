-- A tick of the executive with the handlers as its body is one of the run.
use Rattle.std.proofs.Common.{◌≡◌, ℕ, suc, ◌+◌, ◌≤◌, Bool, true, false, List, [], ◌∷◌, ◌++◌, length, None, Some, refl, sym, ap, subst, ◌∙◌, arith}
use Rattle.std.specs.List.{Contains}
use Rattle.yt_list.specs.Numbered.{numbered}
use Rattle.yt_log.specs.declared.job.Job.{Job}
use Rattle.yt_log.specs.declared.plan.PlanItem.{PlanItem}
use Rattle.yt_ready.specs.declared.entry.Entry.{Entry}
use Rattle.yt_exec.specs.declared.executive.Ticked.{Ticked}
use Rattle.yt_exec.specs.declared.executive.Ticked.TheVariants as ticked
use Rattle.yt_exec.specs.declared.executive.Ticked.TheVariants.{Ran}
use Rattle.yt_exec.specs.Bodies.{Runs}
use Rattle.yt_exec.specs.Moments.{Moment, job_in}
use Rattle.yt_exec.specs.StandsFor.{GoesOnTo, IsTick, plan_after}
use Rattle.yt_rates.specs.Acceptance.{Parts}
use Rattle.yt_rates.specs.Rates.{within_of}
use Rattle.yt_trace.specs.declared.message.Message.{Message}
use Rattle.yt_serial.specs.declared.shown.OutLine.{OutLine}
use Rattle.yt_serial.specs.PortMessages.{PortMessage}
use Rattle.yt_serial.specs.SerialHandling.{Serial, handle_message}
use Rattle.yt_serial.proofs.Lemmas.{length_push}
use Rattle.yt_interleave.specs.Executives.{GivesFirstTick, HasLeft, StillStandsFor}
use Rattle.yt_interleave.specs.Interleaved.{RunState, known_at, port_at, with_begun, with_idle}
use Rattle.yt_interleave.specs.Moves.{active_job, after_tick}
use Rattle.yt_interleave.specs.Timing.{HasEnded, IsOnTime}
use Rattle.yt_interleave.proofs.Lemmas.{begins_keep_serial, executives_follow, executives_tick, known_port, runs_are_on_time, runs_go_on}
use Rattle.yt_body.specs.Sound.{IsSound}
use Rattle.yt_body.specs.State.{HandlersState, left_at}
use Rattle.yt_body.specs.Steps.{BeginsJob, StepsJob}
use Rattle.yt_body_laws.specs.Carrying.{Carries}
use Rattle.yt_body_laws.specs.Running.{HasTicked, IsInStep}
use Rattle.yt_body_laws.proofs.Codes.{graph_in, port_is}
use Rattle.yt_body_laws.proofs.Idle.{bodies_idle}
use Rattle.yt_body_laws.proofs.Left.{bodies_have_left}
use Rattle.yt_body_laws.proofs.Steps.{bodies_tick}

module _ (parts : Parts) (trace : List Message) (s : Serial) (r : RunState) (plan : List PlanItem) (lines : List OutLine) (b : HandlersState) (moment : Moment)
    (is : IsInStep parts trace s r plan lines (suc (length r.log)) b moment) (after : HandlersState) (sound : IsSound after) (next : Moment) (kept : next.tasks ≡ moment.tasks) where
  on_time : IsOnTime (graph_in parts) s r
  on_time = runs_are_on_time.on_time (graph_in parts) trace is.can s r (suc (length r.log)) plan lines is.running (omega arith)

  left_of : HasLeft (graph_in parts) r (left_at b)
  left_of = bodies_have_left parts is.accepted trace is.can.can s r is.running.interleaves (λ target. suc (length r.log)) b is.carries

  -- a job that has not ended is due later
  due_later : (port n : ℕ) (m : PortMessage) → numbered (known_at r port) n ≡ Some m → (HasEnded s r port n → ⊥) → suc (length r.log) ≤ m.time + within_of (graph_in parts) (port_at (graph_in parts) port)
  due_later port n m there unended =
      let g = graph_in parts in
      let p = known_port g trace is.can.can s r is.running.interleaves port n m there in
      let before = runs_are_on_time.before_deadline g trace is.can s r is.running.interleaves on_time port n p.0 m p.1 there unended in
      let same : within_of g (port_at g port) ≡ within_of g p.0 = ap (within_of g) (port_is g port p.0 p.1) in
      omega arith

  -- the run after the tick is in step
  in_step : (serial : Serial) (run : RunState) (items : List PlanItem) → StillStandsFor (graph_in parts) trace serial run (suc (length r.log)) items lines next (left_at after) →
      Carries parts serial run (λ target. suc (length r.log)) after → length run.log ≡ suc (length r.log) → IsInStep parts trace serial run items lines (length run.log) after next
  in_step serial run items still carries long =
      subst (λ (due : ℕ). IsInStep parts trace serial run items lines due after next) (sym long) (record {
        accepted = is.accepted;
        can = is.can;
        running = still.running;
        executes = record { tasks = kept ∙ is.executes.tasks; stands = still.stands };
        carries = carries;
        from = omega arith;
        to = omega arith;
      })

  idles : after ≡ b → GoesOnTo moment next (left_at b) (left_at after) ticked.Idle → HasTicked parts trace r.log lines ticked.Idle after next
  idles same goes =
      let still = executives_tick.idles (graph_in parts) trace is.can s r plan lines is.running moment next (left_at b) (left_at after) is.executes kept goes in
      let carries = subst (Carries parts s (with_idle r) (λ target. suc (length r.log))) (sym same) (bodies_idle.idles parts s r (λ target. suc (length r.log)) b is.carries) in
      record {
        serial = s;
        run = with_idle r;
        plan = plan;
        log = refl;
        in_step = in_step s (with_idle r) plan still carries (length_push r.log None);
      }

  module _ (entry : Entry) (has : Contains moment.entries entry) (ended : Bool) (goes : GoesOnTo moment next (left_at b) (left_at after) (Ran (job_in entry) ended)) where
    goes_on : entry.begun ≡ true → StepsJob b (job_in entry) after → HasTicked parts trace r.log lines (Ran (job_in entry) ended) after next
    goes_on begun steps =
        let g = graph_in parts in
        let a = executives_follow.under_way g trace is.can s r (suc (length r.log)) plan lines is.running moment (left_at b) is.executes.stands entry has begun in
        let still = executives_tick.goes_on g trace is.can s r plan lines is.running moment next (left_at b) (left_at after) is.executes kept left_of entry has begun ended goes a.0 a.1 a.2 in
        let due = due_later entry.task a.0.job.number a.0.message (is.running.interleaves.stands.known entry.task a.0 a.1) (λ (h : HasEnded s r entry.task a.0.job.number). h.not_active a.0 a.1 refl) in
        let carries =
        bodies_tick.goes_on parts is.accepted trace is.can.can s r is.running.interleaves (λ target. suc (length r.log)) b is.carries entry.task a.0 a.1 (λ target. due) after
        (subst (λ (j : Job). StepsJob b j after) (sym a.2) steps) sound in
        let grows = runs_go_on.grows g a.0 r in
        record {
          serial = s;
          run = after_tick g a.0 r;
          plan = plan;
          log = grows ∙ ap (λ (j : Job). r.log ++ Some j ∷ []) a.2;
          in_step = in_step s (after_tick g a.0 r) plan still carries (ap length grows ∙ length_push r.log (Some a.0.job));
        }

    begins : entry.begun ≡ false → (mid : HandlersState) → BeginsJob b (job_in entry) mid → StepsJob mid (job_in entry) after → HasTicked parts trace r.log lines (Ran (job_in entry) ended) after next
    begins fresh mid begin steps =
        let g = graph_in parts in
        let job = job_in entry in
        let w = executives_follow.pending g trace is.can s r (suc (length r.log)) plan lines is.running moment (left_at b) is.executes.stands entry has fresh in
        let m = w.0 in
        let gives : GivesFirstTick g trace s r plan lines moment next (left_at b) (left_at after) entry ended m =
        record { running = is.running; executes = is.executes; kept = kept; left_of = left_of; there = has; fresh = fresh; goes = goes; waits = w.1 } in
        let may = executives_tick.may_begin g trace is.can s r plan lines moment next (left_at b) (left_at after) entry ended m gives in
        let number = may.number in
        let arrived = may.arrived in
        let due = due_later entry.task entry.number m may.there (λ (h : HasEnded s r entry.task entry.number). let le = h.handled in omega arith) in
        let serial = handle_message g job m s in
        let run = after_tick g (active_job job m s) (with_begun job m s.vars r) in
        let carries : Carries parts serial run (λ target. suc (length r.log)) after =
        bodies_tick.begins parts is.accepted trace is.can.can s r is.running.interleaves (λ target. suc (length r.log)) b is.carries job m may w.1.fresh (omega arith) (λ target. due) mid after begin steps sound in
        let interleaves = begins_keep_serial g trace is.can.can s r is.running.interleaves job m may in
        let left = bodies_have_left parts is.accepted trace is.can.can serial run interleaves (λ target. suc (length r.log)) after carries in
        let still = executives_tick.begins g trace is.can s r plan lines moment next (left_at b) (left_at after) entry ended m gives left in
        let grows = runs_go_on.grows g (active_job job m s) (with_begun job m s.vars r) in
        record {
          serial = serial;
          run = run;
          plan = plan_after (left_at b) (left_at after) (Ran job ended) plan;
          log = grows;
          in_step = in_step serial run (plan_after (left_at b) (left_at after) (Ran job ended) plan) still carries (ap length grows ∙ length_push r.log (Some job));
        }

    ran : (begun : Bool) → entry.begun ≡ begun → Runs BeginsJob StepsJob begun (job_in entry) b after → HasTicked parts trace r.log lines (Ran (job_in entry) ended) after next
    ran true begun steps = goes_on begun steps
    ran false fresh (mid, begin, steps) = begins fresh mid begin steps

  pub tick : (what : Ticked) → IsTick BeginsJob StepsJob (left_at after) moment next b after what → GoesOnTo moment next (left_at b) (left_at after) what → HasTicked parts trace r.log lines what after next
  tick ticked.Idle is_tick goes = idles is_tick.3 goes
  tick (ticked.Ran job ended) is_tick goes =
      let entry = is_tick.0 in
      let same : job_in entry ≡ job = is_tick.2 in
      let runs = subst (λ (j : Job). Runs BeginsJob StepsJob entry.begun j b after) (sym same) is_tick.3 in
      let on = subst (λ (j : Job). GoesOnTo moment next (left_at b) (left_at after) (Ran j ended)) (sym same) goes in
      subst (λ (j : Job). HasTicked parts trace r.log lines (Ran j ended) after next) same (ran entry is_tick.1.has ended on entry.begun refl runs)
