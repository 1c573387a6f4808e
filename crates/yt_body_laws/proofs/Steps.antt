-- A job begins or goes on.
use Rattle.std.proofs.Common.{◌≡◌, ℕ, suc, ◌+◌, ◌<◌, ◌≤◌, List, length, map, Some, refl, sym, ap, subst, ◌∙◌, ⊎_elim, arith}
use Rattle.std.specs.List.{Contains}
use Rattle.std.proofs.lemmas.Bool.{cases_eq}
use Rattle.std.proofs.lemmas.List.{map-append}
use Rattle.std.proofs.lemmas.Option.{same_Some}
use Rattle.yt_list.specs.Numbered.{numbered}
use Rattle.yt_code.specs.Ready as ready
use Rattle.yt_cost.specs.CodeAlone.{begin_alone}
use Rattle.yt_log.specs.declared.job.Job.{Job}
use Rattle.yt_log.specs.Plan.{jobs_of}
use Rattle.yt_log.specs.Ticks.{done}
use Rattle.yt_log.proofs.Lemmas.{jobs_push_other, jobs_push_same}
use Rattle.yt_chan.specs.declared.port.PortJob.{PortJob}
use Rattle.yt_chan.specs.declared.target.Arrived.{Arrived}
use Rattle.yt_chan.specs.declared.target.Arrived.TheVariants.{Port}
use Rattle.yt_chan.specs.Pending.{Pending}
use Rattle.yt_chan.specs.State.{ChannelState, job_at, open_on, placed_at, waits_at}
use Rattle.yt_chan.specs.Wires.{wire_at, wire_to}
use Rattle.yt_rates.specs.Acceptance.{IsAccepted, Parts}
use Rattle.yt_rates.specs.Rates.{within_of}
use Rattle.yt_trace.specs.declared.message.Message.{Message}
use Rattle.yt_serial.specs.Premises.{CanRun}
use Rattle.yt_serial.specs.PortMessages.{PortMessage}
use Rattle.yt_serial.specs.SerialHandling.{Handled, Serial, handle_message, handled_of, items_of}
use Rattle.yt_interleave.specs.Carrying.{as_message}
use Rattle.yt_interleave.specs.Interleaved.{ActiveJob, RunState, known_at, port_at, put, with_begun}
use Rattle.yt_interleave.specs.Machines.{IsAloneAt}
use Rattle.yt_interleave.specs.Moves.{Interleaves, MayBegin, active_job, after_tick}
use Rattle.yt_interleave.proofs.Lemmas.{handling_written, known_port, machines_go_on, put_cases, put_other, put_same}
use Rattle.yt_body.specs.declared.port_run.PortRun.{PortRun}
use Rattle.yt_body.specs.declared.port_run.PortStage.{PortStage}
use Rattle.yt_body.specs.declared.port_run.PortStage.TheVariants.{Idle, Placed, Begun}
use Rattle.yt_body.specs.Sound.{IsAsStage, IsBegun, IsPlaced, IsSound}
use Rattle.yt_body.specs.State.{HandlersState, code_at, run_at}
use Rattle.yt_body.specs.Steps.{BeginsJob, StepsJob}
use Rattle.yt_body.specs.Wiring.{wires_of}
use Rattle.yt_body_laws.specs.Carrying.{AreRising, Carries, HoldsMessage, RunsJob, come_to}
use Rattle.yt_body_laws.specs.Laws.{BodiesTick}
use Rattle.yt_body_laws.proofs.Carried.{Carried, carried, carries, closed_on, holds_on, runs_on, sent_on, wires_are}
use Rattle.yt_body_laws.proofs.Codes.{graph_in, means, own}
use Rattle.yt_body_laws.proofs.Ticks.{begun_placed, idle_begun, idle_placed, ticked}

-- a port to which one message more has come than it has handled
pub placed_from : (stage : PortStage) (number handled : ℕ) → number ≡ come_to stage handled → suc handled ≤ number → (stage ≡ Placed) × (number ≡ suc handled)
placed_from Idle number handled e le = absurd (omega arith)
placed_from Placed number handled e le = (refl, e)
placed_from Begun number handled e le = absurd (omega arith)

-- what is sound of a port that isn't idle
pub sound_placed : (b : HandlersState) → IsSound b → (port : ℕ) → (run_at b port).stage ≡ Placed → IsPlaced b.parts b.channels port (run_at b port)
sound_placed b sound port stage =
    subst (IsAsStage b.parts b.channels b.vars port (run_at b port)) stage (sound.each port (sound.inside port (λ e. idle_placed (sym e ∙ stage))))

sound_begun : (b : HandlersState) → IsSound b → (port : ℕ) → (run_at b port).stage ≡ Begun → IsBegun b.parts b.channels b.vars port (run_at b port)
sound_begun b sound port stage =
    subst (IsAsStage b.parts b.channels b.vars port (run_at b port)) stage (sound.each port (sound.inside port (λ e. idle_begun (sym e ∙ stage))))

module _ (parts : Parts) (accepted : IsAccepted parts) (trace : List Message) (can : CanRun (graph_in parts) trace) (s : Serial) (r : RunState) (is : Interleaves (graph_in parts) trace s r)
    (due : Arrived → ℕ) (b : HandlersState) (c : Carries parts s r due b) where
  goes_on : (port : ℕ) (a : ActiveJob) → r.active port ≡ Some a → ((target : Arrived) → due target ≤ a.message.time + within_of (graph_in parts) (port_at (graph_in parts) port)) →
      (new : HandlersState) → StepsJob b a.job new → IsSound new → Carries parts s (after_tick (graph_in parts) a r) due new
  goes_on port a at late new steps sound =
      let g = graph_in parts in
      let u = is.stands.under_way port a at in
      let here : r.active a.job.task ≡ Some a = ap r.active u.task ∙ at in
      let there = is.stands.known a.job.task a here in
      let p = known_port g trace can s r is a.job.task a.job.number a.message there in
      let run = c.begun a.job.task a here in
      let held = (sound_begun b c.sound a.job.task run.stage).held in
      let after = held.number in
      let number = run.number in
      let of = machines_go_on.ticks g trace can s r is a.job.task a here (code_at parts a.job.task) (means parts accepted a.job.task p.0 p.1) (own parts accepted a.job.task p.0 p.1) run.progress run.alone in
      carries parts s (after_tick g a r) due new sound
      (ticked parts accepted trace can s r is r.active (λ q x at_x. (is.stands.under_way q x at_x).task) s due b (carried parts s r due b c) a here p.0 p.1 there (omega arith)
      (λ t. subst (λ (q : ℕ). due t ≤ a.message.time + within_of g (port_at g q)) (sym u.task) (late t))
      (done r.log a.job (length r.log)) refl run of new steps (is.unfinished a.job.task a here))

  module _ (job : Job) (m : PortMessage) (may : MayBegin (graph_in parts) s r job m) (fresh : done r.log job (length r.log) ≡ 0) (early : m.time < due (Port job.task))
      (mid : HandlersState) (begins : BeginsJob b job mid) where
    abbrev a : ActiveJob
    a = active_job job m s

    abbrev after : RunState
    after = with_begun job m s.vars r

    placed_now : ((run_at b job.task).stage ≡ Placed) × ((run_at b job.task).number ≡ suc (handled_of s job.task))
    placed_now =
        let le = c.arrived job.task job.number m may.there early in
        let number = may.number in
        placed_from (run_at b job.task).stage (run_at b job.task).number (handled_of s job.task) (c.came job.task) (omega arith)

    number_is : (run_at b job.task).number ≡ job.number
    number_is = placed_now.1 ∙ sym may.number

    holds : HoldsMessage r (due (Port job.task)) b job.task
    holds = c.placed job.task placed_now.0

    message_is : holds.message ≡ m
    message_is = same_Some holds.message m (sym holds.there ∙ ap (numbered (known_at r job.task)) number_is ∙ may.there)

    values_are : begins.message ≡ m.values
    values_are = same_Some begins.message m.values (sym begins.placed ∙ holds.values ∙ ap (λ (x : PortMessage). Some x.values) message_is)

    abbrev here : RunsJob parts (with_begun job m s.vars r) mid job.task (active_job job m s)
    here = record {
      stage = ap (λ (x : PortRun). x.stage) begins.run.here;
      number = ap (λ (x : PortRun). x.number) begins.run.here ∙ number_is;
      arrival = ap (λ (x : PortRun). x.arrival) begins.run.here ∙ holds.arrival ∙ ap (λ (x : PortMessage). x.time) message_is;
      progress = begin_alone (code_at parts job.task) m.values s.vars;
      alone = subst (λ (k : ℕ). IsAloneAt (code_at parts job.task) m.values s.vars k (begin_alone (code_at parts job.task) m.values s.vars)) (sym fresh) refl;
      machine =
          sym (ap (λ (x : PortRun). x.machine) begins.run.here ∙ ap (ready.begun (code_at b.parts job.task)) values_are ∙ ap (λ (q : Parts). ready.begun (code_at q job.task) m.values) c.graph);
      sent = λ out. ap (λ (x : ChannelState). open_on x job.task out) begins.channels ∙ (sound_placed b c.sound job.task placed_now.0).none out;
    }

    same_number : (port : ℕ) → (run_at mid port).number ≡ (run_at b port).number
    same_number port =
        ⊎_elim
        (λ (own : port ≡ job.task). ap (λ (q : ℕ). (run_at mid q).number) own ∙ ap (λ (x : PortRun). x.number) begins.run.here ∙ ap (λ (q : ℕ). (run_at b q).number) (sym own))
        (λ (other : port ≡ job.task → ⊥). ap (λ (x : PortRun). x.number) (begins.run.others port other))
        (cases_eq port job.task)

    jobs : (port : ℕ) → job_at mid.channels port ≡ job_at b.channels port
    jobs port = ap (λ (x : ChannelState). job_at x port) begins.channels

    waits : (t : Arrived) → waits_at mid.channels t ≡ waits_at b.channels t
    waits t = ap (λ (x : ChannelState). waits_at x t) begins.channels

    begun : Carried parts (handle_message (graph_in parts) job m s) (with_begun job m s.vars r) due mid
    begun = record {
      graph = begins.parts ∙ c.graph;
      wires = ap (λ (x : ChannelState). x.wires) begins.channels ∙ wires_are parts b c.graph c.sound;
      vars = begins.vars ∙ c.vars;
      begun = λ port x at_x.
          ⊎_elim
          (λ (e : (port ≡ job.task) × (Some a ≡ Some x)).
          subst (λ (y : ActiveJob). RunsJob parts after mid port y) (same_Some a x e.1) (subst (λ (q : ℕ). RunsJob parts after mid q a) (sym e.0) here))
          (λ (e : (port ≡ job.task → ⊥) × (r.active port ≡ Some x)).
          runs_on parts r after b mid port x (begins.run.others port e.0) refl (λ out. ap (λ (x : ChannelState). open_on x port out) begins.channels) (c.begun port x e.1))
          (put_cases job.task (Some a) (Some x) r.active port at_x);
      only = λ port stage.
          ⊎_elim
          (λ (own : port ≡ job.task). (a, put_same job.task (Some a) r.active port own))
          (λ (other : port ≡ job.task → ⊥).
          let o = c.only port (sym (ap (λ (x : PortRun). x.stage) (begins.run.others port other)) ∙ stage) in
          (o.0, put_other job.task (Some a) r.active port other ∙ o.1))
          (cases_eq port job.task);
      placed = λ port stage.
          ⊎_elim
          (λ (own : port ≡ job.task). absurd (begun_placed (sym here.stage ∙ ap (λ (q : ℕ). (run_at mid q).stage) (sym own) ∙ stage)))
          (λ (other : port ≡ job.task → ⊥).
          holds_on r after (due (Port port)) (due (Port port)) b mid port (begins.run.others port other) (ap (λ (x : ChannelState). placed_at x (Port port)) begins.channels) (λ q k m h. h) (omega arith)
          (c.placed port (sym (ap (λ (x : PortRun). x.stage) (begins.run.others port other)) ∙ stage)))
          (cases_eq port job.task);
      came = λ port.
          ⊎_elim
          (λ (own : port ≡ job.task).
          let handled : handled_of (handle_message (graph_in parts) job m s) port ≡ suc (handled_of s port) = ap (jobs_of port) (map-append (λ (h : Handled). h.item) s.handled _) ∙ jobs_push_same port (items_of s) _ (sym own) in
          let old : (run_at b port).number ≡ suc (handled_of s port) = ap (λ (q : ℕ). (run_at b q).number) own ∙ placed_now.1 ∙ ap (λ (q : ℕ). suc (handled_of s q)) (sym own) in
          let stage : (run_at mid port).stage ≡ Begun = ap (λ (q : ℕ). (run_at mid q).stage) own ∙ here.stage in
          same_number port ∙ old ∙ sym handled ∙ ap (λ (x : PortStage). come_to x (handled_of (handle_message (graph_in parts) job m s) port)) (sym stage))
          (λ (other : port ≡ job.task → ⊥).
          let handled : handled_of (handle_message (graph_in parts) job m s) port ≡ handled_of s port = ap (jobs_of port) (map-append (λ (h : Handled). h.item) s.handled _) ∙ jobs_push_other port (items_of s) _ (λ e. other (sym e)) in
          same_number port ∙ c.came port ∙ ap (λ (x : PortStage). come_to x (handled_of s port)) (sym (ap (λ (x : PortRun). x.stage) (begins.run.others port other)))
          ∙ ap (come_to (run_at mid port).stage) (sym handled))
          (cases_eq port job.task);
      arrived = λ port k m h lt. subst (λ (q : ℕ). k ≤ q) (sym (same_number port)) (c.arrived port k m h lt);
      closed = λ port some.
          let number = ap (λ (j : PortJob). j.number) (jobs port) in
          closed_on r after b.channels mid.channels port number (ap (λ (j : PortJob). j.arrival) (jobs port)) (λ q k m h. h) (c.closed port (omega arith));
      waits = λ t. ap (map as_message) (waits t) ∙ c.waits t;
      rise = λ t. subst AreRising (sym (waits t)) (c.rise t);
      sent = λ t m h.
          let w = wire_at (wires_of (graph_in parts)) (wire_to (wires_of (graph_in parts)) t) in
          let number = ap (λ (j : PortJob). j.number) (jobs w.port) in
          sent_on r after b.channels mid.channels w m (omega arith) (λ q k m h. h) (c.sent t m (subst (λ (xs : List Pending). Contains xs m) (waits t) h));
    }

    begins_on : ((target : Arrived) → due target ≤ m.time + within_of (graph_in parts) (port_at (graph_in parts) job.task)) → (new : HandlersState) → StepsJob mid job new → IsSound new →
        Carries parts (handle_message (graph_in parts) job m s) (after_tick (graph_in parts) (active_job job m s) (with_begun job m s.vars r)) due new
    begins_on late new steps sound =
        let g = graph_in parts in
        let p = known_port g trace can s r is job.task job.number m may.there in
        let held = (sound_placed b c.sound job.task placed_now.0).held in
        let before = held.number in
        let number = number_is in
        let same = ap (λ (j : PortJob). j.number) (jobs job.task) in
        let of = machines_go_on.first g trace can s r is job m may (code_at parts job.task) (means parts accepted job.task p.0 p.1) (own parts accepted job.task p.0 p.1) in
        let tasks : (port : ℕ) (x : ActiveJob) → put job.task (Some a) r.active port ≡ Some x → x.job.task ≡ port = λ port x at_x.
        ⊎_elim
        (λ (e : (port ≡ job.task) × (Some a ≡ Some x)). ap (λ (y : ActiveJob). y.job.task) (sym (same_Some a x e.1)) ∙ sym e.0)
        (λ (e : (port ≡ job.task → ⊥) × (r.active port ≡ Some x)). (is.stands.under_way port x e.1).task)
        (put_cases job.task (Some a) (Some x) r.active port at_x) in
        carries parts (handle_message g job m s) (after_tick g a after) due new sound
        (ticked parts accepted trace can s r is (put job.task (Some a) r.active) tasks (handle_message g job m s) due mid begun a (put_same job.task (Some a) r.active job.task refl) p.0 p.1 may.there (omega arith)
        late 0 fresh here of new steps (handling_written g (port_at g job.task) m.values s.vars).some)

pub bodies_tick : BodiesTick
bodies_tick = record {
  goes_on = λ parts accepted trace can s r is due b c port a at late new steps sound. goes_on parts accepted trace can s r is due b c port a at late new steps sound;
  begins = λ parts accepted trace can s r is due b c job m may fresh early late mid new begins steps sound.
      begins_on parts accepted trace can s r is due b c job m may fresh early mid begins late new steps sound;
}
