-- The ticks of jobs.
use Rattle.std.proofs.Common.{◌≡◌, ℕ, zero, suc, ◌+◌, ◌<◌, ◌≤◌, eqb, false, List, [], ◌++◌, length, map, Option, None, Some, refl, sym, ap, ap₂, subst, ◌∙◌, ⊎_elim, arith, eq-eqb, ne_eqb}
use Rattle.std.specs.Prelude.{ℤ}
use Rattle.std.specs.List.{Contains}
use Rattle.std.proofs.lemmas.Bool.{cases_eq, cases_lt, cond-true, cond-false}
use Rattle.std.proofs.lemmas.List.{get_or_past, map-append}
use Rattle.std.proofs.lemmas.List.Elements.{Contains-append_cases}
use Rattle.std.proofs.lemmas.Option.{none-some, same_Some}
use Rattle.yt_graph.specs.Picture.{GraphTree, PortTree}
use Rattle.yt_graph.specs.Sends.{messages_on}
use Rattle.yt_list.specs.Numbered.{numbered}
use Rattle.yt_code.specs.declared.stepped.Stepped.{Stepped}
use Rattle.yt_code.specs.Step.{State, Tick, instruction_step}
use Rattle.yt_log.specs.declared.job.Job.{Job}
use Rattle.yt_log.specs.Ticks.{done}
use Rattle.yt_chan.specs.declared.port.PortJob.{PortJob}
use Rattle.yt_chan.specs.declared.target.Arrived.{Arrived}
use Rattle.yt_chan.specs.declared.target.Arrived.TheVariants.{Port}
use Rattle.yt_chan.specs.declared.wire.Wire.{Wire}
use Rattle.yt_chan.specs.Pending.{Pending}
use Rattle.yt_chan.specs.State.{ChannelState, job_at, open_at, open_on, passed_to, placed_at, waits_at}
use Rattle.yt_chan.specs.Wires.{no_wire, wire_at, wire_of_out, wire_to}
use Rattle.yt_chan.proofs.Lemmas.{line_is}
use Rattle.yt_rates.specs.Acceptance.{IsAccepted, Parts}
use Rattle.yt_rates.specs.Rates.{within_of}
use Rattle.yt_trace.specs.declared.message.Message.{Message}
use Rattle.yt_serial.specs.Premises.{CanRun}
use Rattle.yt_serial.specs.PortMessages.{PortMessage}
use Rattle.yt_serial.specs.SerialHandling.{Serial, handled_of}
use Rattle.yt_serial.specs.Variables.{after_writes, writes_at}
use Rattle.yt_serial.proofs.Lemmas.{done_other, done_this}
use Rattle.yt_interleave.specs.Carrying.{as_message}
use Rattle.yt_interleave.specs.Interleaved.{ActiveJob, RunState, known_at, port_at, whole_of, with_end, with_tick}
use Rattle.yt_interleave.specs.Machines.{GoesOnAlone, IsAloneAt, IsTickOf}
use Rattle.yt_interleave.specs.Moves.{Interleaves, after_tick}
use Rattle.yt_interleave.proofs.Lemmas.{after_last, after_other, messages-append, put_cases, put_other}
use Rattle.yt_body.specs.declared.port_run.PortRun.{PortRun}
use Rattle.yt_body.specs.declared.port_run.PortStage.{PortStage}
use Rattle.yt_body.specs.declared.port_run.PortStage.TheVariants.{Idle, Placed, Begun}
use Rattle.yt_body.specs.Sends.{Closes}
use Rattle.yt_body.specs.State.{HandlersState, code_at, run_at}
use Rattle.yt_body.specs.Steps.{GoesOn, StepsJob}
use Rattle.yt_body.specs.Wiring.{wires_of}
use Rattle.yt_body_laws.specs.Carrying.{AreRising, RunsJob, come_to}
use Rattle.yt_body_laws.proofs.Carried.{Carried, KeepsKnown, closed_on, holds_on, runs_on, sent_on}
use Rattle.yt_body_laws.proofs.Closing.{grows_known, grows_waits, leaves, left_by_it, rises_on, was_known}
use Rattle.yt_body_laws.proofs.Codes.{graph_in}
use Rattle.yt_body_laws.proofs.Sources.{limited}

pub idle_begun : Idle ≡ Begun → ⊥
idle_begun e = cc

pub idle_placed : Idle ≡ Placed → ⊥
idle_placed e = cc

pub begun_placed : Begun ≡ Placed → ⊥
begun_placed e = cc

pub placed_begun : Placed ≡ Begun → ⊥
placed_begun e = cc

some_task : (g : GraphTree) (task : ℕ) (p : PortTree) → numbered g.ports task ≡ Some p → 1 ≤ task
some_task g zero p e = absurd (none-some p e)
some_task g (suc k) p e = omega arith

-- the wire of another port's out is none of a port's
foreign : (ws : List Wire) (port out task : ℕ) → 1 ≤ task → (port ≡ task → ⊥) → (wire_at ws (wire_of_out ws port out)).port ≡ task → ⊥
foreign ws port out task some other own =
    ⊎_elim
    (λ (lt : wire_of_out ws port out < length ws). other (sym (line_is ws port out lt).0 ∙ own))
    (λ (ge : length ws ≤ wire_of_out ws port out).
    let none : (wire_at ws (wire_of_out ws port out)).port ≡ 0 = ap (λ (w : Wire). w.port) (get_or_past ws (wire_of_out ws port out) no_wire ge) in
    omega arith)
    (cases_lt (wire_of_out ws port out) (length ws))

-- a job of an active port has a tick; what is active besides may have changed since the run stood between two ticks
module _ (parts : Parts) (accepted : IsAccepted parts) (trace : List Message) (can : CanRun (graph_in parts) trace) (s0 : Serial) (r0 : RunState) (is : Interleaves (graph_in parts) trace s0 r0)
    (act : ℕ → Option ActiveJob) (tasks : (port : ℕ) (x : ActiveJob) → act port ≡ Some x → x.job.task ≡ port)
    (s : Serial) (due : Arrived → ℕ) (b : HandlersState) (c : Carried parts s (record r0 { active = act }) due b)
    (a : ActiveJob) (at : act a.job.task ≡ Some a) (p : PortTree) (at_port : numbered (graph_in parts).ports a.job.task ≡ Some p)
    (there : numbered (known_at r0 a.job.task) a.job.number ≡ Some a.message) (before : (job_at b.channels a.job.task).number < a.job.number)
    (late : (target : Arrived) → due target ≤ a.message.time + within_of (graph_in parts) (port_at (graph_in parts) a.job.task))
    (n : ℕ) (as_many : done r0.log a.job (length r0.log) ≡ n)
    (run : RunsJob parts (record r0 { active = act }) b a.job.task a)
    (of : IsTickOf (graph_in parts) (code_at parts a.job.task) (port_at (graph_in parts) a.job.task) a.message.values a.vars n run.progress r0.vars)
    (new : HandlersState) (steps : StepsJob b a.job new) where
  abbrev r : RunState
  r = record r0 { active = act }

  same_tick : of.tick ≡ steps.ticks.tick
  same_tick =
      let code = code_at parts a.job.task in
      same_Some of.tick steps.ticks.tick
      (sym of.defined
      ∙ ap (λ (m : State). instruction_step code.instrs m r0.vars) run.machine
      ∙ ap (λ (v : List ℤ). instruction_step code.instrs (run_at b a.job.task).machine v) (sym c.vars)
      ∙ ap (λ (q : Parts). instruction_step (code_at q a.job.task).instrs (run_at b a.job.task).machine b.vars) (sym c.graph)
      ∙ steps.ticks.defined)

  vars_now : new.vars ≡ (with_tick (graph_in parts) a (record r0 { active = act })).vars
  vars_now =
      steps.ticks.written ∙ ap (λ (t : Tick). t.vars) (sym same_tick) ∙ of.writes
      ∙ ap (λ (k : ℕ). after_writes (writes_at k (whole_of (graph_in parts) a).writes) r0.vars) (sym as_many)

  wires_mid : steps.ticks.mid.wires ≡ wires_of (graph_in parts)
  wires_mid = steps.ticks.sends.wires.1 ∙ c.wires

  -- what is open on the wires of the job's port and of others, before the job is closed
  open_here : (out : ℕ) → open_on steps.ticks.mid a.job.task out ≡ messages_on out (run.progress.so_far.sends ++ of.tick.sends)
  open_here out =
      steps.ticks.sends.added out
      ∙ ap (λ (xs : List (List ℤ)). xs ++ messages_on out steps.ticks.tick.sends) (run.sent out)
      ∙ ap (λ (t : Tick). messages_on out run.progress.so_far.sends ++ messages_on out t.sends) (sym same_tick)
      ∙ sym (messages-append out run.progress.so_far.sends of.tick.sends)

  open_other : (port : ℕ) → (port ≡ a.job.task → ⊥) → (out : ℕ) → open_on steps.ticks.mid port out ≡ open_on b.channels port out
  open_other port other out =
      ap (λ (ws : List Wire). open_at steps.ticks.mid (wire_of_out ws port out)) steps.ticks.sends.wires.1
      ∙ steps.ticks.sends.others (wire_of_out b.channels.wires port out) (foreign b.channels.wires port out a.job.task (some_task (graph_in parts) a.job.task p at_port) other)

  same_other : (port : ℕ) → (port ≡ a.job.task → ⊥) → run_at new port ≡ run_at b port
  same_other port other = steps.run.others port other

  done_now : done (with_tick (graph_in parts) a (record r0 { active = act })).log a.job (length (with_tick (graph_in parts) a (record r0 { active = act })).log) ≡ suc n
  done_now = done_this r0.log (Some a.job) a.job refl ∙ ap suc as_many

  done_same : (port : ℕ) (x : ActiveJob) → (port ≡ a.job.task → ⊥) → act port ≡ Some x →
      done (with_tick (graph_in parts) a (record r0 { active = act })).log x.job (length (with_tick (graph_in parts) a (record r0 { active = act })).log) ≡ done r0.log x.job (length r0.log)
  done_same port x other at_x = done_other r0.log (Some a.job) x.job (λ q. other (sym (tasks port x at_x) ∙ ap (λ (j : Job). j.task) (sym (same_Some a.job x.job q))))

  -- not the last tick
  goes_on : n + 1 < (whole_of (graph_in parts) a).ticks → Carried parts s (with_tick (graph_in parts) a (record r0 { active = act })) due new
  goes_on more =
      record {
        graph = steps.parts ∙ c.graph;
        wires = ap (λ (x : ChannelState). x.wires) channels ∙ wires_mid;
        vars = vars_now;
        begun = λ port x at_x.
            ⊎_elim
            (λ (own : port ≡ a.job.task).
            let same_x : a ≡ x = same_Some a x (sym at ∙ ap act (sym own) ∙ at_x) in
            subst (λ (y : ActiveJob). RunsJob parts (with_tick (graph_in parts) a r) new port y) same_x (subst (λ (q : ℕ). RunsJob parts (with_tick (graph_in parts) a r) new q a) (sym own) here))
            (λ (other : port ≡ a.job.task → ⊥).
            runs_on parts r (with_tick (graph_in parts) a r) b new port x (same_other port other) (done_same port x other at_x)
            (λ out. ap (λ (ch : ChannelState). open_on ch port out) channels ∙ open_other port other out) (c.begun port x at_x))
            (cases_eq port a.job.task);
        only = λ port stage.
            ⊎_elim
            (λ (own : port ≡ a.job.task). (a, ap act own ∙ at))
            (λ (other : port ≡ a.job.task → ⊥). c.only port (sym (ap (λ (x : PortRun). x.stage) (same_other port other)) ∙ stage))
            (cases_eq port a.job.task);
        placed = λ port stage.
            ⊎_elim
            (λ (own : port ≡ a.job.task). absurd (begun_placed (sym here.stage ∙ ap (λ (q : ℕ). (run_at new q).stage) (sym own) ∙ stage)))
            (λ (other : port ≡ a.job.task → ⊥).
            holds_on r (with_tick (graph_in parts) a r) (due (Port port)) (due (Port port)) b new port (same_other port other)
            (ap (λ (ch : ChannelState). placed_at ch (Port port)) channels ∙ steps.ticks.sends.placed (Port port)) (λ q k m h. h) (omega arith)
            (c.placed port (sym (ap (λ (x : PortRun). x.stage) (same_other port other)) ∙ stage)))
            (cases_eq port a.job.task);
        came = λ port. (same_run port).0 ∙ c.came port ∙ ap (λ (x : PortStage). come_to x (handled_of s port)) (sym (same_run port).1);
        arrived = λ port k m h lt. subst (λ (q : ℕ). k ≤ q) (sym (same_run port).0) (c.arrived port k m h lt);
        closed = λ port some.
            let number = ap (λ (j : PortJob). j.number) (jobs port) in
            closed_on r (with_tick (graph_in parts) a r) b.channels new.channels port number (ap (λ (j : PortJob). j.arrival) (jobs port)) (λ q k m h. h)
            (c.closed port (omega arith));
        waits = λ t. ap (map as_message) (waits t) ∙ c.waits t;
        rise = λ t. subst AreRising (sym (waits t)) (c.rise t);
        sent = λ t m h.
            let w = wire_at (wires_of (graph_in parts)) (wire_to (wires_of (graph_in parts)) t) in
            let number = ap (λ (j : PortJob). j.number) (jobs w.port) in
            sent_on r (with_tick (graph_in parts) a r) b.channels new.channels w m (omega arith) (λ q k m h. h) (c.sent t m (subst (λ (xs : List Pending). Contains xs m) (waits t) h));
      }
    where
      on : GoesOnAlone (code_at parts a.job.task) a.message.values a.vars n run.progress of.tick
      on = of.goes_on more

      left : (run_at new a.job.task ≡ record (run_at b a.job.task) { machine = steps.ticks.tick.machine }) × (new.channels ≡ steps.ticks.mid)
      left = subst (λ (x : Stepped). GoesOn x a.job steps.ticks.tick.machine (run_at b a.job.task) steps.ticks.mid (run_at new a.job.task) new.channels) (ap (λ (t : Tick). t.stepped) (sym same_tick) ∙ on.going) steps.ticks.goes

      channels : new.channels ≡ steps.ticks.mid
      channels = left.1

      jobs : (port : ℕ) → job_at new.channels port ≡ job_at b.channels port
      jobs port = ap (λ (ch : ChannelState). job_at ch port) channels ∙ steps.ticks.sends.jobs port

      waits : (t : Arrived) → waits_at new.channels t ≡ waits_at b.channels t
      waits t = ap (λ (ch : ChannelState). waits_at ch t) channels ∙ steps.ticks.sends.waits t

      here : RunsJob parts (with_tick (graph_in parts) a (record r0 { active = act })) new a.job.task a
      here = record {
        stage = ap (λ (x : PortRun). x.stage) left.0 ∙ run.stage;
        number = ap (λ (x : PortRun). x.number) left.0 ∙ run.number;
        arrival = ap (λ (x : PortRun). x.arrival) left.0 ∙ run.arrival;
        progress = on.next;
        alone =
            let next : n + 1 ≡ suc n = omega arith in
            subst (λ (k : ℕ). IsAloneAt (code_at parts a.job.task) a.message.values a.vars k on.next) (next ∙ sym done_now) on.alone;
        machine = on.machine ∙ ap (λ (t : Tick). t.machine) same_tick ∙ sym (ap (λ (x : PortRun). x.machine) left.0);
        sent = λ out. ap (λ (ch : ChannelState). open_on ch a.job.task out) channels ∙ open_here out ∙ ap (messages_on out) (sym on.sends);
      }

      same_run : (port : ℕ) → ((run_at new port).number ≡ (run_at b port).number) × ((run_at new port).stage ≡ (run_at b port).stage)
      same_run port =
          ⊎_elim
          (λ (own : port ≡ a.job.task). (
            ap (λ (q : ℕ). (run_at new q).number) own ∙ ap (λ (x : PortRun). x.number) left.0 ∙ ap (λ (q : ℕ). (run_at b q).number) (sym own),
            ap (λ (q : ℕ). (run_at new q).stage) own ∙ ap (λ (x : PortRun). x.stage) left.0 ∙ ap (λ (q : ℕ). (run_at b q).stage) (sym own),
          ))
          (λ (other : port ≡ a.job.task → ⊥). (ap (λ (x : PortRun). x.number) (same_other port other), ap (λ (x : PortRun). x.stage) (same_other port other)))
          (cases_eq port a.job.task)

  -- the last tick, after which the job is closed
  ends : n + 1 ≡ (whole_of (graph_in parts) a).ticks → Carried parts s (with_end (graph_in parts) a (with_tick (graph_in parts) a (record r0 { active = act }))) due new
  ends last =
      record {
        graph = steps.parts ∙ c.graph;
        wires = closes.wires.1 ∙ wires_mid;
        vars = vars_now;
        begun = λ port x at_x.
            ⊎_elim
            (λ (e : (port ≡ a.job.task) × (None ≡ Some x)). absurd (none-some x e.1))
            (λ (e : (port ≡ a.job.task → ⊥) × (act port ≡ Some x)).
            runs_on parts r after b new port x (same_other port e.0) (done_same port x e.0 e.1) (λ out. open_after port e.0 out) (c.begun port x e.1))
            (put_cases a.job.task None (Some x) act port at_x);
        only = λ port stage.
            ⊎_elim
            (λ (own : port ≡ a.job.task). absurd (idle_begun (sym (idle port own) ∙ stage)))
            (λ (other : port ≡ a.job.task → ⊥).
            let o = c.only port (sym (ap (λ (x : PortRun). x.stage) (same_other port other)) ∙ stage) in
            (o.0, put_other a.job.task None act port other ∙ o.1))
            (cases_eq port a.job.task);
        placed = λ port stage.
            ⊎_elim
            (λ (own : port ≡ a.job.task). absurd (idle_placed (sym (idle port own) ∙ stage)))
            (λ (other : port ≡ a.job.task → ⊥).
            holds_on r after (due (Port port)) (due (Port port)) b new port (same_other port other) (closes.placed (Port port) ∙ steps.ticks.sends.placed (Port port)) keeps (omega arith)
            (c.placed port (sym (ap (λ (x : PortRun). x.stage) (same_other port other)) ∙ stage)))
            (cases_eq port a.job.task);
        came = λ port.
            ⊎_elim
            (λ (own : port ≡ a.job.task).
            same_number port
            ∙ c.came port
            ∙ ap (λ (x : PortStage). come_to x (handled_of s port)) (ap (λ (q : ℕ). (run_at b q).stage) own ∙ run.stage)
            ∙ ap (λ (x : PortStage). come_to x (handled_of s port)) (sym (idle port own)))
            (λ (other : port ≡ a.job.task → ⊥).
            same_number port ∙ c.came port ∙ ap (λ (x : PortStage). come_to x (handled_of s port)) (sym (ap (λ (x : PortRun). x.stage) (same_other port other))))
            (cases_eq port a.job.task);
        arrived = λ port k m h lt.
            let early = late (Port port) in
            subst (λ (q : ℕ). k ≤ q) (sym (same_number port))
            (c.arrived port k m (was_known (graph_in parts) a (with_tick (graph_in parts) a r) is.stands.long port k m h (omega arith)) lt);
        closed = λ port some.
            ⊎_elim
            (λ (own : port ≡ a.job.task).
            let j = job_own port own in
            record {
              message = a.message;
              there = ap (numbered (known_at after port)) (ap (λ (j : PortJob). j.number) j) ∙ ap (λ (q : ℕ). numbered (known_at after q) a.job.number) own ∙ there_after;
              arrival = ap (λ (j : PortJob). j.arrival) j;
            })
            (λ (other : port ≡ a.job.task → ⊥).
            let j = job_other port other in
            let number = ap (λ (j : PortJob). j.number) j in
            closed_on r after b.channels new.channels port number (ap (λ (j : PortJob). j.arrival) j) keeps (c.closed port (omega arith)))
            (cases_eq port a.job.task);
        waits = λ t.
            ap (map as_message) (closes.waits t)
            ∙ map-append as_message (waits_at steps.ticks.mid t) (passed_to steps.ticks.mid t a.job a.message.time)
            ∙ ap₂ (λ (xs ys : List PortMessage). xs ++ ys) (ap (map as_message) (steps.ticks.sends.waits t) ∙ c.waits t)
            (leaves (graph_in parts) (limited parts accepted) steps.ticks.mid wires_mid a p at_port sent_all t)
            ∙ sym (grows_waits (graph_in parts) trace can s0 r0 is a (due t) (late t) t);
        rise = λ t.
            let old = steps.ticks.sends.waits t in
            subst AreRising (sym (closes.waits t))
            (rises_on (graph_in parts) (limited parts accepted) steps.ticks.mid wires_mid a p at_port sent_all trace can s0 r0 is there b.channels before t (waits_at steps.ticks.mid t)
            (subst AreRising (sym old) (c.rise t)) (λ x h. let w = c.sent t x (subst (λ (xs : List Pending). Contains xs x) old h) in
            record { closed = w.closed; passes = w.passes; sender = w.sender; there = w.there; place = w.place; few = w.few; time = w.time }));
        sent = λ t m h.
            let w = wire_at (wires_of (graph_in parts)) (wire_to (wires_of (graph_in parts)) t) in
            ⊎_elim
            (λ (old : Contains (waits_at steps.ticks.mid t) m).
            sent_on r after b.channels new.channels w m (more_closed w.port) keeps (c.sent t m (subst (λ (xs : List Pending). Contains xs m) (steps.ticks.sends.waits t) old)))
            (λ (fresh : Contains (passed_to steps.ticks.mid t a.job a.message.time) m).
            left_by_it (graph_in parts) (limited parts accepted) steps.ticks.mid wires_mid a p at_port sent_all after new.channels there_after
            (ap (λ (j : PortJob). j.number) (job_own a.job.task refl)) t m fresh)
            (Contains-append_cases (waits_at steps.ticks.mid t) (passed_to steps.ticks.mid t a.job a.message.time) m (subst (λ (xs : List Pending). Contains xs m) (closes.waits t) h));
      }
    where
      after : RunState
      after = with_end (graph_in parts) a (with_tick (graph_in parts) a (record r0 { active = act }))

      left : (run_at new a.job.task ≡ record (run_at b a.job.task) { stage = Idle; machine = steps.ticks.tick.machine }) × Closes steps.ticks.mid new.channels a.job (run_at b a.job.task).arrival
      left = subst (λ (x : Stepped). GoesOn x a.job steps.ticks.tick.machine (run_at b a.job.task) steps.ticks.mid (run_at new a.job.task) new.channels) (ap (λ (t : Tick). t.stepped) (sym same_tick) ∙ (of.ends last).ended) steps.ticks.goes

      closes : Closes steps.ticks.mid new.channels a.job a.message.time
      closes = subst (Closes steps.ticks.mid new.channels a.job) run.arrival left.1

      sent_all : (out : ℕ) → open_on steps.ticks.mid a.job.task out ≡ messages_on out (whole_of (graph_in parts) a).sends
      sent_all out = open_here out ∙ ap (messages_on out) (sym (of.ends last).sends)

      keeps : KeepsKnown (record r0 { active = act }) after
      keeps = grows_known (graph_in parts) a (with_tick (graph_in parts) a (record r0 { active = act })) is.stands.long

      there_after : numbered (known_at after a.job.task) a.job.number ≡ Some a.message
      there_after = keeps a.job.task a.job.number a.message there

      open_after : (port : ℕ) → (port ≡ a.job.task → ⊥) → (out : ℕ) → open_on new.channels port out ≡ open_on b.channels port out
      open_after port other out =
          let k = wire_of_out steps.ticks.mid.wires port out in
          ap (λ (ws : List Wire). open_at new.channels (wire_of_out ws port out)) closes.wires.1
          ∙ closes.opens k
          ∙ cond-false (eqb (wire_at steps.ticks.mid.wires k).port a.job.task) [] (open_at steps.ticks.mid k)
          (ne_eqb (wire_at steps.ticks.mid.wires k).port a.job.task (foreign steps.ticks.mid.wires port out a.job.task (some_task (graph_in parts) a.job.task p at_port) other))
          ∙ open_other port other out

      idle : (port : ℕ) → port ≡ a.job.task → (run_at new port).stage ≡ Idle
      idle port own = ap (λ (q : ℕ). (run_at new q).stage) own ∙ ap (λ (x : PortRun). x.stage) left.0

      same_number : (port : ℕ) → (run_at new port).number ≡ (run_at b port).number
      same_number port =
          ⊎_elim
          (λ (own : port ≡ a.job.task). ap (λ (q : ℕ). (run_at new q).number) own ∙ ap (λ (x : PortRun). x.number) left.0 ∙ ap (λ (q : ℕ). (run_at b q).number) (sym own))
          (λ (other : port ≡ a.job.task → ⊥). ap (λ (x : PortRun). x.number) (same_other port other))
          (cases_eq port a.job.task)

      job_own : (port : ℕ) → port ≡ a.job.task → job_at new.channels port ≡ record { in_handling = false; number = a.job.number; arrival = a.message.time }
      job_own port own =
          closes.jobs port
          ∙ cond-true (eqb port a.job.task) (record { in_handling = false; number = a.job.number; arrival = a.message.time }) (job_at steps.ticks.mid port) (eq-eqb port a.job.task own)

      job_other : (port : ℕ) → (port ≡ a.job.task → ⊥) → job_at new.channels port ≡ job_at b.channels port
      job_other port other =
          closes.jobs port
          ∙ cond-false (eqb port a.job.task) (record { in_handling = false; number = a.job.number; arrival = a.message.time }) (job_at steps.ticks.mid port) (ne_eqb port a.job.task other)
          ∙ steps.ticks.sends.jobs port

      more_closed : (port : ℕ) → (job_at b.channels port).number ≤ (job_at new.channels port).number
      more_closed port =
          ⊎_elim
          (λ (own : port ≡ a.job.task).
          let now : (job_at new.channels port).number ≡ a.job.number = ap (λ (j : PortJob). j.number) (job_own port own) in
          let old : (job_at b.channels port).number ≡ (job_at b.channels a.job.task).number = ap (λ (q : ℕ). (job_at b.channels q).number) own in
          omega arith)
          (λ (other : port ≡ a.job.task → ⊥). let same = ap (λ (j : PortJob). j.number) (job_other port other) in omega arith)
          (cases_eq port a.job.task)

  pub ticked : n < (whole_of (graph_in parts) a).ticks → Carried parts s (after_tick (graph_in parts) a (record r0 { active = act })) due new
  ticked unfinished =
      ⊎_elim
      (λ (more : n + 1 < (whole_of (graph_in parts) a).ticks).
      subst (λ (q : RunState). Carried parts s q due new) (sym (after_other (graph_in parts) a (record r0 { active = act }) (λ e. omega arith))) (goes_on more))
      (λ (ge : (whole_of (graph_in parts) a).ticks ≤ n + 1).
      subst (λ (q : RunState). Carried parts s q due new) (sym (after_last (graph_in parts) a (record r0 { active = act }) (omega arith))) (ends (omega arith)))
      (cases_lt (n + 1) (whole_of (graph_in parts) a).ticks)
