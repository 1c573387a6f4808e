-- What handlers carry once a message has come.
use Rattle.std.proofs.Common.{◌≡◌, ℕ, suc, ◌<◌, ◌≤◌, Bool, true, false, cond, eqb, List, length, map, Some, refl, sym, ap, subst, ◌∙◌, ⊎_elim, arith}
use Rattle.std.specs.Prelude.{slice_index_or}
use Rattle.std.specs.List.{Contains}
use Rattle.std.proofs.lemmas.Bool.{cases_eq, cases_lt}
use Rattle.std.proofs.lemmas.Option.{none-some}
use Rattle.yt_graph.specs.Picture.{GraphTree}
use Rattle.yt_list.specs.Numbered.{numbered}
use Rattle.yt_chan.specs.Changes.{KeepsOpens, KeepsWires, Places, StartsHandling}
use Rattle.yt_chan.specs.declared.port.PortJob.{PortJob}
use Rattle.yt_chan.specs.declared.target.Arrived.{Arrived}
use Rattle.yt_chan.specs.declared.target.Arrived.TheVariants.{Port, Output}
use Rattle.yt_chan.specs.declared.wire.Wire.{Wire}
use Rattle.yt_chan.specs.Pending.{Pending}
use Rattle.yt_chan.specs.State.{ChannelState, job_at, open_at, placed_at, waits_at}
use Rattle.yt_chan.specs.Wires.{wire_at, wire_of_out, wire_to}
use Rattle.yt_chan.proofs.Lemmas.{target_cases}
use Rattle.yt_rates.specs.Acceptance.{Parts}
use Rattle.yt_trace.specs.declared.message.Message.{Message}
use Rattle.yt_serial.specs.PortMessages.{PortMessage}
use Rattle.yt_serial.specs.SerialHandling.{Serial, handled_of}
use Rattle.yt_serial.proofs.Lemmas.{period_some}
use Rattle.yt_interleave.specs.Carrying.{as_message}
use Rattle.yt_interleave.specs.Interleaved.{RunState, known_at}
use Rattle.yt_interleave.specs.Waits.{wait_from}
use Rattle.yt_interleave.proofs.Lemmas.{messages_wait}
use Rattle.yt_body.specs.declared.port_run.PortRun.{PortRun}
use Rattle.yt_body.specs.declared.port_run.PortStage.{PortStage}
use Rattle.yt_body.specs.declared.port_run.PortStage.TheVariants.{Placed}
use Rattle.yt_body.specs.Sound.{IsSound}
use Rattle.yt_body.specs.State.{HandlersState, no_run, run_at}
use Rattle.yt_body.specs.Steps.{SetsRun, with_message}
use Rattle.yt_body.specs.Wiring.{wires_of}
use Rattle.yt_body_laws.specs.Carrying.{AreRising, Carries, HoldsMessage, come_to, known_for}
use Rattle.yt_body_laws.specs.Placing.{IsPlacing, with_tick_at}
use Rattle.yt_body_laws.proofs.Carried.{closed_on, holds_on, runs_on, sent_on}
use Rattle.yt_body_laws.proofs.Codes.{graph_in}
use Rattle.yt_body_laws.proofs.Comings.{tick_here, tick_other}
use Rattle.yt_body_laws.proofs.Room.{at_port, free, may_come}
use Rattle.yt_body_laws.proofs.Ticks.{placed_begun}

-- what one more message leaves of the channels: at its target one waits less, and elsewhere as many as before
pub record TakesAt (g : GraphTree) (r : RunState) (now : ℕ) (target : Arrived) (old new : ChannelState) : Type 0 where
  pub here : map as_message (waits_at new target) ≡ wait_from now (known_for g r target)
  pub rise : AreRising (waits_at new target)
  pub fewer : (q : Pending) → Contains (waits_at new target) q → Contains (waits_at old target) q
  pub others : (other : Arrived) → (other ≡ target → ⊥) → waits_at new other ≡ waits_at old other
  pub number : (port : ℕ) → (job_at new port).number ≡ (job_at old port).number
  pub arrival : (port : ℕ) → (job_at new port).arrival ≡ (job_at old port).arrival

started_number : (b : Bool) (j : PortJob) → (cond b (record j { in_handling = true }) j).number ≡ j.number
started_number true j = refl
started_number false j = refl

started_arrival : (b : Bool) (j : PortJob) → (cond b (record j { in_handling = true }) j).arrival ≡ j.arrival
started_arrival true j = refl
started_arrival false j = refl

-- a port's last closed job stays where its message comes into handling
pub number_stays : (old new : ChannelState) (port : ℕ) → StartsHandling old new port → (p : ℕ) → (job_at new p).number ≡ (job_at old p).number
number_stays old new port starts p = ap (λ (j : PortJob). j.number) (starts p) ∙ started_number (eqb p port) (job_at old p)

pub arrival_stays : (old new : ChannelState) (port : ℕ) → StartsHandling old new port → (p : ℕ) → (job_at new p).arrival ≡ (job_at old p).arrival
arrival_stays old new port starts p = ap (λ (j : PortJob). j.arrival) (starts p) ∙ started_arrival (eqb p port) (job_at old p)

port_same : (a b : ℕ) → Port a ≡ Port b → a ≡ b
port_same a b e = cc

port_output : (a b : ℕ) → Port a ≡ Output b → ⊥
port_output a b e = cc

module _ (parts : Parts) (trace : List Message) (s : Serial) (r : RunState) (due : Arrived → ℕ) (b : HandlersState) (is : IsPlacing parts trace s r due b) (new : HandlersState) (sound : IsSound new)
    (graph : new.parts ≡ b.parts) (vars : new.vars ≡ b.vars) (wires : KeepsWires b.channels new.channels) (opens : KeepsOpens b.channels new.channels) where
  grows : (target : Arrived) → due target ≤ suc (length r.log) → (t : Arrived) → due t ≤ with_tick_at target (suc (length r.log)) due t
  grows target le t =
      ⊎_elim
      (λ (own : t ≡ target).
      let same : due t ≡ due target = ap due own in
      let now : with_tick_at target (suc (length r.log)) due t ≡ suc (length r.log) = ap (with_tick_at target (suc (length r.log)) due) own ∙ tick_here target (suc (length r.log)) due in
      omega arith)
      (λ (other : t ≡ target → ⊥). let same = tick_other target (suc (length r.log)) due t other in omega arith)
      (target_cases t target)

  -- the parts that speak of what waits
  module _ (target : Arrived) (takes : TakesAt (graph_in parts) r (suc (length r.log)) target b.channels new.channels) where
    waits_on : (t : Arrived) → map as_message (waits_at new.channels t) ≡ wait_from (with_tick_at target (suc (length r.log)) due t) (known_for (graph_in parts) r t)
    waits_on t =
        let later = with_tick_at target (suc (length r.log)) due in
        let W : Arrived → Type 0 = λ x. map as_message (waits_at new.channels x) ≡ wait_from (with_tick_at target (suc (length r.log)) due x) (known_for (graph_in parts) r x) in
        ⊎_elim
        (λ (own : t ≡ target). subst W (sym own) (takes.here ∙ ap (λ (d : ℕ). wait_from d (known_for (graph_in parts) r target)) (sym (tick_here target (suc (length r.log)) due))))
        (λ (other : t ≡ target → ⊥).
        ap (map as_message) (takes.others t other) ∙ is.carries.waits t ∙ ap (λ (d : ℕ). wait_from d (known_for (graph_in parts) r t)) (sym (tick_other target (suc (length r.log)) due t other)))
        (target_cases t target)

    rise_on : (t : Arrived) → AreRising (waits_at new.channels t)
    rise_on t =
        ⊎_elim
        (λ (own : t ≡ target). subst (λ (x : Arrived). AreRising (waits_at new.channels x)) (sym own) takes.rise)
        (λ (other : t ≡ target → ⊥). subst AreRising (sym (takes.others t other)) (is.carries.rise t))
        (target_cases t target)

    waited : (t : Arrived) (q : Pending) → Contains (waits_at new.channels t) q → Contains (waits_at b.channels t) q
    waited t q h =
        ⊎_elim
        (λ (own : t ≡ target).
        subst (λ (x : Arrived). Contains (waits_at b.channels x) q) (sym own) (takes.fewer q (subst (λ (x : Arrived). Contains (waits_at new.channels x) q) own h)))
        (λ (other : t ≡ target → ⊥). subst (λ (xs : List Pending). Contains xs q) (takes.others t other) h)
        (target_cases t target)

    open_same : (port out : ℕ) → open_at new.channels (wire_of_out new.channels.wires port out) ≡ open_at b.channels (wire_of_out b.channels.wires port out)
    open_same port out = ap (λ (ws : List Wire). open_at new.channels (wire_of_out ws port out)) wires.1 ∙ opens (wire_of_out b.channels.wires port out)

  -- a message comes to a port
  module _ (port n : ℕ) (m : PortMessage) (there : numbered (known_at r port) n ≡ Some m) (now : m.time ≡ length r.log) (due_now : due (Port port) ≡ length r.log)
      (run : SetsRun b port (with_message (length r.log) (run_at b port)) new) (places : Places b.channels new.channels (Port port) m.values)
      (takes : TakesAt (graph_in parts) r (suc (length r.log)) (Port port) b.channels new.channels) where
    abbrev later : Arrived → ℕ
    later = with_tick_at (Port port) (suc (length r.log)) due

    number_now : (run_at new port).number ≡ n
    number_now = ap (λ (x : PortRun). x.number) run.here ∙ (may_come parts trace s r due b is port n m there now due_now).number

    holds : HoldsMessage r (suc (length r.log)) new port
    holds = record {
      message = m;
      there = ap (numbered (known_at r port)) number_now ∙ there;
      arrival = ap (λ (x : PortRun). x.arrival) run.here ∙ sym now;
      values = places.here;
      early = omega arith;
    }

    pub comes_to_port : Carries parts s r (with_tick_at (Port port) (suc (length r.log)) due) new
    comes_to_port =
        let turn = free parts trace s r due b is port n m there now in
        let p = at_port parts trace s r due b is port n m there now in
        record {
          graph = graph ∙ is.carries.graph;
          sound = sound;
          vars = vars ∙ is.carries.vars;
          begun = λ q a at_q.
              ⊎_elim
              (λ (own : q ≡ port). absurd (none-some a (sym turn.1 ∙ ap r.active (sym own) ∙ at_q)))
              (λ (other : q ≡ port → ⊥). runs_on parts r r b new q a (run.others q other) refl (open_same (Port port) takes q) (is.carries.begun q a at_q))
              (cases_eq q port);
          only = λ q stage.
              ⊎_elim
              (λ (own : q ≡ port). absurd (placed_begun (sym (ap (λ (x : PortRun). x.stage) run.here) ∙ ap (λ (x : ℕ). (run_at new x).stage) (sym own) ∙ stage)))
              (λ (other : q ≡ port → ⊥). is.carries.only q (sym (ap (λ (x : PortRun). x.stage) (run.others q other)) ∙ stage))
              (cases_eq q port);
          placed = λ q stage.
              ⊎_elim
              (λ (own : q ≡ port).
              let H : ℕ → Type 0 = λ x. HoldsMessage r (with_tick_at (Port port) (suc (length r.log)) due (Port x)) new x in
              subst H (sym own) (subst (λ (d : ℕ). HoldsMessage r d new port) (sym (tick_here (Port port) (suc (length r.log)) due)) holds))
              (λ (other : q ≡ port → ⊥).
              holds_on r r (due (Port q)) (later (Port q)) b new q (run.others q other) (places.others (Port q) (λ e. other (port_same q port e))) (λ x k y h. h) (grows (Port port) (is.to (Port port)) (Port q))
              (is.carries.placed q (sym (ap (λ (x : PortRun). x.stage) (run.others q other)) ∙ stage)))
              (cases_eq q port);
          came = λ q.
              ⊎_elim
              (λ (own : q ≡ port).
              let stage : (run_at new q).stage ≡ Placed = ap (λ (x : ℕ). (run_at new x).stage) own ∙ ap (λ (x : PortRun). x.stage) run.here in
              ap (λ (x : ℕ). (run_at new x).number) own ∙ number_now ∙ turn.0 ∙ ap (λ (x : ℕ). suc (handled_of s x)) (sym own) ∙ ap (λ (x : PortStage). come_to x (handled_of s q)) (sym stage))
              (λ (other : q ≡ port → ⊥).
              ap (λ (x : PortRun). x.number) (run.others q other) ∙ is.carries.came q ∙ ap (λ (x : PortStage). come_to x (handled_of s q)) (sym (ap (λ (x : PortRun). x.stage) (run.others q other))))
              (cases_eq q port);
          arrived = λ q k x h lt.
              ⊎_elim
              (λ (own : q ≡ port).
              let tick : later (Port q) ≡ suc (length r.log) = ap (λ (y : ℕ). later (Port y)) own ∙ tick_here (Port port) (suc (length r.log)) due in
              let at : numbered (known_at r port) k ≡ Some x = ap (λ (y : ℕ). numbered (known_at r y) k) (sym own) ∙ h in
              let count : (run_at new q).number ≡ n = ap (λ (y : ℕ). (run_at new y).number) own ∙ number_now in
              ⊎_elim
              (λ (above : n < k).
              let far = messages_wait.apart (graph_in parts) trace is.can.can s r is.interleaves port n k p.0 m x p.1 there at above in
              let some = period_some (graph_in parts) port p.0 is.can.can.rates p.1 in
              absurd (omega arith))
              (λ (le : k ≤ n). omega arith)
              (cases_lt n k))
              (λ (other : q ≡ port → ⊥).
              let tick = tick_other (Port port) (suc (length r.log)) due (Port q) (λ e. other (port_same q port e)) in
              let number = ap (λ (y : PortRun). y.number) (run.others q other) in
              let before = is.carries.arrived q k x h (omega arith) in
              omega arith)
              (cases_eq q port);
          closed = λ q some.
              let number = takes.number q in
              closed_on r r b.channels new.channels q number (takes.arrival q) (λ x k y h. h) (is.carries.closed q (omega arith));
          waits = waits_on (Port port) takes;
          rise = rise_on (Port port) takes;
          sent = λ t q h.
              let w = wire_at (wires_of (graph_in parts)) (wire_to (wires_of (graph_in parts)) t) in
              let number = takes.number w.port in
              sent_on r r b.channels new.channels w q (omega arith) (λ x k y h. h) (is.carries.sent t q (waited (Port port) takes t q h));
        }

  -- one comes to an output
  module _ (output : ℕ) (runs : new.runs ≡ b.runs) (placed_others : (port : ℕ) → placed_at new.channels (Port port) ≡ placed_at b.channels (Port port))
      (takes : TakesAt (graph_in parts) r (suc (length r.log)) (Output output) b.channels new.channels) where
    same_run : (port : ℕ) → run_at new port ≡ run_at b port
    same_run port = ap (λ (rs : List PortRun). slice_index_or rs port no_run) runs

    pub comes_to_output : Carries parts s r (with_tick_at (Output output) (suc (length r.log)) due) new
    comes_to_output = record {
      graph = graph ∙ is.carries.graph;
      sound = sound;
      vars = vars ∙ is.carries.vars;
      begun = λ q a at_q. runs_on parts r r b new q a (same_run q) refl (open_same (Output output) takes q) (is.carries.begun q a at_q);
      only = λ q stage. is.carries.only q (sym (ap (λ (x : PortRun). x.stage) (same_run q)) ∙ stage);
      placed = λ q stage.
          holds_on r r (due (Port q)) (with_tick_at (Output output) (suc (length r.log)) due (Port q)) b new q (same_run q) (placed_others q) (λ x k y h. h)
          (grows (Output output) (is.to (Output output)) (Port q)) (is.carries.placed q (sym (ap (λ (x : PortRun). x.stage) (same_run q)) ∙ stage));
      came = λ q. ap (λ (x : PortRun). x.number) (same_run q) ∙ is.carries.came q ∙ ap (λ (x : PortStage). come_to x (handled_of s q)) (sym (ap (λ (x : PortRun). x.stage) (same_run q)));
      arrived = λ q k x h lt.
          let tick = tick_other (Output output) (suc (length r.log)) due (Port q) (port_output q output) in
          let number = ap (λ (y : PortRun). y.number) (same_run q) in
          let before = is.carries.arrived q k x h (omega arith) in
          omega arith;
      closed = λ q some.
          let number = takes.number q in
          closed_on r r b.channels new.channels q number (takes.arrival q) (λ x k y h. h) (is.carries.closed q (omega arith));
      waits = waits_on (Output output) takes;
      rise = rise_on (Output output) takes;
      sent = λ t q h.
          let w = wire_at (wires_of (graph_in parts)) (wire_to (wires_of (graph_in parts)) t) in
          let number = takes.number w.port in
          sent_on r r b.channels new.channels w q (omega arith) (λ x k y h. h) (is.carries.sent t q (waited (Output output) takes t q h));
    }
