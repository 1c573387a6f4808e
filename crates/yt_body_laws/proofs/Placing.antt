-- Messages come to ports and outputs.
use Rattle.std.proofs.Common.{◌≡◌, ℕ, zero, suc, ◌<◌, ◌≤◌, List, [], ◌∷◌, length, map, slice_get, Some, refl, sym, ap, subst, ◌∙◌, ⊎_elim, arith}
use Rattle.std.specs.List.{Contains}
use Rattle.std.proofs.lemmas.Bool.{cases_lt}
use Rattle.std.proofs.lemmas.Option.{none-some}
use Rattle.yt_graph.specs.declared.port.Feed.{Feed}
use Rattle.yt_graph.specs.declared.port.Feed.TheVariants.{Input, Out}
use Rattle.yt_graph.specs.Picture.{PortTree}
use Rattle.yt_list.specs.Numbered.{numbered}
use Rattle.yt_chan.specs.Changes.{Delivers}
use Rattle.yt_chan.specs.declared.port.PortJob.{PortJob}
use Rattle.yt_chan.specs.declared.target.Arrived as target
use Rattle.yt_chan.specs.declared.target.Arrived.{Arrived}
use Rattle.yt_chan.specs.declared.target.Arrived.TheVariants.{Port, Output}
use Rattle.yt_chan.specs.Pending.{Pending}
use Rattle.yt_chan.specs.State.{IsArriving, IsNext, job_at, waits_at}
use Rattle.yt_rates.specs.Acceptance.{Parts}
use Rattle.yt_trace.specs.declared.message.Message.{Message}
use Rattle.yt_serial.specs.PortMessages.{PortMessage}
use Rattle.yt_serial.specs.SerialHandling.{Serial}
use Rattle.yt_serial.proofs.Lemmas.{feed_cases}
use Rattle.yt_interleave.specs.Carrying.{as_message}
use Rattle.yt_interleave.specs.Interleaved.{RunState, known_at, port_at}
use Rattle.yt_interleave.specs.Lines.{come_at}
use Rattle.yt_interleave.specs.Waits.{wait_from}
use Rattle.yt_interleave.proofs.Lemmas.{known_port, wait_has, wait_same}
use Rattle.yt_body.specs.declared.port_run.PortRun.{PortRun}
use Rattle.yt_body.specs.Sound.{IsSound, MayCome}
use Rattle.yt_body.specs.State.{HandlersState, run_at}
use Rattle.yt_body.specs.Steps.{Comes, Puts}
use Rattle.yt_body_laws.specs.Carrying.{AreRising, Carries, known_for, over_wire}
use Rattle.yt_body_laws.specs.Placing.{AllPut, BodiesPlace, HasPlaced, IsPlacing, with_tick_at}
use Rattle.yt_body_laws.proofs.Arrivals.{TakesAt, arrival_stays, comes_to_output, comes_to_port, number_stays}
use Rattle.yt_body_laws.proofs.Codes.{graph_in, port_is}
use Rattle.yt_body_laws.proofs.Comings.{next_waits, rising_later, tick_here, tick_other}
use Rattle.yt_body_laws.proofs.Idle.{with_due}
use Rattle.yt_body_laws.proofs.Room.{get_contains, mapped_at, may_come, none_late, over_there, waits_known}
use Rattle.yt_chan.proofs.Lemmas.{target_cases}

no_input : (f : Feed) (ms : List PortMessage) (input : ℕ) → f ≡ Input input → over_wire f ms ≡ []
no_input f ms input e = ap (λ (x : Feed). over_wire x ms) e

pub all_out : (f : Feed) (ms : List PortMessage) (port out : ℕ) → f ≡ Out port out → over_wire f ms ≡ ms
all_out f ms port out e = ap (λ (x : Feed). over_wire x ms) e

output_port : (a b : ℕ) → Port a ≡ Output b → ⊥
output_port a b e = cc

-- a known message that comes over a wire and has not come waits
pub still_waits : (parts : Parts) (s : Serial) (r : RunState) (due : Arrived → ℕ) (b : HandlersState) → Carries parts s r due b → (t : Arrived) (k : ℕ) (x : PortMessage) →
    slice_get (known_for (graph_in parts) r t) k ≡ Some x → due t ≤ x.time → (q : Pending) × Contains (waits_at b.channels t) q × (as_message q ≡ x)
still_waits parts s r due b c t k x h le =
    let w = wait_has (due t) (known_for (graph_in parts) r t) k x h le in
    let q = mapped_at (waits_at b.channels t) w.0 x (ap (λ (ms : List PortMessage). slice_get ms w.0) (c.waits t) ∙ w.1) in
    (q.0, get_contains (waits_at b.channels t) w.0 q.0 q.1, q.2)

module _ (parts : Parts) (trace : List Message) (s : Serial) (r : RunState) (due : Arrived → ℕ) (b : HandlersState) (is : IsPlacing parts trace s r due b) where
  may_deliver : (port : ℕ) → IsNext b.channels (length r.log) (Port port) → MayCome b port (length r.log)
  may_deliver port next =
      let q = next.arrives in
      let w = waits_known parts s r due b is.carries (Port port) q.0 q.1 in
      let from = is.from (Port port) in
      let time = q.2 in
      let late = w.2 in
      (may_come parts trace s r due b is port (suc w.0) (as_message q.0) (over_there (port_at (graph_in parts) port).feed (known_at r port) w.0 (as_message q.0) w.1) time (omega arith)).may

  -- one target's tick is raised
  module _ (t : Arrived) (new : HandlersState) (carries : Carries parts s r (with_tick_at t (suc (length r.log)) due) new) where
    placing : IsPlacing parts trace s r (with_tick_at t (suc (length r.log)) due) new
    placing = record {
      accepted = is.accepted;
      can = is.can;
      interleaves = is.interleaves;
      on_time = is.on_time;
      carries = carries;
      from = λ other.
          ⊎_elim
          (λ (own : other ≡ t). let now = ap (with_tick_at t (suc (length r.log)) due) own ∙ tick_here t (suc (length r.log)) due in omega arith)
          (λ (ne : other ≡ t → ⊥). let same = tick_other t (suc (length r.log)) due other ne in let from = is.from other in omega arith)
          (target_cases other t);
      to = λ other.
          ⊎_elim
          (λ (own : other ≡ t). let now = ap (with_tick_at t (suc (length r.log)) due) own ∙ tick_here t (suc (length r.log)) due in omega arith)
          (λ (ne : other ≡ t → ⊥). let same = tick_other t (suc (length r.log)) due other ne in let to = is.to other in omega arith)
          (target_cases other t);
    }

  puts : (port : ℕ) (p : PortTree) (input n : ℕ) (m : PortMessage) → numbered (graph_in parts).ports port ≡ Some p → p.feed ≡ Input input →
      numbered (known_at r port) n ≡ Some m → m.time ≡ length r.log → due (Port port) ≡ length r.log →
      (new : HandlersState) → Puts b port m.values (length r.log) new → IsSound new → HasPlaced parts trace s r due (Port port) new
  puts port p input n m at fed there now due_now new put sound =
      let feed_is : (port_at (graph_in parts) port).feed ≡ Input input = ap (λ (q : PortTree). q.feed) (port_is (graph_in parts) port p at) ∙ fed in
      let none : known_for (graph_in parts) r (Port port) ≡ [] = no_input (port_at (graph_in parts) port).feed (known_at r port) input feed_is in
      let takes : TakesAt (graph_in parts) r (suc (length r.log)) (Port port) b.channels new.channels = record {
        here =
            ap (map as_message) (put.waits (Port port)) ∙ is.carries.waits (Port port) ∙ ap (wait_from (due (Port port))) none
            ∙ sym (ap (wait_from (suc (length r.log))) none);
        rise = subst AreRising (sym (put.waits (Port port))) (is.carries.rise (Port port));
        fewer = λ q h. subst (λ (xs : List Pending). Contains xs q) (put.waits (Port port)) h;
        others = λ other ne. put.waits other;
        number = number_stays b.channels new.channels port put.handles;
        arrival = arrival_stays b.channels new.channels port put.handles;
      } in
      let number = (may_come parts trace s r due b is port n m there now due_now).number in
      let count : (run_at new port).number ≡ n = ap (λ (x : PortRun). x.number) put.run.here ∙ number in
      record {
        waited = due_now;
        placing = placing (Port port) new (comes_to_port parts trace s r due b is new sound put.parts put.vars put.wires put.opens port n m there now due_now put.run put.places takes);
        come = (m, ap (numbered (known_at r port)) count ∙ there, now);
      }

  -- what a delivery takes
  module _ (t : Arrived) (new : HandlersState) (d : Delivers b.channels new.channels (length r.log) t) where
    first_waits : Contains (waits_at b.channels t) d.message
    first_waits = subst (λ (xs : List Pending). Contains xs d.message) (sym d.taken) (0, omega arith, refl)

    due_now : due t ≡ length r.log
    due_now =
        let late = (waits_known parts s r due b is.carries t d.message first_waits).2 in
        let from = is.from t in
        let time = d.due in
        omega arith

    rising : AreRising (d.message ∷ waits_at new.channels t)
    rising = subst AreRising d.taken (is.carries.rise t)

    next : (come_at (length r.log) (known_for (graph_in parts) r t) ≡ as_message d.message ∷ []) × (wait_from (suc (length r.log)) (known_for (graph_in parts) r t) ≡ map as_message (waits_at new.channels t))
    next =
        let all : wait_from (length r.log) (known_for (graph_in parts) r t) ≡ as_message d.message ∷ map as_message (waits_at new.channels t) =
        ap (λ (k : ℕ). wait_from k (known_for (graph_in parts) r t)) (sym due_now) ∙ sym (is.carries.waits t) ∙ ap (map as_message) d.taken in
        next_waits (length r.log) (known_for (graph_in parts) r t) (as_message d.message) (map as_message (waits_at new.channels t)) all d.due
        (λ k y h. let lt = rising_later d.message (waits_at new.channels t) rising k y h in let time = d.due in omega arith)

    takes_at : ((port : ℕ) → (job_at new.channels port).number ≡ (job_at b.channels port).number) → ((port : ℕ) → (job_at new.channels port).arrival ≡ (job_at b.channels port).arrival) →
        TakesAt (graph_in parts) r (suc (length r.log)) t b.channels new.channels
    takes_at number arrival = record {
      here = sym next.1;
      rise = rising.1;
      fewer = λ q h. subst (λ (xs : List Pending). Contains xs q) (sym d.taken) (suc h.0, let lt = h.1 in omega arith, h.2);
      others = d.others;
      number = number;
      arrival = arrival;
    }

  comes : (t : Arrived) (new : HandlersState) → Comes b (length r.log) t new → IsSound new → HasPlaced parts trace s r due t new
  comes (target.TheVariants.Port port) new come sound =
      let d = come.delivers in
      let t = Port port in
      let w = waits_known parts s r due b is.carries t d.message (first_waits t new d) in
      let there : numbered (known_at r port) (suc w.0) ≡ Some (as_message d.message) = over_there (port_at (graph_in parts) port).feed (known_at r port) w.0 (as_message d.message) w.1 in
      let takes = takes_at t new d (number_stays b.channels new.channels port d.handles) (arrival_stays b.channels new.channels port d.handles) in
      let number = (may_come parts trace s r due b is port (suc w.0) (as_message d.message) there d.due (due_now t new d)).number in
      let count : (run_at new port).number ≡ suc w.0 = ap (λ (x : PortRun). x.number) come.run.here ∙ number in
      record {
        waited = due_now t new d;
        placing = placing t new (comes_to_port parts trace s r due b is new sound come.parts come.vars d.wires d.opens port (suc w.0) (as_message d.message) there d.due (due_now t new d) come.run d.places takes);
        come = (as_message d.message, ap (numbered (known_at r port)) count ∙ there, d.due);
      }
  comes (target.TheVariants.Output output) new come sound =
      let d = come.delivers in
      let t = Output output in
      let takes = takes_at t new d (λ port. ap (λ (j : PortJob). j.number) (d.handles port)) (λ port. ap (λ (j : PortJob). j.arrival) (d.handles port)) in
      record {
        waited = due_now t new d;
        placing = placing t new (comes_to_output parts trace s r due b is new sound come.parts come.vars d.wires d.opens output come.run (λ port. d.places.others (Port port) (output_port port output)) takes);
        come = (as_message d.message, (next t new d).0, d.places.here);
      }

  -- where none is left
  module _ (put : AllPut parts r due) (none : (t : Arrived) → IsArriving b.channels (length r.log) t → ⊥) where
    -- a message over a wire that has not come comes later
    pub comes_later : (t : Arrived) (k : ℕ) (x : PortMessage) → slice_get (known_for (graph_in parts) r t) k ≡ Some x → due t ≤ x.time → suc (length r.log) ≤ x.time
    comes_later t k x h le =
        let q = still_waits parts s r due b is.carries t k x h le in
        let from = is.from t in
        ⊎_elim
        (λ (lt : length r.log < x.time). lt)
        (λ (ge : x.time ≤ length r.log).
        let time : q.0.time ≡ x.time = ap (λ (y : PortMessage). y.time) q.2 in
        absurd (none t (q.0, q.1, omega arith)))
        (cases_lt (length r.log) x.time)

    pub all_come : (port n : ℕ) (m : PortMessage) → numbered (known_at r port) n ≡ Some m → m.time < suc (length r.log) → m.time < due (Port port)
    all_come port zero m there lt = absurd (none-some m there)
    all_come port (suc k) m there lt =
        let from = is.from (Port port) in
        ⊎_elim
        (λ (before : m.time < due (Port port)). before)
        (λ (ge : due (Port port) ≤ m.time).
        ⊎_elim
        (λ (i : (input : ℕ) × ((port_at (graph_in parts) port).feed ≡ Input input)).
        let p = at_of port (suc k) m there in
        let raised = put port p.0 i.0 (suc k) m p.1 (ap (λ (q : PortTree). q.feed) (sym (port_is (graph_in parts) port p.0 p.1)) ∙ i.1) there (omega arith) in
        absurd (omega arith))
        (λ (o : (source out : ℕ) × ((port_at (graph_in parts) port).feed ≡ Out source out)).
        let h : slice_get (known_for (graph_in parts) r (Port port)) k ≡ Some m = ap (λ (ms : List PortMessage). slice_get ms k) (all_out (port_at (graph_in parts) port).feed (known_at r port) o.0 o.1 o.2) ∙ there in
        let late = comes_later (Port port) k m h ge in
        absurd (omega arith))
        (feed_cases (port_at (graph_in parts) port).feed))
        (cases_lt m.time (due (Port port)))
      where
        at_of : (port n : ℕ) (m : PortMessage) → numbered (known_at r port) n ≡ Some m → (p : PortTree) × (numbered (graph_in parts).ports port ≡ Some p)
        at_of port n m there = known_port (graph_in parts) trace is.can.can s r is.interleaves port n m there

    ends : Carries parts s r (λ t. suc (length r.log)) b
    ends =
        with_due parts s r due (λ t. suc (length r.log)) b is.to all_come
        (λ t. wait_same (due t) (suc (length r.log)) (known_for (graph_in parts) r t) (is.to t) (λ k x h le. comes_later t k x h le))
        is.carries

pub bodies_place : BodiesPlace
bodies_place = record {
  may_come = λ parts trace s r due b is port n m there now waited. may_come parts trace s r due b is port n m there now waited;
  may_deliver = λ parts trace s r due b is. (none_late parts trace s r due b is, may_deliver parts trace s r due b is);
  puts = λ parts trace s r due b is port p input n m at fed there now due_now new put sound. puts parts trace s r due b is port p input n m at fed there now due_now new put sound;
  comes = λ parts trace s r due b is t new come sound. comes parts trace s r due b is t new come sound;
  ends = λ parts trace s r due b is put none. ends parts trace s r due b is put none;
}
