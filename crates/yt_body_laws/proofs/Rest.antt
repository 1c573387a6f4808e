-- What is to come.
use Rattle.std.proofs.Common.{◌≡◌, ◌⊎◌, ℕ, zero, suc, ◌<◌, ◌≤◌, List, length, slice_get, Option, None, Some, refl, sym, ap, subst, ◌∙◌, inl, inr, ⊎_elim, arith}
use Rattle.std.specs.List.{Contains}
use Rattle.std.proofs.lemmas.Bool.{cases_lt}
use Rattle.std.proofs.lemmas.Option.{none-some}
use Rattle.yt_graph.specs.declared.port.Feed.TheVariants.{Input, Out}
use Rattle.yt_graph.specs.Picture.{PortTree, graph_tree}
use Rattle.yt_chan.specs.declared.target.Arrived.TheVariants.{Port, Output}
use Rattle.yt_chan.specs.Pending.{Pending}
use Rattle.yt_chan.specs.State.{NoneIsLate, Waits, job_at, waits_at}
use Rattle.yt_rates.specs.Acceptance.{Parts}
use Rattle.yt_trace.specs.declared.message.Message.{Message}
use Rattle.yt_serial.specs.Premises.{CanRun}
use Rattle.yt_serial.specs.PortMessages.{PortMessage}
use Rattle.yt_serial.specs.SerialHandling.{Serial, handled_of}
use Rattle.yt_serial.proofs.Lemmas.{feed_cases, numbered_within}
use Rattle.yt_interleave.specs.Carrying.{as_message}
use Rattle.yt_interleave.specs.Executives.{AllReleased}
use Rattle.yt_interleave.specs.Interleaved.{ActiveJob, RunState, known_at, port_at}
use Rattle.yt_interleave.specs.Lines.{messages_to}
use Rattle.yt_interleave.specs.Moves.{AllKnownHandled, Interleaves}
use Rattle.yt_interleave.specs.Runs.{AllShown}
use Rattle.yt_interleave.specs.Waits.{NoneComesBefore}
use Rattle.yt_interleave.proofs.Lemmas.{known_port, messages_wait, wait_there}
use Rattle.yt_body.specs.declared.port_run.PortStage.{PortStage}
use Rattle.yt_body.specs.declared.port_run.PortStage.TheVariants.{Idle}
use Rattle.yt_body.specs.Sound.{IsAsStage, IsIdle, IsPortOf}
use Rattle.yt_body.specs.State.{HandlersState, graph_of, run_at}
use Rattle.yt_body.proofs.Lemmas.{number_at}
use Rattle.yt_body_laws.specs.Carrying.{Carries, come_to}
use Rattle.yt_body_laws.specs.Placing.{BodiesRest, FeedsSome, TraceIsFrom}
use Rattle.yt_body_laws.proofs.Codes.{graph_in, port_is}
use Rattle.yt_body_laws.proofs.Placing.{all_out, still_waits}
use Rattle.yt_body_laws.proofs.Ticks.{idle_begun}
use Rattle.yt_body_laws.proofs.Traces.{of_trace}

-- a message of the trace, of an input that feeds a port, comes when another one does
abbrev IsOfTrace : Parts → List Message → PortMessage → Type 0
IsOfTrace parts trace m = (j : ℕ) × (x : Message) × (slice_get trace j ≡ Some x) × (x.time ≡ m.time) × FeedsSome (graph_in parts) x.input

module _ (parts : Parts) (trace : List Message) (can : CanRun (graph_in parts) trace) (s : Serial) (r : RunState) (is : Interleaves (graph_in parts) trace s r) (due : ℕ) (b : HandlersState)
    (c : Carries parts s r (λ target. due) b) where
  -- a known message that has not come is one of the trace, or waits
  to_come : (port k : ℕ) (m : PortMessage) → slice_get (known_at r port) k ≡ Some m → due ≤ m.time →
      IsOfTrace parts trace m ⊎ ((q : Pending) × Contains (waits_at b.channels (Port port)) q × (as_message q ≡ m))
  to_come port k m there le =
      ⊎_elim
      (λ (i : (input : ℕ) × ((port_at (graph_in parts) port).feed ≡ Input input)).
      let p = known_port (graph_in parts) trace can s r is port (suc k) m there in
      let from : p.0.feed ≡ Input i.0 = ap (λ (q : PortTree). q.feed) (sym (port_is (graph_in parts) port p.0 p.1)) ∙ i.1 in
      let all = messages_wait.input (graph_in parts) trace can s r is port p.0 i.0 p.1 from in
      let x = of_trace i.0 trace k m (ap (λ (ms : List PortMessage). slice_get ms k) (sym all) ∙ there) in
      inl (x.0, x.1, x.2, ap (λ (y : PortMessage). y.time) x.3, (port, (p.0, p.1, from ∙ ap (λ (n : ℕ). Input n) (sym x.4)))))
      (λ (o : (source out : ℕ) × ((port_at (graph_in parts) port).feed ≡ Out source out)).
      inr (still_waits parts s r (λ target. due) b c (Port port) k m (ap (λ (ms : List PortMessage). slice_get ms k) (all_out (port_at (graph_in parts) port).feed (known_at r port) o.0 o.1 o.2) ∙ there) le))
      (feed_cases (port_at (graph_in parts) port).feed)

  next_comes : (t : ℕ) → NoneIsLate b.channels t → TraceIsFrom (graph_in parts) trace due t → NoneComesBefore r due t
  next_comes t none_late trace_from = record {
    ports = λ port k m h.
        let w = wait_there due (known_at r port) k m h in
        ⊎_elim
        (λ (x : IsOfTrace parts trace m).
        let late = w.2 in
        let time = x.3 in
        let from = trace_from x.0 x.1 x.2 x.4 (omega arith) in
        omega arith)
        (λ (q : (q : Pending) × Contains (waits_at b.channels (Port port)) q × (as_message q ≡ m)).
        let late = none_late q.0 (Port port, q.1) in
        let time = ap (λ (y : PortMessage). y.time) q.2 in
        omega arith)
        (to_come port w.0 m w.1 w.2);
    outputs = λ n k m h.
        let w = wait_there due (messages_to r.outputs n) k m h in
        let q = still_waits parts s r (λ target. due) b c (Output n) w.0 m w.1 w.2 in
        let late = none_late q.0 (Output n, q.1) in
        let time = ap (λ (y : PortMessage). y.time) q.2 in
        omega arith;
  }

  all_come : ((m : Pending) → Waits b.channels m → ⊥) → ((k : ℕ) (x : Message) → slice_get trace k ≡ Some x → FeedsSome (graph_in parts) x.input → x.time < due) → AllReleased r due × AllShown r due
  all_come none used = (released, shown_all)
    where
      released : AllReleased r due
      released port zero m there = absurd (none-some m there)
      released port (suc k) m there =
          ⊎_elim
          (λ (lt : m.time < due). lt)
          (λ (ge : due ≤ m.time).
          ⊎_elim
          (λ (x : IsOfTrace parts trace m).
          let before = used x.0 x.1 x.2 x.4 in
          let time = x.3 in
          absurd (omega arith))
          (λ (q : (q : Pending) × Contains (waits_at b.channels (Port port)) q × (as_message q ≡ m)). absurd (none q.0 (Port port, q.1)))
          (to_come port k m there ge))
          (cases_lt m.time due)

      shown_all : AllShown r due
      shown_all n k x there =
          ⊎_elim
          (λ (lt : x.time < due). lt)
          (λ (ge : due ≤ x.time). let q = still_waits parts s r (λ target. due) b c (Output n) k x there ge in absurd (none q.0 (Output n, q.1)))
          (cases_lt x.time due)

  over : AllReleased r due → ((port : ℕ) → (run_at b port).stage ≡ Idle) → AllKnownHandled (graph_in parts) s r
  over released idle = record { none = λ port. quiet port (r.active port) refl; all = all }
    where
      quiet : (port : ℕ) (o : Option ActiveJob) → r.active port ≡ o → r.active port ≡ None
      quiet port None e = e
      quiet port (Some a) e = absurd (idle_begun (sym (idle port) ∙ (c.begun port a e).stage))

      all : (port : ℕ) → 1 ≤ port → port ≤ length (graph_in parts).ports → handled_of s port ≡ length (known_at r port)
      all port some most =
          let number : (run_at b port).number ≡ handled_of s port = c.came port ∙ ap (λ (x : PortStage). come_to x (handled_of s port)) (idle port) in
          let long : length (graph_of b).ports ≡ length (graph_in parts).ports = ap (λ (q : Parts). length (graph_tree q.graph).ports) c.graph in
          let inside : IsPortOf (graph_of b) port = (some, omega arith) in
          let sound : IsIdle b.channels port (run_at b port) = subst (IsAsStage b.parts b.channels b.vars port (run_at b port)) (idle port) (c.sound.each port inside) in
          let last = sound.number in
          let low : handled_of s port ≤ length (known_at r port) =
          ⊎_elim
          (λ (lt : 0 < (job_at b.channels port).number).
          let closed = c.closed port lt in
          let within = numbered_within (known_at r port) (job_at b.channels port).number closed.message closed.there in
          omega (arith, within.1))
          (λ (ge : (job_at b.channels port).number ≤ 0). omega arith)
          (cases_lt 0 (job_at b.channels port).number) in
          let high : length (known_at r port) ≤ handled_of s port =
          ⊎_elim
          (λ (lt : 0 < length (known_at r port)).
          let x = number_at (known_at r port) (length (known_at r port)) (omega arith) (omega arith) in
          let before = released port (length (known_at r port)) x.0 x.1 in
          let le = c.arrived port (length (known_at r port)) x.0 x.1 before in
          omega arith)
          (λ (ge : length (known_at r port) ≤ 0). omega arith)
          (cases_lt 0 (length (known_at r port))) in
          omega arith

pub bodies_rest : BodiesRest
bodies_rest = record {
  next_comes = λ parts trace can s r is due t b c none_late trace_from. next_comes parts trace can s r is due b c t none_late trace_from;
  all_come = λ parts trace can s r is due b c none used. all_come parts trace can s r is due b c none used;
  over = λ parts trace can s r is due b c released idle. over parts trace can s r is due b c released idle;
}
