-- Each message that comes finds its port free.
use Rattle.std.proofs.Common.{◌≡◌, ℕ, suc, ◌+◌, ◌-◌, ◌*◌, ◌/◌, ◌%◌, ◌<◌, ◌≤◌, List, length, map, slice_get, Option, None, Some, refl, sym, ap, subst, ◌∙◌, ⊎_elim, arith}
use Rattle.std.specs.List.{Contains}
use Rattle.std.specs.Option.{option_map}
use Rattle.std.proofs.lemmas.Bool.{cases_lt}
use Rattle.std.proofs.lemmas.Nat.{mul-le}
use Rattle.std.proofs.lemmas.Option.{none-some, same_Some, get_or_from_slice_get, slice_get-get_or, slice_get-map, slice_get_within}
use Rattle.std.proofs.Math.Nat.{mod-add-div, mul-mod_right}
use Rattle.yt_graph.specs.Cost.{greatest_sends}
use Rattle.yt_graph.specs.declared.port.Feed as feed
use Rattle.yt_graph.specs.declared.port.Feed.{Feed}
use Rattle.yt_graph.specs.Picture.{GraphTree, PortTree, graph_tree}
use Rattle.yt_list.specs.Numbered.{numbered}
use Rattle.yt_log.specs.Limits.{most_arrival}
use Rattle.yt_log.proofs.Lemmas.{next_multiple}
use Rattle.yt_chan.specs.declared.target.Arrived.{Arrived}
use Rattle.yt_chan.specs.declared.target.Arrived.TheVariants.{Port}
use Rattle.yt_chan.specs.declared.wire.Wire.{Wire}
use Rattle.yt_chan.specs.Pending.{Pending}
use Rattle.yt_chan.specs.State.{IsApart, NoneIsLate, job_at, waits_at}
use Rattle.yt_chan.specs.Wires.{no_wire, wire_at, wire_of_out, wire_to}
use Rattle.yt_chan.proofs.Lemmas.{line_is}
use Rattle.yt_rates.specs.Acceptance.{Parts}
use Rattle.yt_rates.specs.Rates.{every_of, gap_of, within_of}
use Rattle.yt_trace.specs.declared.message.Message.{Message}
use Rattle.yt_serial.specs.Beginnings.{order_of}
use Rattle.yt_serial.specs.Premises.{IsHandling}
use Rattle.yt_serial.specs.PortMessages.{PortMessage}
use Rattle.yt_serial.specs.SerialHandling.{Serial, handled_of, messages_at}
use Rattle.yt_serial.proofs.Lemmas.{numbered_far, numbered_within, period_some}
use Rattle.yt_schedule_laws.proofs.Lemmas.{by_start, has_numbered, rated}
use Rattle.yt_interleave.specs.Carrying.{as_message}
use Rattle.yt_interleave.specs.Interleaved.{RunState, known_at}
use Rattle.yt_interleave.specs.Waits.{wait_from}
use Rattle.yt_interleave.proofs.Lemmas.{known_first, known_port, messages_wait, number_before, runs_are_on_time, wait_there}
use Rattle.yt_body.specs.declared.port_run.PortStage.{PortStage}
use Rattle.yt_body.specs.declared.port_run.PortStage.TheVariants.{Idle, Placed, Begun}
use Rattle.yt_body.specs.Sound.{IsAsStage, IsClearOf, IsIdle, IsPortOf}
use Rattle.yt_body.specs.State.{HandlersState, graph_of, run_at}
use Rattle.yt_body.specs.Wiring.{wires_of}
use Rattle.yt_body.proofs.Lemmas.{are_wires}
use Rattle.yt_body_laws.specs.Carrying.{Carries, IsSentBy, come_to, known_for, over_wire}
use Rattle.yt_body_laws.specs.Placing.{IsPlacing, MayComeNow}
use Rattle.yt_body_laws.proofs.Carried.{wires_are}
use Rattle.yt_body_laws.proofs.Codes.{graph_in}
use Rattle.yt_body_laws.proofs.Sources.{IsOfOut, limited, of_out}

pub contains_get : {X : Type 0} (xs : List X) (x : X) → Contains xs x → (k : ℕ) × (slice_get xs k ≡ Some x)
contains_get xs x (k, lt, e) = (k, slice_get-get_or xs k x lt ∙ ap (λ y. Some y) e)

pub get_contains : {X : Type 0} (xs : List X) (k : ℕ) (x : X) → slice_get xs k ≡ Some x → Contains xs x
get_contains xs k x h = (k, slice_get_within xs k x h, get_or_from_slice_get xs k x x h)

-- a message of mapped ones is one of them
pub mapped_at : (ms : List Pending) (k : ℕ) (x : PortMessage) → slice_get (map as_message ms) k ≡ Some x → (m : Pending) × (slice_get ms k ≡ Some m) × (as_message m ≡ x)
mapped_at ms k x h = by (slice_get ms k) refl
  where
    by : (o : Option Pending) → slice_get ms k ≡ o → (m : Pending) × (slice_get ms k ≡ Some m) × (as_message m ≡ x)
    by None e = absurd (none-some x (sym (slice_get-map as_message ms k ∙ ap (option_map as_message) e) ∙ h))
    by (Some m) e = (m, e, same_Some (as_message m) x (sym (slice_get-map as_message ms k ∙ ap (option_map as_message) e) ∙ h))

-- a message that comes over a wire is a known one
pub over_there : (f : Feed) (ms : List PortMessage) (k : ℕ) (x : PortMessage) → slice_get (over_wire f ms) k ≡ Some x → slice_get ms k ≡ Some x
over_there (feed.TheVariants.Input input) ms k x h = absurd (none-some x h)
over_there (feed.TheVariants.Out port out) ms k x h = h

stage_idle : (stage : PortStage) → (stage ≡ Begun → ⊥) → (stage ≡ Placed → ⊥) → stage ≡ Idle
stage_idle Idle begun placed = refl
stage_idle Placed begun placed = absurd (placed refl)
stage_idle Begun begun placed = absurd (begun refl)

-- what waits is known, and comes when it is due or later
pub waits_known : (parts : Parts) (s : Serial) (r : RunState) (due : Arrived → ℕ) (b : HandlersState) → Carries parts s r due b → (t : Arrived) (q : Pending) → Contains (waits_at b.channels t) q →
    (k : ℕ) × (slice_get (known_for (graph_in parts) r t) k ≡ Some (as_message q)) × (due t ≤ q.time)
waits_known parts s r due b c t q h =
    let g = contains_get (waits_at b.channels t) q h in
    let at : slice_get (wait_from (due t) (known_for (graph_in parts) r t)) g.0 ≡ Some (as_message q) =
    ap (λ (ms : List PortMessage). slice_get ms g.0) (sym (c.waits t)) ∙ slice_get-map as_message (waits_at b.channels t) g.0 ∙ ap (option_map as_message) g.1 in
    wait_there (due t) (known_for (graph_in parts) r t) g.0 (as_message q) at

module _ (parts : Parts) (trace : List Message) (s : Serial) (r : RunState) (due : Arrived → ℕ) (b : HandlersState) (is : IsPlacing parts trace s r due b) where
  pub none_late : NoneIsLate b.channels (length r.log)
  none_late m (t, h) =
      let w = waits_known parts s r due b is.carries t m h in
      let late = w.2 in
      let from = is.from t in
      omega arith

  module _ (port n : ℕ) (m : PortMessage) (there : numbered (known_at r port) n ≡ Some m) (now : m.time ≡ length r.log) where
    pub free : (n ≡ suc (handled_of s port)) × (r.active port ≡ None)
    free = runs_are_on_time.port_free (graph_in parts) trace is.can s r is.interleaves is.on_time port n m there now

    pub at_port : (p : PortTree) × (numbered (graph_in parts).ports port ≡ Some p)
    at_port = known_port (graph_in parts) trace is.can.can s r is.interleaves port n m there

    handling : IsHandling (graph_in parts) trace (order_of r.log) s
    handling = record { can = is.can.can; along = is.interleaves.stands.along }

    early : length r.log ≤ most_arrival
    early =
        let by = by_start (graph_in parts) trace (order_of r.log) s handling port at_port.0 at_port.1 m
        (has_numbered (messages_at s port) n m (known_first (graph_in parts) trace is.can.can s r is.interleaves port n m there)) in
        let start = (rated (graph_in parts) trace (order_of r.log) s handling port at_port.0 at_port.1).start in
        omega arith

    few : n ≤ most_arrival + 1
    few =
        let g = graph_in parts in
        let ms = known_at r port in
        let some = numbered_within ms n m there in
        let first = number_before ms n 1 m there (omega arith) some.0 in
        let spread : (i j : ℕ) (x y : PortMessage) → slice_get ms i ≡ Some x → slice_get ms j ≡ Some y → i < j → x.time + within_of g at_port.0 ≤ y.time =
        λ i j x y h k lt. messages_wait.apart g trace is.can.can s r is.interleaves port (suc i) (suc j) at_port.0 x y at_port.1 h k (omega arith) in
        let far = numbered_far (within_of g at_port.0) ms spread 1 n first.0 m first.1 there some.0 in
        let one = period_some g port at_port.0 is.can.can.rates at_port.1 in
        let le : (n - 1) * 1 ≤ (n - 1) * within_of g at_port.0 = mul-le (n - 1) 1 (n - 1) (within_of g at_port.0) (omega arith) (omega arith) in
        let e = early in
        omega arith

    module _ (waited : due (Port port) ≡ length r.log) where
      idle : (run_at b port).stage ≡ Idle
      idle = stage_idle (run_at b port).stage
          (λ e. let a = is.carries.only port e in none-some a.0 (sym free.1 ∙ a.1))
          (λ e.
          let h = is.carries.placed port e in
          let number : (run_at b port).number ≡ n = is.carries.came port ∙ ap (λ (x : PortStage). come_to x (handled_of s port)) e ∙ sym free.0 in
          let same : h.message ≡ m = same_Some h.message m (sym h.there ∙ ap (numbered (known_at r port)) number ∙ there) in
          let time : h.message.time ≡ m.time = ap (λ (x : PortMessage). x.time) same in
          let before = h.early in
          omega arith)

      number_is : (run_at b port).number ≡ handled_of s port
      number_is = is.carries.came port ∙ ap (λ (x : PortStage). come_to x (handled_of s port)) idle

      sound_idle : IsIdle b.channels port (run_at b port)
      sound_idle =
          let inside = numbered_within (graph_in parts).ports port at_port.0 at_port.1 in
          let long : length (graph_of b).ports ≡ length (graph_in parts).ports = ap (λ (q : Parts). length (graph_tree q.graph).ports) is.carries.graph in
          let there : IsPortOf (graph_of b) port = (inside.0, omega (arith, inside.1)) in
          subst (IsAsStage b.parts b.channels b.vars port (run_at b port)) idle (is.carries.sound.each port there)

      wires : b.channels.wires ≡ wires_of (graph_in parts)
      wires = wires_are parts b is.carries.graph is.carries.sound

      -- a wire of the channels is that of an out
      wire_of_out_at : (k : ℕ) → k < length b.channels.wires → IsOfOut (graph_in parts) (wire_at b.channels.wires k)
      wire_of_out_at k lt =
          let long : length b.channels.wires ≡ length (wires_of (graph_in parts)) = ap length wires in
          subst (IsOfOut (graph_in parts)) (ap (λ (ws : List Wire). wire_at ws k) (sym wires)) (of_out (graph_in parts) (limited parts is.accepted) k (omega arith))

      last_before : (job_at b.channels port).number < n
      last_before =
          let a = sound_idle.number in
          let c = number_is in
          let e = free.0 in
          omega arith

      apart : IsApart b.channels port (length r.log)
      apart some wire has own =
          let g = graph_in parts in
          let closed = is.carries.closed port some in
          let place = contains_get b.channels.wires wire has in
          let same : wire_at b.channels.wires place.0 ≡ wire = get_or_from_slice_get b.channels.wires place.0 wire no_wire place.1 in
          let source = subst (IsOfOut g) same (wire_of_out_at place.0 (slice_get_within b.channels.wires place.0 wire place.1)) in
          let port_same : source.port ≡ at_port.0 = same_Some source.port at_port.0 (sym source.there ∙ ap (numbered g.ports) own ∙ at_port.1) in
          let period : wire.period ≡ within_of g at_port.0 = source.timed.period ∙ ap (within_of g) port_same in
          let far = messages_wait.apart g trace is.can.can s r is.interleaves port (job_at b.channels port).number n at_port.0 closed.message m at_port.1 closed.there there last_before in
          let arrival = closed.arrival in
          omega arith

      module _ (out : ℕ) (lt : wire_of_out b.channels.wires port out < length b.channels.wires) where
        abbrev g : GraphTree
        g = graph_in parts

        abbrev w : Wire
        w = wire_at b.channels.wires (wire_of_out b.channels.wires port out)

        abbrev closed : ℕ
        closed = (job_at b.channels port).number

        every_some : 1 ≤ w.every
        every_some =
            let long : length b.channels.wires ≡ length (wires_of g) = ap length wires in
            let limits = limited parts is.accepted in
            let e : wire_at (wires_of g) (wire_of_out b.channels.wires port out) ≡ w = ap (λ (ws : List Wire). wire_at ws (wire_of_out b.channels.wires port out)) (sym wires) in
            subst (λ (x : Wire). 1 ≤ x.every) e ((are_wires g limits.well limits.rates limits.costs).each (wire_of_out b.channels.wires port out) (omega arith)).every.0

        one : (t : Arrived) → wire_to b.channels.wires t ≡ wire_of_out b.channels.wires port out → (q : Pending) → Contains (waits_at b.channels t) q → q.number ≡ w.every * (closed / w.every)
        one t at q has =
            let own = line_is b.channels.wires port out lt in
            let source = wire_of_out_at (wire_of_out b.channels.wires port out) lt in
            let port_same : source.port ≡ at_port.0 = same_Some source.port at_port.0 (sym source.there ∙ ap (numbered g.ports) own.0 ∙ at_port.1) in
            let here : wire_at (wires_of g) (wire_to (wires_of g) t) ≡ w = ap (λ (ws : List Wire). wire_at ws (wire_to ws t)) (sym wires) ∙ ap (wire_at b.channels.wires) at in
            let by = subst (λ (x : Wire). IsSentBy r b.channels x q) here (is.carries.sent t q has) in
            let count : (job_at b.channels w.port).number ≡ closed = ap (λ (i : ℕ). (job_at b.channels i).number) own.0 in
            let most = by.closed in
            let last = w.every * (closed / w.every) in
            let multiple : last % w.every ≡ 0 = mul-mod_right w.every (closed / w.every) in
            let div = mod-add-div closed w.every in
            let some = every_some in
            ⊎_elim
            (λ (later : last < q.number).
            let next = next_multiple w.every last q.number multiple by.passes later in
            absurd (omega arith))
            (λ (le : q.number ≤ last).
            ⊎_elim
            (λ (before : q.number < last).
            let first = known_first g trace is.can.can s r is.interleaves in
            let every : w.every ≡ every_of at_port.0 w.out = source.timed.every ∙ ap (λ (p : PortTree). every_of p w.out) port_same in
            let gap : w.gap ≡ gap_of g at_port.0 w.out = source.timed.gap ∙ ap (λ (p : PortTree). gap_of g p w.out) port_same in
            let period : w.period ≡ within_of g at_port.0 = source.timed.period ∙ ap (within_of g) port_same in
            let sends : w.sends ≡ greatest_sends at_port.0 w.out = source.sends ∙ ap (λ (p : PortTree). greatest_sends p w.out) port_same in
            let outs : length source.port.outs ≡ length at_port.0.outs = ap (λ (p : PortTree). length p.outs) port_same in
            let out_inside = source.inside in
            let sender : numbered (known_at r port) q.number ≡ Some by.sender = ap (λ (i : ℕ). numbered (known_at r i) q.number) (sym own.0) ∙ by.there in
            let before_n = last_before in
            let fewer = by.few in
            let old = messages_wait.old_come g trace is.can.can s r is.interleaves port n q.number last by.place at_port.0 m by.sender w.out at_port.1
            (first port n m there) (first port q.number by.sender sender) out_inside.0 (omega (arith, out_inside.1))
            (ap (λ (e : ℕ). q.number % e) (sym every) ∙ by.passes) (ap (λ (e : ℕ). last % e) (sym every) ∙ multiple) before (omega arith) (omega arith) in
            let span : by.place * w.gap ≡ by.place * gap_of g at_port.0 w.out = ap (λ (e : ℕ). by.place * e) gap in
            let time = by.time in
            let late = none_late q (t, has) in
            absurd (omega arith))
            (λ (ge : last ≤ q.number). omega arith)
            (cases_lt q.number last))
            (cases_lt last q.number)

      clear : IsClearOf b.channels port
      clear out lt =
          let w = wire_at b.channels.wires (wire_of_out b.channels.wires port out) in
          (w.every * ((job_at b.channels port).number / w.every), one out lt)

    pub may_come : due (Port port) ≡ length r.log → MayComeNow r b port n
    may_come waited =
        let number = number_is waited in
        let next = free.0 in
        let most = few in
        record {
          may = record {
            idle = idle waited;
            few = omega arith;
            early = early;
            apart = apart waited;
            clear = clear waited;
          };
          number = omega arith;
        }
