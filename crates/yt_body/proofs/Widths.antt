-- How wide the messages are that are open, that wait and that come.
use Rattle.std.proofs.Common.{◌≡◌, ℕ, ◌+◌, ◌-◌, ◌%◌, ◌<◌, ◌≤◌, ◌⊎◌, Bool, true, false, cond, eqb, List, [], ◌∷◌, ◌++◌, length, slice_get, Option, Some, refl, sym, ap, subst, ◌∙◌, inl, inr, ⊎_elim, arith, eqb-true, zero, suc}
use Rattle.std.specs.Prelude.{ℤ}
use Rattle.std.specs.List.{Contains}
use Rattle.std.specs.Option.{option_map}
use Rattle.std.proofs.lemmas.Bool.{cases_Bool, cases_eq, cond-true, cond-false}
use Rattle.std.proofs.lemmas.List.{length-map}
use Rattle.std.proofs.lemmas.List.Elements.{Contains-append_cases, Contains-append_left}
use Rattle.std.proofs.lemmas.Option.{get_or_from_slice_get, slice_get-map}
use Rattle.yt_graph.specs.Picture.{GraphTree, PortTree}
use Rattle.yt_list.proofs.Lemmas.{numbered_or_place, numbered_there}
use Rattle.yt_log.specs.declared.job.Job.{Job}
use Rattle.yt_log.specs.Tasks.{Has}
use Rattle.yt_chan.specs.declared.wire.Wire.{Wire}
use Rattle.yt_chan.specs.declared.target.Arrived.{Arrived}
use Rattle.yt_chan.specs.declared.target.Arrived.TheVariants.{Port}
use Rattle.yt_chan.specs.Pending.{Pending, with_ticks}
use Rattle.yt_chan.specs.Changes.{Delivers, KeepsOpens, KeepsWires}
use Rattle.yt_chan.specs.State.{ChannelState, open_at, passed_over, waits_at}
use Rattle.yt_chan.specs.Wires.{AreWires, IsPort, width_of, wire_at, wire_to}
use Rattle.yt_chan.proofs.Lemmas.{any_has, source_is}
use Rattle.yt_interleave.specs.Interleaved.{port_at}
use Rattle.yt_body.specs.Sends.{AreOpenWide, Closes}
use Rattle.yt_body.specs.Sound.{AreWaitingWide, IsPortOf}
use Rattle.yt_body.specs.Wiring.{widths_of, wires_of}
use Rattle.yt_body.proofs.Facts.{tree_at}
use Rattle.yt_body.proofs.Wires.{contains_has}

pub opens_kept : (old new : ChannelState) → KeepsWires old new → KeepsOpens old new → AreOpenWide old → AreOpenWide new
opens_kept old new wires opens wide k vs has =
    subst (λ (ws : List Wire). (k < length ws) × (length vs ≡ (wire_at ws k).width)) (sym wires.1) (wide k vs (subst (λ (ms : List (List ℤ)). Contains ms vs) (opens k) has))

pub waits_kept : (old new : ChannelState) → new.wires ≡ old.wires → ((target : Arrived) (m : Pending) → Contains (waits_at new target) m → Contains (waits_at old target) m) → AreWaitingWide old → AreWaitingWide new
waits_kept old new wires less wide target m has =
    subst (λ (ws : List Wire). (wire_to ws target < length ws) × (length m.values ≡ (wire_at ws (wire_to ws target)).width)) (sym wires) (wide target m (less target m has))

-- after a job's end there is less open
pub opens_closed : (old new : ChannelState) (job : Job) (arrival : ℕ) → Closes old new job arrival → AreOpenWide old → AreOpenWide new
opens_closed old new job arrival s wide k vs has =
    let own = eqb (wire_at old.wires k).port job.task in
    let left = subst (λ (ms : List (List ℤ)). Contains ms vs) (s.opens k) has in
    subst (λ (ws : List Wire). (k < length ws) × (length vs ≡ (wire_at ws k).width)) (sym s.wires.1)
    (⊎_elim
    (λ (e : own ≡ true).
    let none = subst (λ (ms : List (List ℤ)). Contains ms vs) (cond-true own [] (open_at old k) e) left in
    absurd (contains_has [] vs none.0 none.1 none.2))
    (λ (e : own ≡ false). wide k vs (subst (λ (ms : List (List ℤ)). Contains ms vs) (cond-false own [] (open_at old k) e) left))
    (cases_Bool own))

has_contains : {X : Type 0} (xs : List X) (x : X) → Has xs x → Contains xs x
has_contains [] x h = absurd h
has_contains (y ∷ xs) x h =
    ⊎_elim
    (λ (e : x ≡ y). (0, omega arith, sym e))
    (λ (r : Has xs x). let c = has_contains xs x r in let lt = c.1 in (suc c.0, omega arith, c.2))
    h

-- the numbers of a job's messages are those that were open
ticks_values : (number time gap : ℕ) (messages : List (List ℤ)) (m : Pending) → Has (with_ticks number time gap messages) m → Has messages m.values
ticks_values number time gap [] m h = absurd h
ticks_values number time gap (v ∷ rest) m h =
    ⊎_elim
    (λ (e : m ≡ record { time = time; number = number; values = v }). inl (ap (λ (p : Pending). p.values) e))
    (λ (r : Has (with_ticks number (time + gap) gap rest) m). inr (ticks_values number (time + gap) gap rest m r))
    h

passed_values : (wire : Wire) (messages : List (List ℤ)) (job : Job) (arrival : ℕ) (m : Pending) → Contains (passed_over wire messages job arrival) m → Contains messages m.values
passed_values wire messages job arrival m has =
    let all = with_ticks job.number (arrival + wire.period) wire.gap messages in
    let h : Has (passed_over wire messages job arrival) m = contains_has (passed_over wire messages job arrival) m has.0 has.1 has.2 in
    has_contains messages m.values (ticks_values job.number (arrival + wire.period) wire.gap messages m
    (of_cond (eqb (job.number % wire.every) 0) all (of_cond (eqb wire.port job.task) (cond (eqb (job.number % wire.every) 0) all []) h)))
  where
    of_cond : (b : Bool) (ms : List Pending) → Has (cond b ms []) m → Has ms m
    of_cond true ms h = h
    of_cond false ms h = absurd h

pub waits_closed : (old new : ChannelState) (job : Job) (arrival : ℕ) → Closes old new job arrival → AreOpenWide old → AreWaitingWide old → AreWaitingWide new
waits_closed old new job arrival s opens wide target m has =
    let k = wire_to old.wires target in
    let wire = wire_at old.wires k in
    subst (λ (ws : List Wire). (wire_to ws target < length ws) × (length m.values ≡ (wire_at ws (wire_to ws target)).width)) (sym s.wires.1)
    (⊎_elim
    (λ (before : Contains (waits_at old target) m). wide target m before)
    (λ (passed : Contains (passed_over wire (open_at old k) job arrival) m). opens k m.values (passed_values wire (open_at old k) job arrival m passed))
    (Contains-append_cases (waits_at old target) (passed_over wire (open_at old k) job arrival) m (subst (λ (ms : List Pending). Contains ms m) (s.waits target) has)))

pub width_is : (g : GraphTree) (port : ℕ) → IsPortOf g port → width_of (widths_of g) port ≡ (port_at g port).params
width_is g port inside =
    let there = numbered_there g.ports port (port_at g port) (tree_at g port inside) in
    let here : slice_get (widths_of g) (port - 1) ≡ Some (port_at g port).params =
    slice_get-map (λ (p : PortTree). p.params) g.ports (port - 1) ∙ ap (option_map (λ (p : PortTree). p.params)) there.1 in
    numbered_or_place (widths_of g) port 0 inside.0 ∙ get_or_from_slice_get (widths_of g) (port - 1) (port_at g port).params 0 here

pub is_port : (g : GraphTree) (port : ℕ) → IsPortOf g port → IsPort (widths_of g) port
is_port g port inside = let long = length-map g.ports (λ (p : PortTree). p.params) in let last = inside.1 in (inside.0, omega arith)

-- a message that waits for a port has as many numbers as the port has parameters, and the port is there
pub waits_wide : (g : GraphTree) → AreWires (widths_of g) (wires_of g) → (old : ChannelState) (port : ℕ) → old.wires ≡ wires_of g → AreWaitingWide old → (m : Pending) → Contains (waits_at old (Port port)) m →
    IsPortOf g port × (length m.values ≡ (port_at g port).params)
waits_wide g are old port wires wide m has =
    let w = subst (λ (ws : List Wire). (wire_to ws (Port port) < length ws) × (length m.values ≡ (wire_at ws (wire_to ws (Port port))).width)) wires (wide (Port port) m has) in
    let k = wire_to (wires_of g) (Port port) in
    let fed = any_has (wire_at (wires_of g) k).ports port (source_is (wires_of g) (Port port) w.0) in
    let at = (are.each k w.0).ports port fed in
    let long = length-map g.ports (λ (p : PortTree). p.params) in
    let last = at.0.1 in
    let inside : IsPortOf g port = (at.0.0, omega arith) in
    (inside, w.1 ∙ sym at.1 ∙ width_is g port inside)

pub comes_wide : (g : GraphTree) → AreWires (widths_of g) (wires_of g) → (old new : ChannelState) (now port : ℕ) → old.wires ≡ wires_of g → AreWaitingWide old → (d : Delivers old new now (Port port)) →
    IsPortOf g port × (length d.message.values ≡ (port_at g port).params)
comes_wide g are old new now port wires wide d =
    waits_wide g are old port wires wide d.message (subst (λ (ms : List Pending). Contains ms d.message) (sym d.taken) (0, omega arith, refl))
