-- The wires of a graph within its limits are sound.
use Rattle.std.proofs.Common.{◌≡◌, ℕ, zero, suc, ◌+◌, ◌-◌, ◌*◌, ◌/◌, ◌<◌, ◌≤◌, Bool, true, false, eqb, List, length, get_or, map, slice_get, Option, None, Some, All, refl, sym, ap, ap₂, subst, ◌∙◌, ⊎_elim, arith, eqb-true}
use Rattle.std.specs.Prelude.{IsSomeAnd}
use Rattle.std.specs.List.{Contains, list_any}
use Rattle.std.specs.Option.{option_map, unwrap_or}
use Rattle.std.proofs.lemmas.Bool.{and_parts}
use Rattle.std.proofs.lemmas.List.{length-map}
use Rattle.std.proofs.lemmas.List.Elements.{All-get_or}
use Rattle.std.proofs.lemmas.Option.{same_Some, slice_get_within, slice_get-get_or, slice_get-map, get_or_from_slice_get}
use Rattle.yt_graph.specs.declared.graph.Input.{Input}
use Rattle.yt_graph.specs.declared.graph.Output.{Output}
use Rattle.yt_graph.specs.declared.port.Feed as feed
use Rattle.yt_graph.specs.declared.port.Feed.{Feed}
use Rattle.yt_graph.specs.declared.port.Feed.TheVariants.{Out}
use Rattle.yt_graph.specs.declared.port.OutHead.{OutHead}
use Rattle.yt_graph.specs.Cost.{greatest_sends}
use Rattle.yt_graph.specs.Picture.{GraphTree, PortTree}
use Rattle.yt_graph.specs.WellFormed.{IsFeedOfWidth, IsFineInput, IsFineOut, IsWellFormed}
use Rattle.yt_cost.specs.Faults.{IsWithinLimits}
use Rattle.yt_cost.proofs.Lemmas.{fine_port}
use Rattle.yt_rates.specs.Faults.{IsWithinRates}
use Rattle.yt_rates.specs.Rates.{every_of, gap_of, period_of}
use Rattle.yt_chan.specs.declared.target.Arrived as target
use Rattle.yt_chan.specs.declared.target.Arrived.{Arrived}
use Rattle.yt_chan.specs.declared.wire.Wire.{Wire}
use Rattle.yt_chan.specs.Wires.{AreWires, IsPort, IsWire, feeds, no_wire, width_of, wire_at}
use Rattle.yt_chan.proofs.Lemmas.{any_has}
use Rattle.yt_list.proofs.Lemmas.{numbered_or_place}
use Rattle.yt_body.specs.Wiring.{is_fed, shows, ports_fed, outputs_fed, widths_of, wire_of, wires_of}
use Rattle.yt_body.proofs.Wires.{IsWireFrom, contains_has, fed, from_ports, in_order}

pub of_some : {X : Type 0} (P : X → Type 0) (o : Option X) → IsSomeAnd o P → (x : X) × (o ≡ Some x) × P x
of_some P None h = absurd h
of_some P (Some x) h = (x, refl, h)

pub all_there : {X : Type 0} (P : X → Type 0) (xs : List X) (k : ℕ) (x : X) → All P xs → slice_get xs k ≡ Some x → P x
all_there P xs k x all there = subst P (get_or_from_slice_get xs k x x there) (All-get_or P xs k x (slice_get_within xs k x there) all)

-- what is fed by an out has it for its feed
pub fed_is : (port out : ℕ) (f : Feed) → is_fed port out f ≡ true → f ≡ Out port out
fed_is port out (feed.TheVariants.Input input) h = cc
fed_is port out (feed.TheVariants.Out p o) h =
    let parts = and_parts (eqb p port) (eqb o out) h in
    ap₂ (λ (a b : ℕ). Out a b) (eqb-true p port parts.0) (eqb-true o out parts.1)

module _ (g : GraphTree) (well : IsWellFormed g) (rates : All (IsWithinRates g) g.ports) (limits : All IsWithinLimits g.ports) where
  -- no feed's messages have more than eight numbers
  narrow : (count : ℕ) (f : Feed) → IsFeedOfWidth g count f → count ≤ 8
  narrow count (feed.TheVariants.Input n) h =
      let i = of_some (λ (i : Input). i.width ≡ count) (slice_get g.inputs h.0) h.2 in
      let fine = all_there IsFineInput g.inputs h.0 i.0 well.each_input i.1 in
      let width = i.2 in
      let most = fine.1 in
      omega arith
  narrow count (feed.TheVariants.Out port out) h =
      let p = of_some (λ (p : PortTree). IsSomeAnd (slice_get p.outs h.1) (λ o. o.width ≡ count)) (slice_get g.ports h.0) h.4 in
      let o = of_some (λ (o : OutHead). o.width ≡ count) (slice_get p.0.outs h.1) p.2 in
      let fine = all_there IsFineOut p.0.outs h.1 o.0 (fine_port g h.0 p.0 well p.1).8 o.1 in
      let width = o.2 in
      let most = fine.1 in
      omega arith

  -- a port that an out feeds is there, and as wide as the out
  port_fed : (k : ℕ) (p : PortTree) (j : ℕ) (head : OutHead) → slice_get g.ports k ≡ Some p → slice_get p.outs j ≡ Some head → (port : ℕ) → port ≡ suc k → (m : ℕ) →
      Contains (ports_fed port (suc j) g.ports) m → IsPort (widths_of g) m × (width_of (widths_of g) m ≡ head.width)
  port_fed k p j head there at port is m (n, lt, e) =
      let f = fed (λ (q : PortTree). is_fed port (suc j) q.feed) 1 g.ports m (contains_has (ports_fed port (suc j) g.ports) m n lt e) in
      let q = f.1 in
      let number = f.3 in
      let within = slice_get_within g.ports f.0 f.1 f.2 in
      let long = length-map g.ports (λ (p : PortTree). p.params) in
      let from : f.1.feed ≡ Out port (suc j) = fed_is port (suc j) f.1.feed f.4 in
      let wide : IsFeedOfWidth g f.1.params (Out port (suc j)) = subst (IsFeedOfWidth g f.1.params) from (fine_port g f.0 f.1 well f.2).2 in
      let a : wide.0 ≡ k = omega (arith, wide.2) in
      let b : wide.1 ≡ j = omega (arith, wide.3) in
      let source = of_some (λ (p : PortTree). IsSomeAnd (slice_get p.outs wide.1) (λ o. o.width ≡ f.1.params)) (slice_get g.ports wide.0) wide.4 in
      let same : source.0 ≡ p = same_Some source.0 p (sym source.1 ∙ ap (slice_get g.ports) a ∙ there) in
      let out = of_some (λ (o : OutHead). o.width ≡ f.1.params) (slice_get source.0.outs wide.1) source.2 in
      let head_is : out.0 ≡ head = same_Some out.0 head (sym out.1 ∙ ap (slice_get source.0.outs) b ∙ ap (λ (x : PortTree). slice_get x.outs j) same ∙ at) in
      let place : m - 1 ≡ f.0 = omega arith in
      let here : slice_get (widths_of g) f.0 ≡ Some f.1.params = slice_get-map (λ (p : PortTree). p.params) g.ports f.0 ∙ ap (option_map (λ (p : PortTree). p.params)) f.2 in
      let width : width_of (widths_of g) m ≡ f.1.params =
      numbered_or_place (widths_of g) m 0 (omega arith) ∙ ap (λ (i : ℕ). get_or (widths_of g) i 0) place ∙ get_or_from_slice_get (widths_of g) f.0 f.1.params 0 here in
      ((omega arith, omega arith), width ∙ sym out.2 ∙ ap (λ (o : OutHead). o.width) head_is)

  -- the wire of an out is within the limits
  wire_fine : (k : ℕ) (p : PortTree) (j : ℕ) (head : OutHead) → slice_get g.ports k ≡ Some p → slice_get p.outs j ≡ Some head → IsWire (widths_of g) (wire_of g (suc k) p (suc j) head)
  wire_fine k p j head there at =
      let inside = slice_get_within g.ports k p there in
      let out_inside = slice_get_within p.outs j head at in
      let long = length-map g.ports (λ (p : PortTree). p.params) in
      let fine = fine_port g k p well there in
      let few = fine.6 in
      let own = all_there IsFineOut p.outs j head fine.8 at in
      let rate = all_there (IsWithinRates g) g.ports k p rates there in
      let limit = all_there IsWithinLimits g.ports k p limits there in
      let every : every_of p (suc j) ≡ head.every = ap (λ (o : Option OutHead). unwrap_or (option_map (λ o. o.every) o) 1) at in
      record {
        port = (omega arith, omega arith);
        out = (omega arith, omega arith);
        width = own.1;
        sends = (rate.outs.sends (suc j) (omega arith) (omega arith), limit.sends (suc j) (omega arith) (omega arith));
        every = own.2;
        period = (rate.some_period, rate.period);
        gap = (rate.outs.gap (suc j) (omega arith) (omega arith), ap (λ (e : ℕ). e * period_of g p / greatest_sends p (suc j)) every);
        ports = port_fed k p j head there at (suc k) refl;
        outputs = λ n c.
            let f = fed (shows (suc k) (suc j)) 1 g.outputs n (contains_has (outputs_fed (suc k) (suc j) g.outputs) n c.0 c.1 c.2) in
            let number = f.3 in
            let within = slice_get_within g.outputs f.0 f.1 f.2 in
            let few = well.counts.outputs in
            (omega arith, omega arith);
      }

  pub wire_from : (k : ℕ) → k < length (wires_of g) → IsWireFrom g 1 g.ports (wire_at (wires_of g) k)
  wire_from k lt = from_ports g 1 g.ports k (wire_at (wires_of g) k) (slice_get-get_or (wires_of g) k no_wire lt)

  each_wire : (k : ℕ) → k < length (wires_of g) → IsWire (widths_of g) (wire_at (wires_of g) k)
  each_wire k lt =
      let r = wire_from k lt in
      let e : 1 + r.place ≡ suc r.place = omega arith in
      subst (IsWire (widths_of g)) (sym (r.is ∙ ap (λ (m : ℕ). wire_of g m r.port (suc r.at) r.head) e)) (wire_fine r.place r.port r.at r.head r.there r.out)

  -- no out has two wires
  one_each : (j k : ℕ) → j < k → k < length (wires_of g) → (wire_at (wires_of g) j).port ≡ (wire_at (wires_of g) k).port → (wire_at (wires_of g) j).out ≡ (wire_at (wires_of g) k).out → ⊥
  one_each j k lt inside port out =
      let a = wire_at (wires_of g) j in
      let b = wire_at (wires_of g) k in
      ⊎_elim
      (λ (less : a.port < b.port). absurd (omega arith))
      (λ (same : (a.port ≡ b.port) × (a.out < b.out)). let less = same.1 in absurd (omega arith))
      (in_order g 1 g.ports j k a b lt (slice_get-get_or (wires_of g) j no_wire (omega arith)) (slice_get-get_or (wires_of g) k no_wire inside))

  -- a target is fed by the out that its feed says
  pub port_source : (k m : ℕ) → k < length (wires_of g) → feeds (wire_at (wires_of g) k) (target.TheVariants.Port m) ≡ true →
      (i : ℕ) × (q : PortTree) × (m ≡ suc i) × (slice_get g.ports i ≡ Some q) × (q.feed ≡ Out (wire_at (wires_of g) k).port (wire_at (wires_of g) k).out)
  port_source k m lt h =
      let w = wire_at (wires_of g) k in
      let r = wire_from k lt in
      let port : w.port ≡ 1 + r.place = ap (λ (w : Wire). w.port) r.is in
      let out : w.out ≡ suc r.at = ap (λ (w : Wire). w.out) r.is in
      let ports : w.ports ≡ ports_fed (1 + r.place) (suc r.at) g.ports = ap (λ (w : Wire). w.ports) r.is in
      let c = any_has w.ports m h in
      let has = subst (λ (ns : List ℕ). Contains ns m) ports c in
      let f = fed (λ (q : PortTree). is_fed (1 + r.place) (suc r.at) q.feed) 1 g.ports m (contains_has (ports_fed (1 + r.place) (suc r.at) g.ports) m has.0 has.1 has.2) in
      let number = f.3 in
      (f.0, f.1, omega arith, f.2, fed_is (1 + r.place) (suc r.at) f.1.feed f.4 ∙ sym (ap₂ (λ (a b : ℕ). Out a b) port out))

  pub output_source : (k m : ℕ) → k < length (wires_of g) → feeds (wire_at (wires_of g) k) (target.TheVariants.Output m) ≡ true →
      (i : ℕ) × (o : Output) × (m ≡ suc i) × (slice_get g.outputs i ≡ Some o) × (o.port ≡ (wire_at (wires_of g) k).port) × (o.out ≡ (wire_at (wires_of g) k).out)
  output_source k m lt h =
      let w = wire_at (wires_of g) k in
      let r = wire_from k lt in
      let port : w.port ≡ 1 + r.place = ap (λ (w : Wire). w.port) r.is in
      let out : w.out ≡ suc r.at = ap (λ (w : Wire). w.out) r.is in
      let outputs : w.outputs ≡ outputs_fed (1 + r.place) (suc r.at) g.outputs = ap (λ (w : Wire). w.outputs) r.is in
      let c = any_has w.outputs m h in
      let has = subst (λ (ns : List ℕ). Contains ns m) outputs c in
      let f = fed (shows (1 + r.place) (suc r.at)) 1 g.outputs m (contains_has (outputs_fed (1 + r.place) (suc r.at) g.outputs) m has.0 has.1 has.2) in
      let number = f.3 in
      let parts = and_parts (eqb f.1.port (1 + r.place)) (eqb f.1.out (suc r.at)) f.4 in
      (f.0, f.1, omega arith, f.2, eqb-true f.1.port (1 + r.place) parts.0 ∙ sym port, eqb-true f.1.out (suc r.at) parts.1 ∙ sym out)

  one_source : (j k : ℕ) (t : Arrived) → j < k → k < length (wires_of g) → feeds (wire_at (wires_of g) j) t ≡ true → feeds (wire_at (wires_of g) k) t ≡ true → ⊥
  one_source j k (target.TheVariants.Port m) lt inside a b =
      let x = port_source j m (omega arith) a in
      let y = port_source k m inside b in
      let place : x.0 ≡ y.0 = omega (arith, x.2, y.2) in
      let same : x.1 ≡ y.1 = same_Some x.1 y.1 (sym x.3 ∙ ap (slice_get g.ports) place ∙ y.3) in
      let outs : Out (wire_at (wires_of g) j).port (wire_at (wires_of g) j).out ≡ Out (wire_at (wires_of g) k).port (wire_at (wires_of g) k).out =
      sym x.4 ∙ ap (λ (p : PortTree). p.feed) same ∙ y.4 in
      one_each j k lt inside (cc) (cc)
  one_source j k (target.TheVariants.Output m) lt inside a b =
      let x = output_source j m (omega arith) a in
      let y = output_source k m inside b in
      let place : x.0 ≡ y.0 = omega (arith, x.2, y.2) in
      let same : x.1 ≡ y.1 = same_Some x.1 y.1 (sym x.3 ∙ ap (slice_get g.outputs) place ∙ y.3) in
      one_each j k lt inside (sym x.4 ∙ ap (λ (o : Output). o.port) same ∙ y.4) (sym x.5 ∙ ap (λ (o : Output). o.out) same ∙ y.5)

  wide : (k : ℕ) → k < length (widths_of g) → get_or (widths_of g) k 0 ≤ 8
  wide k lt =
      let long = length-map g.ports (λ (p : PortTree). p.params) in
      let at = slice_get-get_or (widths_of g) k 0 lt in
      let p = of_map (slice_get g.ports k) (sym (slice_get-map (λ (p : PortTree). p.params) g.ports k) ∙ at) in
      let n = narrow p.0.params p.0.feed (fine_port g k p.0 well p.1).2 in
      let e = p.2 in
      omega arith
    where
      of_map : {n : ℕ} (o : Option PortTree) → option_map (λ (p : PortTree). p.params) o ≡ Some n → (p : PortTree) × (o ≡ Some p) × (p.params ≡ n)
      of_map {n} None e = cc
      of_map {n} (Some p) e = (p, refl, same_Some p.params n e)

  pub are_wires : AreWires (widths_of g) (wires_of g)
  are_wires =
      let long = length-map g.ports (λ (p : PortTree). p.params) in
      let few = well.counts.ports in
      record { many = omega arith; wide = wide; each = each_wire; outs = one_each; sources = one_source }
