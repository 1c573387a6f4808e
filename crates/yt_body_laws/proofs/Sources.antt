-- Where the messages of wires come from and go to.
use Rattle.std.proofs.Common.{◌≡◌, ℕ, zero, suc, ◌+◌, ◌<◌, ◌≤◌, Bool, true, not, cond, eqb, List, [], ◌∷◌, ◌++◌, length, get_or, slice_get, Option, None, Some, All, refl, sym, ap, ap₂, subst, ◌∙◌, ⊎_elim, arith, eq-eqb}
use Rattle.std.specs.Prelude.{IsSomeAnd}
use Rattle.std.specs.List.{list_any, position_or_len}
use Rattle.std.specs.Option.{option_map, unwrap_or}
use Rattle.std.proofs.lemmas.Bool.{and_from, both_ways, cases_lt, cond-true, not-true, or_left, or_right}
use Rattle.std.proofs.lemmas.List.{get_or_past}
use Rattle.std.proofs.lemmas.List.Elements.{All-get_or}
use Rattle.std.proofs.lemmas.List.Folds.{list_any-append}
use Rattle.std.proofs.lemmas.List.Sums.{prefix_len_passes}
use Rattle.std.proofs.lemmas.Option.{none-some, get_or_from_slice_get, slice_get_within, same_Some}
use Rattle.yt_graph.specs.Cost.{greatest_sends}
use Rattle.yt_graph.specs.declared.graph as declared
use Rattle.yt_graph.specs.declared.port.Feed.{Feed}
use Rattle.yt_graph.specs.declared.port.Feed.TheVariants.{Input, Out}
use Rattle.yt_graph.specs.declared.port.OutHead.{OutHead}
use Rattle.yt_graph.specs.Labels.{no_port}
use Rattle.yt_graph.specs.Picture.{GraphTree, PortTree, graph_tree}
use Rattle.yt_graph.specs.WellFormed.{IsFeedOfWidth, IsFineOutput, IsOutAnd, IsWellFormed}
use Rattle.yt_list.specs.Numbered.{numbered}
use Rattle.yt_cost.specs.Faults.{IsWithinLimits}
use Rattle.yt_cost.proofs.Lemmas.{fine_port}
use Rattle.yt_rates.specs.Acceptance.{IsAccepted, Parts}
use Rattle.yt_rates.specs.Faults.{IsWithinRates}
use Rattle.yt_rates.specs.Rates.{every_of, gap_of}
use Rattle.yt_chan.specs.declared.target.Arrived as target
use Rattle.yt_chan.specs.declared.target.Arrived.{Arrived}
use Rattle.yt_chan.specs.declared.wire.Wire.{Wire}
use Rattle.yt_chan.specs.Wires.{feeds, no_wire, wire_at, wire_of_out, wire_to}
use Rattle.yt_chan.proofs.Lemmas.{own_line, source_is}
use Rattle.yt_interleave.specs.Carrying.{IsTimedAs}
use Rattle.yt_interleave.specs.Interleaved.{port_at}
use Rattle.yt_body.specs.Wiring.{is_fed, numbers_where, shows, widths_of, wire_of, wires_of, wires_of_outs, wires_of_ports}
use Rattle.yt_body.proofs.Lemmas.{are_wires, of_some, output_source, port_source, wire_from}
use Rattle.yt_body_laws.proofs.Codes.{port_is}

-- what feeds a target
abbrev pub output_feed : Option declared.Output.Output → Feed
output_feed None = Input 0
output_feed (Some o) = Out o.port o.out

abbrev pub feed_of : GraphTree → Arrived → Feed
feed_of g (target.TheVariants.Port port) = (port_at g port).feed
feed_of g (target.TheVariants.Output output) = output_feed (numbered g.outputs output)

-- a graph whose rates and costs are within their limits
pub record IsLimited (g : GraphTree) : Type 0 where
  pub well : IsWellFormed g
  pub rates : All (IsWithinRates g) g.ports
  pub costs : All IsWithinLimits g.ports

pub limited : (parts : Parts) → IsAccepted parts → IsLimited (graph_tree parts.graph)
limited parts accepted = record { well = accepted.well_formed; rates = accepted.fitting.limits; costs = accepted.costs }

-- the out that a wire is of
pub record IsOfOut (g : GraphTree) (w : Wire) : Type 0 where
  pub port : PortTree
  pub there : numbered g.ports w.port ≡ Some port
  pub head : OutHead
  pub out : numbered port.outs w.out ≡ Some head
  pub inside : (1 ≤ w.out) × (w.out ≤ length port.outs)
  pub timed : IsTimedAs g w.port port w.out w
  pub sends : w.sends ≡ greatest_sends port w.out

get_right : {X : Type 0} (xs ys : List X) (i : ℕ) → slice_get (xs ++ ys) (length xs + i) ≡ slice_get ys i
get_right [] ys i = let e : 0 + i ≡ i = omega arith in ap (slice_get ys) e
get_right (x ∷ xs) ys i = let e : suc (length xs) + i ≡ suc (length xs + i) = omega arith in ap (slice_get (x ∷ (xs ++ ys))) e ∙ get_right xs ys i

get_left : {X : Type 0} (xs ys : List X) (i : ℕ) (x : X) → slice_get xs i ≡ Some x → slice_get (xs ++ ys) i ≡ Some x
get_left [] ys i x h = absurd (none-some x h)
get_left (y ∷ xs) ys zero x h = h
get_left (y ∷ xs) ys (suc i) x h = get_left xs ys i x h

-- each out of each port has a wire
outs_have : (g : GraphTree) (port : ℕ) (p : PortTree) (n : ℕ) (outs : List OutHead) (k : ℕ) (head : OutHead) → slice_get outs k ≡ Some head → slice_get (wires_of_outs g port p n outs) k ≡ Some (wire_of g port p (n + k) head)
outs_have g port p n [] k head h = absurd (none-some head h)
outs_have g port p n (first ∷ outs) zero head h =
    let e : n ≡ n + 0 = omega arith in
    ap (λ (x : OutHead). Some (wire_of g port p n x)) (same_Some first head h) ∙ ap (λ (m : ℕ). Some (wire_of g port p m head)) e
outs_have g port p n (first ∷ outs) (suc k) head h =
    let e : n + 1 + k ≡ n + suc k = omega arith in
    outs_have g port p (n + 1) outs k head h ∙ ap (λ (m : ℕ). Some (wire_of g port p m head)) e

ports_have : (g : GraphTree) (n : ℕ) (ports : List PortTree) (k : ℕ) (p : PortTree) (j : ℕ) (head : OutHead) → slice_get ports k ≡ Some p → slice_get p.outs j ≡ Some head →
    (i : ℕ) × (slice_get (wires_of_ports g n ports) i ≡ Some (wire_of g (n + k) p (1 + j) head))
ports_have g n [] k p j head h at = absurd (none-some p h)
ports_have g n (q ∷ ports) zero p j head h at =
    let own = wires_of_outs g n q 1 q.outs in
    let e : n ≡ n + 0 = omega arith in
    let same : q ≡ p = same_Some q p h in
    let here = outs_have g n q 1 q.outs j head (subst (λ (x : PortTree). slice_get x.outs j ≡ Some head) (sym same) at) in (
      j,
      get_left own (wires_of_ports g (n + 1) ports) j (wire_of g n q (1 + j) head) here
          ∙ ap (λ (x : PortTree). Some (wire_of g n x (1 + j) head)) same ∙ ap (λ (m : ℕ). Some (wire_of g m p (1 + j) head)) e,
    )
ports_have g n (q ∷ ports) (suc k) p j head h at =
    let own = wires_of_outs g n q 1 q.outs in
    let later = ports_have g (n + 1) ports k p j head h at in
    let e : n + 1 + k ≡ n + suc k = omega arith in
    (length own + later.0, get_right own (wires_of_ports g (n + 1) ports) later.0 ∙ later.1 ∙ ap (λ (m : ℕ). Some (wire_of g m p (1 + j) head)) e)

-- what passes the test is among the numbers
any_passes : {X : Type 0} (test : X → Bool) (n : ℕ) (xs : List X) (k : ℕ) (x : X) → slice_get xs k ≡ Some x → test x ≡ true → (m : ℕ) → m ≡ n + k → list_any (λ i. eqb i m) (numbers_where test n xs) ≡ true
any_passes test n [] k x h passes m e = absurd (none-some x h)
any_passes {X} test n (y ∷ xs) zero x h passes m e =
    let here : cond (test y) (n ∷ []) [] ≡ n ∷ [] = cond-true (test y) (n ∷ []) [] (ap test (same_Some y x h) ∙ passes) in
    let rest = numbers_where test (n + 1) xs in
    ap (λ (ns : List ℕ). list_any (λ i. eqb i m) (ns ++ rest)) here
    ∙ or_left (eqb n m) (list_any (λ i. eqb i m) rest) (eq-eqb n m (omega arith))
any_passes {X} test n (y ∷ xs) (suc k) x h passes m e =
    let here = cond (test y) (n ∷ []) [] in
    let rest = numbers_where test (n + 1) xs in
    list_any-append (λ i. eqb i m) here rest
    ∙ or_right (list_any (λ i. eqb i m) here) (list_any (λ i. eqb i m) rest) (any_passes test (n + 1) xs k x h passes m (omega arith))

-- the first that passes stands no later than another
first_before : {X : Type 0} (test : X → Bool) (xs : List X) (d : X) (k : ℕ) → test (get_or xs k d) ≡ true → position_or_len test xs ≤ k
first_before test xs d k passes =
    ⊎_elim
    (λ (lt : k < position_or_len test xs).
    absurd (both_ways (test (get_or xs k d)) (not-true (test (get_or xs k d)) (prefix_len_passes (λ x. not (test x)) xs k d lt)) passes))
    (λ (ge : position_or_len test xs ≤ k). ge)
    (cases_lt k (position_or_len test xs))

-- the wire at a place that is fed from this out
pub record IsFedBy (g : GraphTree) (t : Arrived) (port out : ℕ) : Type 0 where
  pub lies : wire_to (wires_of g) t < length (wires_of g)
  pub port_is : (wire_at (wires_of g) (wire_to (wires_of g) t)).port ≡ port
  pub out_is : (wire_at (wires_of g) (wire_to (wires_of g) t)).out ≡ out

module _ (g : GraphTree) (limits : IsLimited g) where
  -- each wire is that of an out
  pub of_out : (k : ℕ) → k < length (wires_of g) → IsOfOut g (wire_at (wires_of g) k)
  of_out k lt =
      let w = wire_at (wires_of g) k in
      let r = wire_from g limits.well limits.rates limits.costs k lt in
      let place : w.port ≡ suc r.place = let e : w.port ≡ 1 + r.place = ap (λ (x : Wire). x.port) r.is in omega arith in
      let out : w.out ≡ suc r.at = ap (λ (x : Wire). x.out) r.is in
      let within = slice_get_within r.port.outs r.at r.head r.out in
      record {
        port = r.port;
        there = ap (numbered g.ports) place ∙ r.there;
        head = r.head;
        out = ap (numbered r.port.outs) out ∙ r.out;
        inside = (omega arith, omega arith);
        timed = record {
          port = refl;
          every = ap (λ (x : Wire). x.every) r.is ∙ sym (ap (every_of r.port) out ∙ ap (λ (o : Option OutHead). unwrap_or (option_map (λ o. o.every) o) 1) r.out);
          period = ap (λ (x : Wire). x.period) r.is;
          gap = ap (λ (x : Wire). x.gap) r.is ∙ sym (ap (gap_of g r.port) out);
        };
        sends = ap (λ (x : Wire). x.sends) r.is ∙ sym (ap (greatest_sends r.port) out);
      }

  -- where a wire that is there feeds a target, one does
  fed_at : (t : Arrived) (i : ℕ) (w : Wire) → slice_get (wires_of g) i ≡ Some w → feeds w t ≡ true → wire_to (wires_of g) t < length (wires_of g)
  fed_at t i w at fed =
      let lt = slice_get_within (wires_of g) i w at in
      let le = first_before (λ x. feeds x t) (wires_of g) no_wire i (ap (λ (x : Wire). feeds x t) (get_or_from_slice_get (wires_of g) i w no_wire at) ∙ fed) in
      omega arith

  -- an out that is there has a wire
  made : (port out : ℕ) (P : OutHead → Type 0) → IsOutAnd g port out P → (i : ℕ) × (p : PortTree) × (head : OutHead) × (slice_get (wires_of g) i ≡ Some (wire_of g port p out head))
  made port out P h =
      let p = of_some (λ (p : PortTree). IsSomeAnd (slice_get p.outs h.1) P) (slice_get g.ports h.0) h.4 in
      let o = of_some P (slice_get p.0.outs h.1) p.2 in
      let w = ports_have g 1 g.ports h.0 p.0 h.1 o.0 p.1 o.1 in
      let a : 1 + h.0 ≡ port = omega (arith, h.2) in
      let b : 1 + h.1 ≡ out = omega (arith, h.3) in
      (w.0, p.0, o.0, w.1 ∙ ap₂ (λ (x y : ℕ). Some (wire_of g x p.0 y o.0)) a b)

  port_fed : (k : ℕ) (p : PortTree) (port out : ℕ) → slice_get g.ports k ≡ Some p → p.feed ≡ Out port out → IsFedBy g (target.TheVariants.Port (suc k)) port out
  port_fed k p port out at from =
      let t = target.TheVariants.Port (suc k) in
      let m = made port out (λ o. o.width ≡ p.params) (subst (IsFeedOfWidth g p.params) from (fine_port g k p limits.well at).2) in
      let passes : is_fed port out p.feed ≡ true = ap (is_fed port out) from ∙ and_from (eqb port port) (eqb out out) (eq-eqb port port refl) (eq-eqb out out refl) in
      let lt = fed_at t m.0 (wire_of g port m.1 out m.2) m.3 (any_passes (λ (q : PortTree). is_fed port out q.feed) 1 g.ports k p at passes (suc k) (omega arith)) in
      let s = port_source g limits.well limits.rates limits.costs (wire_to (wires_of g) t) (suc k) lt (source_is (wires_of g) t lt) in
      let place : s.0 ≡ k = omega (arith, s.2) in
      let same : s.1 ≡ p = same_Some s.1 p (sym s.3 ∙ ap (slice_get g.ports) place ∙ at) in
      let outs : Out (wire_at (wires_of g) (wire_to (wires_of g) t)).port (wire_at (wires_of g) (wire_to (wires_of g) t)).out ≡ Out port out = sym s.4 ∙ ap (λ (q : PortTree). q.feed) same ∙ from in
      record { lies = lt; port_is = cc; out_is = cc }

  output_fed : (k : ℕ) (o : declared.Output.Output) → slice_get g.outputs k ≡ Some o → IsFedBy g (target.TheVariants.Output (suc k)) o.port o.out
  output_fed k o at =
      let t = target.TheVariants.Output (suc k) in
      let m = made o.port o.out (λ _. Unit {0}) (all_at (IsFineOutput g) g.outputs k o at limits.well.each_output).1 in
      let passes : shows o.port o.out o ≡ true = and_from (eqb o.port o.port) (eqb o.out o.out) (eq-eqb o.port o.port refl) (eq-eqb o.out o.out refl) in
      let lt = fed_at t m.0 (wire_of g o.port m.1 o.out m.2) m.3 (any_passes (shows o.port o.out) 1 g.outputs k o at passes (suc k) (omega arith)) in
      let s = output_source g limits.well limits.rates limits.costs (wire_to (wires_of g) t) (suc k) lt (source_is (wires_of g) t lt) in
      let place : s.0 ≡ k = omega (arith, s.2) in
      let same : s.1 ≡ o = same_Some s.1 o (sym s.3 ∙ ap (slice_get g.outputs) place ∙ at) in
      record { lies = lt; port_is = sym s.4 ∙ ap (λ (x : declared.Output.Output). x.port) same; out_is = sym s.5 ∙ ap (λ (x : declared.Output.Output). x.out) same }
    where
      all_at : {X : Type 0} (P : X → Type 0) (xs : List X) (k : ℕ) (x : X) → slice_get xs k ≡ Some x → All P xs → P x
      all_at P xs k x there all = subst P (get_or_from_slice_get xs k x x there) (All-get_or P xs k x (slice_get_within xs k x there) all)

  -- a target that an out feeds is at the end of the out's wire
  pub fed : (t : Arrived) (port out : ℕ) → feed_of g t ≡ Out port out → IsFedBy g t port out
  fed (target.TheVariants.Port zero) port out from = cc
  fed (target.TheVariants.Port (suc k)) port out from = by (slice_get g.ports k) refl
    where
      by : (o : Option PortTree) → slice_get g.ports k ≡ o → IsFedBy g (target.TheVariants.Port (suc k)) port out
      by None e = let none : Input 0 ≡ Out port out = sym (ap (λ (o : Option PortTree). (unwrap_or o no_port).feed) e) ∙ from in cc
      by (Some p) e = port_fed k p port out e (sym (ap (λ (o : Option PortTree). (unwrap_or o no_port).feed) e) ∙ from)
  fed (target.TheVariants.Output zero) port out from = cc
  fed (target.TheVariants.Output (suc k)) port out from = by (slice_get g.outputs k) refl
    where
      by : (o : Option declared.Output.Output) → slice_get g.outputs k ≡ o → IsFedBy g (target.TheVariants.Output (suc k)) port out
      by None e = let none : Input 0 ≡ Out port out = sym (ap output_feed e) ∙ from in cc
      by (Some o) e =
          let same : Out o.port o.out ≡ Out port out = sym (ap output_feed e) ∙ from in
          let f = output_fed k o e in
          let port_same : o.port ≡ port = cc in
          let out_same : o.out ≡ out = cc in
          record { lies = f.lies; port_is = f.port_is ∙ port_same; out_is = f.out_is ∙ out_same }

  -- the feed of a target at the end of a wire
  pub feed_is : (t : Arrived) → wire_to (wires_of g) t < length (wires_of g) → feed_of g t ≡ Out (wire_at (wires_of g) (wire_to (wires_of g) t)).port (wire_at (wires_of g) (wire_to (wires_of g) t)).out
  feed_is (target.TheVariants.Port m) lt =
      let t = target.TheVariants.Port m in
      let s = port_source g limits.well limits.rates limits.costs (wire_to (wires_of g) t) m lt (source_is (wires_of g) t lt) in
      ap (λ (p : PortTree). p.feed) (ap (port_at g) s.2 ∙ port_is g (suc s.0) s.1 s.3) ∙ s.4
  feed_is (target.TheVariants.Output m) lt =
      let t = target.TheVariants.Output m in
      let s = output_source g limits.well limits.rates limits.costs (wire_to (wires_of g) t) m lt (source_is (wires_of g) t lt) in
      ap output_feed (ap (numbered g.outputs) s.2 ∙ s.3) ∙ ap₂ (λ (a b : ℕ). Out a b) s.4 s.5

  -- a target that an input feeds, or that isn't there, has no wire
  pub unfed : (t : Arrived) (input : ℕ) → feed_of g t ≡ Input input → wire_at (wires_of g) (wire_to (wires_of g) t) ≡ no_wire
  unfed t input from =
      ⊎_elim
      (λ (lt : wire_to (wires_of g) t < length (wires_of g)).
      let other = sym from ∙ feed_is t lt in
      cc)
      (λ (ge : length (wires_of g) ≤ wire_to (wires_of g) t). get_or_past (wires_of g) (wire_to (wires_of g) t) no_wire ge)
      (cases_lt (wire_to (wires_of g) t) (length (wires_of g)))

  -- the wire of a wire's out is the wire itself
  pub own_place : (k : ℕ) → k < length (wires_of g) → wire_of_out (wires_of g) (wire_at (wires_of g) k).port (wire_at (wires_of g) k).out ≡ k
  own_place k lt = own_line (widths_of g) (wires_of g) (are_wires g limits.well limits.rates limits.costs) k lt
