-- Ports without a fault are within their rates, where those nearer to the input are.
use Rattle.std.proofs.Common.{◌≡◌, ℕ, zero, suc, ◌+◌, ◌-◌, ◌<◌, ◌≤◌, length, Option, None, Some, refl, sym, ap, ◌∙◌, subst, arith}
use Rattle.std.specs.Prelude.{slice_get, IsSomeAnd}
use Rattle.std.specs.Option.{option_map, unwrap_or}
use Rattle.std.proofs.lemmas.List.Elements.{All-get_or}
use Rattle.std.proofs.lemmas.Option.{slice_get_within, get_or_from_slice_get}
use Rattle.yt_list.specs.Numbered.{numbered}
use Rattle.yt_graph.specs.declared.graph.Input.{Input}
use Rattle.yt_graph.specs.declared.port.Feed as feed
use Rattle.yt_graph.specs.declared.port.Feed.{Feed}
use Rattle.yt_graph.specs.declared.port.Feed.TheVariants.{Out}
use Rattle.yt_graph.specs.Picture.{PortTree, GraphTree}
use Rattle.yt_graph.specs.WellFormed.{IsFineInput, IsFinePort, IsFeedOfWidth, EndsWithin, IsWellFormed}
use Rattle.yt_rates.specs.Rates.{stream_within, distance_within, stream_of, distance_of, period_of, start_of}
use Rattle.yt_rates.specs.Faults.{IsWithinRates, port_fault}
use Rattle.yt_rates.proofs.Lemmas.{source}
use Rattle.yt_rate_laws.proofs.Outs.{port_decided}

fine_port : (g : GraphTree) (k : ℕ) (p : PortTree) → IsWellFormed g → slice_get g.ports k ≡ Some p → IsFinePort g p
fine_port g k p well there =
    subst (IsFinePort g) (get_or_from_slice_get g.ports k p p there) (All-get_or (IsFinePort g) g.ports k p (slice_get_within g.ports k p there) well.each_port)

of_some : {X : Type 0} (P : X → Type 0) (o : Option X) → IsSomeAnd o P → (x : X) × (o ≡ Some x) × P x
of_some P None h = absurd h
of_some P (Some x) h = (x, refl, h)

distance_bound : (g : GraphTree) (n : ℕ) (f : Feed) → EndsWithin g n f → distance_within g n f ≤ n
distance_bound g n (feed.TheVariants.Input i) h = omega arith
distance_bound g zero (feed.TheVariants.Out port out) h = absurd h
distance_bound g (suc n) (feed.TheVariants.Out port out) h =
    let there = of_some (λ (p : PortTree). EndsWithin g n p.feed) (slice_get g.ports h.0) h.2 in
    let is = ap (numbered g.ports) h.1 ∙ there.1 in
    let e = ap (λ o. unwrap_or (option_map (λ p. distance_within g n p.feed + 1) o) 0) is in
    omega (arith, e, distance_bound g n there.0.feed there.2)

-- no port stands farther from the input than there are ports
pub near : (g : GraphTree) (k : ℕ) (p : PortTree) → IsWellFormed g → slice_get g.ports k ≡ Some p → distance_of g p ≤ length g.ports
near g k p well there = distance_bound g (length g.ports) p.feed (fine_port g k p well there).3

module _ (g : GraphTree) (well : IsWellFormed g) where
  -- the ports nearer than this are within their rates
  abbrev pub AreNearer : ℕ → Type 0
  AreNearer d = (k : ℕ) (q : PortTree) → slice_get g.ports k ≡ Some q → distance_of g q < d → IsWithinRates g q

  coming : (k : ℕ) (p : PortTree) → slice_get g.ports k ≡ Some p → AreNearer (distance_of g p) → (f : Feed) → p.feed ≡ f → (1 ≤ period_of g p) × (start_of g p ≤ 4000000)
  coming k p there nearer (feed.TheVariants.Input input) fed =
      let width = subst (IsFeedOfWidth g p.params) fed (fine_port g k p well there).2 in
      let at = of_some (λ (i : Input). i.width ≡ p.params) (slice_get g.inputs width.0) width.2 in
      let is : numbered g.inputs input ≡ Some at.0 = ap (numbered g.inputs) width.1 ∙ at.1 in
      let fine = subst IsFineInput (get_or_from_slice_get g.inputs width.0 at.0 at.0 at.1) (All-get_or IsFineInput g.inputs width.0 at.0 (slice_get_within g.inputs width.0 at.0 at.1) well.each_input) in
      let stream : stream_of g p ≡ record { period = unwrap_or (option_map (λ i. i.period) (numbered g.inputs input)) 0; start = 0 } = ap (stream_within g (length g.ports)) fed in
      let period : period_of g p ≡ at.0.period = ap (λ s. s.period) stream ∙ ap (λ o. unwrap_or (option_map (λ (i : Input). i.period) o) 0) is in
      let start : start_of g p ≡ 0 = ap (λ s. s.start) stream in
      (subst (λ n. 1 ≤ n) (sym period) fine.2.0, omega (arith, start))
  coming k p there nearer (feed.TheVariants.Out port out) fed =
      let src = source g k p port out well there fed in
      let is = src.1 in
      let far : distance_of g src.0 < distance_of g p = omega (arith, is.distance) in
      let q = nearer (port - 1) src.0 is.there far in
      (subst (λ s. 1 ≤ s.period) (sym is.stream) (q.outs.gap out is.some_out is.last_out), subst (λ s. s.start ≤ 4000000) (sym is.stream) (q.outs.reach out is.some_out is.last_out))

  -- a port without a fault is within its rates, where those nearer are
  pub within_one : (k : ℕ) (p : PortTree) → slice_get g.ports k ≡ Some p → AreNearer (distance_of g p) → port_fault g (k + 1) p ≡ None → IsWithinRates g p
  within_one k p there nearer e =
      let come = coming k p there nearer p.feed refl in
      let h = (port_decided g (k + 1) p).none e in
      record { some_period = come.0; period = h.0; start = come.1; outs = h.1 }

  -- all ports nearer than this are within their rates, where none of them has a fault
  pub nearer_within : (d : ℕ) → ((k : ℕ) (q : PortTree) → slice_get g.ports k ≡ Some q → distance_of g q < d → port_fault g (k + 1) q ≡ None) → AreNearer d
  nearer_within zero h k q there lt = absurd (omega arith)
  nearer_within (suc d) h k q there lt =
      let below = nearer_within d (λ i p at less. h i p at (omega arith)) in
      within_one k q there (λ i p at less. below i p at (omega arith)) (h k q there lt)
