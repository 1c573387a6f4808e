-- What is known of the ports that are rated.
use Rattle.std.proofs.Common.{◌≡◌, ℕ, zero, suc, ◌+◌, ◌-◌, ◌<◌, ◌≤◌, ◌⊎◌, inl, inr, Bool, true, false, ◌==◌, List, length, drop, map, set, get_or, Option, None, Some, refl, sym, ap, ◌∙◌, subst, arith}
use Rattle.std.specs.Prelude.{nat_lt, if◌then◌else◌, slice_get}
use Rattle.std.specs.Option.{option_map, option_or, unwrap_or}
use Rattle.std.specs.List.{All}
use Rattle.std.proofs.Math.Seq.{drop-length}
use Rattle.std.proofs.lemmas.Bool.Decides.{nat_tests}
use Rattle.std.proofs.lemmas.List.{length-set}
use Rattle.std.proofs.lemmas.List.Elements.{All-get_or}
use Rattle.std.proofs.lemmas.Option.{same_Some, slice_get-map, slice_get_read, slice_get_within, get_or_from_slice_get}
use Rattle.yt_list.specs.Numbered.{numbered}
use Rattle.yt_list.proofs.Lemmas.{numbered_next, numbered_place, numbered_there}
use Rattle.yt_graph.specs.declared.graph.Input.{Input}
use Rattle.yt_graph.specs.declared.port.Feed as feed
use Rattle.yt_graph.specs.declared.port.Feed.{Feed}
use Rattle.yt_graph.specs.declared.port.Feed.TheVariants.{Out}
use Rattle.yt_graph.specs.Picture.{PortTree, GraphTree}
use Rattle.yt_graph.specs.WellFormed.{IsFineInput, IsFeedOfWidth, IsWellFormed}
use Rattle.yt_cost.proofs.Lemmas.{fine_port, drop_at}
use Rattle.yt_rates.specs.declared.stream.Stream.{Stream}
use Rattle.yt_rates.specs.declared.fault.RateFault.{RateFault}
use Rattle.yt_rates.specs.declared.fault.RateFault.TheVariants.{Over, Zero, Span, Memory}
use Rattle.yt_rates.specs.Rates.{passed_on, stream_within, stream_of, distance_of, period_of, start_of}
use Rattle.yt_rates.specs.Faults.{ArePassedWithin, IsWithinRates, IsFaultOf, outs_fault, stream_fault, port_fault, fault_at, fault_from}
use Rattle.yt_rates.specs.Tables.{PortRates, ArePassedOn, AreRatesOf, IsKeptWithin}
use Rattle.yt_rates.specs.Inside.Rating.{AreRated, IsKnown, IsRated}
use Rattle.yt_rates.proofs.Chains.{of_some, source, near}
use Rattle.yt_rates.proofs.Lists.{item_at, all_at, written_here, written_there}

-- a number below the next one is below this one, or is it
below_or_here : (n m : ℕ) → n < m + 1 → (n < m) ⊎ (n ≡ m)
below_or_here n m lt = by (nat_lt n m) refl
  where
    by : (b : Bool) → nat_lt n m ≡ b → (n < m) ⊎ (n ≡ m)
    by true e = inl (grind (arith, nat_tests))
    by false e = inr (grind (arith, nat_tests))

unequal : (n m : ℕ) → (n ≡ m → ⊥) → (n == m) ≡ false
unequal n m apart = by (n == m) refl
  where
    by : (b : Bool) → (n == m) ≡ b → b ≡ false
    by true e = absurd (apart (grind (arith, nat_tests)))
    by false e = refl

equal : (n m : ℕ) → n ≡ m → (n == m) ≡ true
equal n m e = grind (arith, nat_tests)

-- what the port that an out is of passes on
pub known_out : (g : GraphTree) (table : List PortRates) (f : Feed) (s : Stream) (port out : ℕ) (kept : PortRates) (outs : List Stream) → f ≡ Out port out → IsKnown g table f s → kept ≡ get_or table (port - 1) kept → outs ≡ kept.outs → slice_get outs (out - 1) ≡ Some s
known_out g table f s port out kept outs fed known is same =
    let h = subst (λ f. IsKnown g table f s) fed known in
    let there = numbered_place table port h.0 ∙ slice_get_read table (length table) (port - 1) kept refl (omega (arith, h.0, h.1)) is in
    ap (λ l. slice_get l (out - 1)) same ∙ sym (numbered_place kept.outs out h.2) ∙ h.3 kept there

-- the messages that come to a port, where the ports nearer to the input are rated: the table knows them, and they are within their limits
pub record IsComing (g : GraphTree) (p : PortTree) (table : List PortRates) : Type 0 where
  pub known : IsKnown g table p.feed (stream_of g p)
  pub period : 1 ≤ period_of g p
  pub start : start_of g p ≤ 4000000

module _ (g : GraphTree) (k : ℕ) (p : PortTree) (table : List PortRates) (well : IsWellFormed g) (there : slice_get g.ports k ≡ Some p) (rated : AreRated g (distance_of g p) 0 table) where
  from : (f : Feed) → p.feed ≡ f → IsComing g p table
  from (feed.TheVariants.Input input) fed =
      let width = subst (IsFeedOfWidth g p.params) fed (fine_port g k p well there).2 in
      let place : input - 1 ≡ width.0 = omega (arith, width.1) in
      let input_at = of_some (λ i. i.width ≡ p.params) (slice_get g.inputs width.0) width.2 in
      let lt : input - 1 < length g.inputs = omega (arith, place, slice_get_within g.inputs width.0 input_at.0 input_at.1) in
      let at = item_at g.inputs (input - 1) lt in
      let stream : stream_of g p ≡ record { period = unwrap_or (option_map (λ i. i.period) (numbered g.inputs input)) 0; start = 0 } = ap (stream_within g (length g.ports)) fed in
      let period : (i : Input) → numbered g.inputs input ≡ Some i → i.period ≡ period_of g p = λ i is. sym (ap (λ s. s.period) stream ∙ ap (λ o. unwrap_or (option_map (λ i. i.period) o) 0) is) in
      let fine = subst IsFineInput (get_or_from_slice_get g.inputs (input - 1) at.0 at.0 at.1) (All-get_or IsFineInput g.inputs (input - 1) at.0 lt well.each_input) in
      record {
        known = subst (λ f. IsKnown g table f (stream_of g p)) (sym fed) (omega (arith, width.1), omega (arith, lt, width.1), λ i is. (period i is, ap (λ s. s.start) stream));
        period = subst (λ n. 1 ≤ n) (period at.0 (numbered_place g.inputs input (omega (arith, width.1)) ∙ at.1)) fine.2.0;
        start = omega (arith, ap (λ s. s.start) stream);
      }
  from (feed.TheVariants.Out port out) fed =
      let src = source g k p port out well there fed in
      let q = src.0 in
      let is = src.1 in
      let near : distance_of g q < distance_of g p = omega (arith, is.distance) in
      let lt : port - 1 < length table = omega (arith, rated.count, is.some_port, is.last_port) in
      let at = item_at table (port - 1) lt in
      let kept = rated.nearer (port - 1) q is.there near at.0 at.1 in
      let passes : (r : PortRates) → numbered table port ≡ Some r → numbered r.outs out ≡ Some (stream_of g p) =
      λ r r_is. (rated.nearer (port - 1) q is.there near r (numbered_there table port r r_is).1).rates.outs.each out is.some_out is.last_out ∙ ap Some (sym is.stream) in
      record {
        known = subst (λ f. IsKnown g table f (stream_of g p)) (sym fed) (is.some_port, omega (arith, lt, is.some_port), is.some_out, passes);
        period = subst (λ s. 1 ≤ s.period) (sym is.stream) (kept.limits.outs.gap out is.some_out is.last_out);
        start = subst (λ s. s.start ≤ 4000000) (sym is.stream) (kept.limits.outs.reach out is.some_out is.last_out);
      }

  pub coming : IsComing g p table
  coming = from p.feed refl

-- a port whose messages and outs are within their limits is rated
pub rated_port : (g : GraphTree) (p : PortTree) (table : List PortRates) (s : Stream) (outs : List Stream) → IsComing g p table → s ≡ stream_of g p → s.period ≤ 1000000 → ArePassedOn p s outs → ArePassedWithin p s (length p.outs) → IsRated g p (record { stream = s; outs = outs })
rated_port g p table s outs comes is le passed within = record {
  rates = record { stream = is; outs = subst (λ s. ArePassedOn p s outs) is passed };
  limits = record {
    some_period = comes.period;
    period = subst (λ s. s.period ≤ 1000000) is le;
    start = comes.start;
    outs = subst (λ s. ArePassedWithin p s (length p.outs)) is within;
  };
}

-- what is kept of a rated port is within the limits
pub kept_within : (g : GraphTree) (p : PortTree) (kept : PortRates) → IsRated g p kept → IsKeptWithin kept
kept_within g p kept is = record {
  some_period = subst (λ s. 1 ≤ s.period) (sym is.rates.stream) is.limits.some_period;
  period = subst (λ s. s.period ≤ 1000000) (sym is.rates.stream) is.limits.period;
  start = subst (λ s. s.start ≤ 4000000) (sym is.rates.stream) is.limits.start;
  gaps = all_at (λ s. 1 ≤ s.period) kept.outs (λ k s at. let o = passed k s at in subst (λ s. 1 ≤ s.period) (sym o.1) (is.limits.outs.gap (k + 1) (omega arith) o.0));
  reaches = all_at (λ s. s.start ≤ 4000000) kept.outs (λ k s at. let o = passed k s at in subst (λ s. s.start ≤ 4000000) (sym o.1) (is.limits.outs.reach (k + 1) (omega arith) o.0));
}
  where
    passed : (k : ℕ) (s : Stream) → slice_get kept.outs k ≡ Some s → (k + 1 ≤ length p.outs) × (s ≡ passed_on p (stream_of g p) (k + 1))
    passed k s at =
        let last : k + 1 ≤ length p.outs = omega (arith, is.rates.outs.count, slice_get_within kept.outs k s at) in
        (last, same_Some s (passed_on p (stream_of g p) (k + 1)) (sym at ∙ (sym (numbered_next kept.outs k) ∙ is.rates.outs.each (k + 1) (omega arith) last)))

-- the fault of a port whose period is within its limit is that of its outs
pub outs_decide : (g : GraphTree) (number : ℕ) (p : PortTree) (s : Stream) (o : Option RateFault) → s ≡ stream_of g p → s.period ≤ 1000000 → outs_fault number p s 1 p.outs ≡ o → port_fault g number p ≡ o
outs_decide g number p s o is le e =
    let test : nat_lt 1000000 s.period ≡ false = grind (arith, nat_tests) in
    sym (ap (stream_fault number p) is) ∙ ap (λ b. if b then Some (Over number s.period) else outs_fault number p s 1 p.outs) test ∙ e

pub too_long : (g : GraphTree) (number : ℕ) (p : PortTree) (s : Stream) → s ≡ stream_of g p → 1000000 < s.period → port_fault g number p ≡ Some (Over number s.period)
too_long g number p s is more =
    let test : nat_lt 1000000 s.period ≡ true = grind (arith, nat_tests) in
    sym (ap (stream_fault number p) is) ∙ ap (λ b. if b then Some (Over number s.period) else outs_fault number p s 1 p.outs) test

-- the kept distance of a port
pub distance_is : (g : GraphTree) (distances : List ℕ) (i d : ℕ) (p : PortTree) → distances ≡ map (distance_of g) g.ports → slice_get g.ports i ≡ Some p → get_or distances i d ≡ distance_of g p
distance_is g distances i d p all there =
    ap (λ l. get_or l i d) all ∙ get_or_from_slice_get (map (distance_of g) g.ports) i (distance_of g p) d (slice_get-map (distance_of g) g.ports i ∙ ap (option_map (distance_of g)) there)

module _ (g : GraphTree) (distance : ℕ) where
  -- what is decided at a port of this distance or another
  at_port : (ps : List PortTree) (i : ℕ) (p : PortTree) → slice_get ps i ≡ Some p → fault_at g distance (i + 1) (drop i ps) ≡ option_or (if distance_of g p == distance then port_fault g (i + 1) p else None) (fault_at g distance (i + 1 + 1) (drop (i + 1) ps))
  at_port ps i p there = ap (fault_at g distance (i + 1)) (drop_at ps i p there)

  pub at_other : (ps : List PortTree) (i : ℕ) (p : PortTree) → slice_get ps i ≡ Some p → (distance_of g p ≡ distance → ⊥) → fault_at g distance (i + 1 + 1) (drop (i + 1) ps) ≡ fault_at g distance (i + 1) (drop i ps)
  at_other ps i p there apart =
      let test : (distance_of g p == distance) ≡ false = unequal (distance_of g p) distance apart in
      sym (at_port ps i p there ∙ ap (λ b. option_or (if b then port_fault g (i + 1) p else None) (fault_at g distance (i + 1 + 1) (drop (i + 1) ps))) test)

  at_one : (ps : List PortTree) (i : ℕ) (p : PortTree) (o : Option RateFault) → slice_get ps i ≡ Some p → distance_of g p ≡ distance → port_fault g (i + 1) p ≡ o → fault_at g distance (i + 1) (drop i ps) ≡ option_or o (fault_at g distance (i + 1 + 1) (drop (i + 1) ps))
  at_one ps i p o there here is =
      let test : (distance_of g p == distance) ≡ true = equal (distance_of g p) distance here in
      at_port ps i p there
      ∙ ap (λ b. option_or (if b then port_fault g (i + 1) p else None) (fault_at g distance (i + 1 + 1) (drop (i + 1) ps))) test
      ∙ ap (λ o. option_or o (fault_at g distance (i + 1 + 1) (drop (i + 1) ps))) is

  pub at_fine : (ps : List PortTree) (i : ℕ) (p : PortTree) → slice_get ps i ≡ Some p → distance_of g p ≡ distance → port_fault g (i + 1) p ≡ None → fault_at g distance (i + 1 + 1) (drop (i + 1) ps) ≡ fault_at g distance (i + 1) (drop i ps)
  at_fine ps i p there here is = sym (at_one ps i p None there here is)

  pub at_fault : (ps : List PortTree) (i : ℕ) (p : PortTree) (fault : RateFault) → slice_get ps i ≡ Some p → distance_of g p ≡ distance → port_fault g (i + 1) p ≡ Some fault → fault_at g distance (i + 1) (drop i ps) ≡ Some fault
  at_fault ps i p fault there here is = at_one ps i p (Some fault) there here is

  pub none_at_end : (ps : List PortTree) (number i : ℕ) → i ≡ length ps → fault_at g distance number (drop i ps) ≡ None
  none_at_end ps number i end = ap (fault_at g distance number) (ap (λ n. drop n ps) end ∙ drop-length ps)

  -- the ports nearer to the input are rated whatever the place
  pub lower : (place : ℕ) (table : List PortRates) → AreRated g distance place table → AreRated g distance 0 table
  lower place table h = record { count = h.count; nearer = h.nearer; before = λ k p at e lt. absurd (omega (arith, lt)) }

  -- one more port of another distance
  pub step_other : (place : ℕ) (p : PortTree) (table : List PortRates) → AreRated g distance place table → slice_get g.ports place ≡ Some p → (distance_of g p ≡ distance → ⊥) → AreRated g distance (place + 1) table
  step_other place p table h there apart = record {
    count = h.count;
    nearer = h.nearer;
    before = λ k q at e lt.
        elim (below_or_here k place lt) [
          | inl less ↦ h.before k q at e less
          | inr here ↦
              let same : q ≡ p = same_Some q p (sym at ∙ (ap (slice_get g.ports) here ∙ there)) in
              absurd (apart (sym (ap (distance_of g) same) ∙ e))
        ];
  }

  -- one more port of this distance
  pub step_one : (place : ℕ) (p : PortTree) (table : List PortRates) (kept : PortRates) → AreRated g distance place table → slice_get g.ports place ≡ Some p → distance_of g p ≡ distance → IsRated g p kept → AreRated g distance (place + 1) (set table place kept)
  step_one place p table kept h there one rated = record {
    count = length-set table place kept ∙ h.count;
    nearer = λ k q at lt.
        let apart : k ≡ place → ⊥ = λ here.
        let same : q ≡ p = same_Some q p (sym at ∙ (ap (slice_get g.ports) here ∙ there)) in
        absurd (omega (arith, lt, ap (distance_of g) same, one)) in
        λ r is. h.nearer k q at lt r (sym (written_there table place k kept apart) ∙ is);
    before = λ k q at e lt r is.
        elim (below_or_here k place lt) [
          | inl less ↦
              let apart : k ≡ place → ⊥ = λ here. absurd (omega (arith, less, here)) in
              h.before k q at e less r (sym (written_there table place k kept apart) ∙ is)
          | inr here ↦
              let same : p ≡ q = same_Some p q (sym there ∙ (ap (slice_get g.ports) (sym here) ∙ at)) in
              let new : kept ≡ r = written_here table place kept r (ap (slice_get (set table place kept)) (sym here) ∙ is) in
              subst (λ q. IsRated g q r) same (subst (IsRated g p) new rated)
        ];
  }

  -- all ports of this distance are rated
  pub next_distance : (place : ℕ) (table : List PortRates) → place ≡ length g.ports → AreRated g distance place table → AreRated g (distance + 1) 0 table
  next_distance place table end h = record {
    count = h.count;
    nearer = λ k q at lt.
        elim (below_or_here (distance_of g q) distance lt) [
          | inl less ↦ h.nearer k q at less
          | inr here ↦ h.before k q at here (omega (arith, end, slice_get_within g.ports k q at))
        ];
    before = λ k q at e lt. absurd (omega (arith, lt));
  }

module _ (g : GraphTree) where
  -- nothing is rated yet
  pub none_rated : (table : List PortRates) → length table ≡ length g.ports → AreRated g 0 0 table
  none_rated table count = record { count = count; nearer = λ k p at lt. absurd (omega (arith, lt)); before = λ k p at e lt. absurd (omega (arith, lt)) }

  -- one more distance without a fault
  pub one_farther : (distance left count : ℕ) (o : Option RateFault) → distance + left ≡ count → distance < count → fault_at g distance 1 g.ports ≡ None → fault_from g left distance ≡ o → (more : ℕ) × (distance + 1 + more ≡ count) × (fault_from g more (distance + 1) ≡ o)
  one_farther distance zero count o all lt none is = absurd (omega (arith, all, lt))
  one_farther distance (suc more) count o all lt none is =
      (more, omega (arith, all), sym (ap (λ f. option_or f (fault_from g more (distance + 1))) none) ∙ is)

  -- the fault of the nearest distance with one decides
  pub found : (distance left count : ℕ) (o : Option RateFault) (fault : RateFault) → distance + left ≡ count → distance < count → fault_at g distance 1 g.ports ≡ Some fault → fault_from g left distance ≡ o → o ≡ Some fault
  found distance zero count o fault all lt one is = absurd (omega (arith, all, lt))
  found distance (suc more) count o fault all lt one is = sym is ∙ ap (λ f. option_or f (fault_from g more (distance + 1))) one

  pub none_found : (distance left count : ℕ) (o : Option RateFault) → distance + left ≡ count → count ≤ distance → fault_from g left distance ≡ o → o ≡ None
  none_found distance zero count o all le is = sym is
  none_found distance (suc more) count o all le is = absurd (omega (arith, all, le))

  module _ (distance : ℕ) (table : List PortRates) (well : IsWellFormed g) (far : length g.ports < distance) (h : AreRated g distance 0 table) where
    each_rated : (k : ℕ) (p : PortTree) → slice_get g.ports k ≡ Some p → (r : PortRates) → slice_get table k ≡ Some r → IsRated g p r
    each_rated k p at r is = h.nearer k p at (omega (arith, far, near g k p well at)) r is

    pub all_rated : AreRatesOf g table
    all_rated = record { count = h.count; each = λ port p at r is. (each_rated (port - 1) p (numbered_there g.ports port p at).1 r (numbered_there table port r is).1).rates }

    pub all_within : All (IsWithinRates g) g.ports
    all_within = all_at (IsWithinRates g) g.ports (λ k p at.
        let r = item_at table k (omega (arith, h.count, slice_get_within g.ports k p at)) in
        (each_rated k p at r.0 r.1).limits)

    pub all_kept : All IsKeptWithin table
    all_kept = all_at IsKeptWithin table (λ k r is.
        let at = item_at g.ports k (omega (arith, h.count, slice_get_within table k r is)) in
        kept_within g at.0 r (each_rated k at.0 at.1 r is))

-- the fault that decides
pub decides : (o : Option RateFault) (fault : RateFault) → o ≡ Some fault → IsFaultOf o fault
decides o Memory e = tt
decides o (Over port period) e = e
decides o (Zero port out) e = e
decides o (Span port) e = e
