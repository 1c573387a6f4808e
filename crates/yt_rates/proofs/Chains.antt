-- What is known along the chains of sources of a well-formed graph.
use Rattle.std.proofs.Common.{◌≡◌, ℕ, zero, suc, ◌+◌, ◌-◌, ◌≤◌, length, Option, None, Some, refl, sym, ap, ◌∙◌, subst, arith}
use Rattle.std.specs.Prelude.{slice_get, IsSomeAnd}
use Rattle.std.specs.Option.{option_map, unwrap_or}
use Rattle.std.proofs.lemmas.Option.{slice_get_within}
use Rattle.yt_list.specs.Numbered.{numbered}
use Rattle.yt_list.proofs.Lemmas.{numbered_place}
use Rattle.yt_graph.specs.declared.port.Feed as feed
use Rattle.yt_graph.specs.declared.port.Feed.{Feed}
use Rattle.yt_graph.specs.declared.port.Feed.TheVariants.{Input, Out}
use Rattle.yt_graph.specs.Picture.{PortTree, GraphTree}
use Rattle.yt_graph.specs.WellFormed.{IsFeedOfWidth, EndsWithin, IsWellFormed}
use Rattle.yt_cost.proofs.Lemmas.{fine_port}
use Rattle.yt_rates.specs.Rates.{passed_on, stream_within, distance_within, stream_of, distance_of}

-- what is said of an item that is there
pub some_is : {X : Type 0} (P : X → Type 0) (o : Option X) (x : X) → o ≡ Some x → IsSomeAnd o P → P x
some_is P o x e h = subst (λ o. IsSomeAnd o P) e h

-- an item of which something is said
pub of_some : {X : Type 0} (P : X → Type 0) (o : Option X) → IsSomeAnd o P → (x : X) × (o ≡ Some x) × P x
of_some P None h = absurd h
of_some P (Some x) h = (x, refl, h)

module _ (g : GraphTree) where
  -- one step back along a chain that ends: the port that the out is of, and the rest of the chain
  back : (n port out : ℕ) (at : Feed) (q : PortTree) → at ≡ Out port out → EndsWithin g n at → slice_get g.ports (port - 1) ≡ Some q → (m : ℕ) × (n ≡ suc m) × EndsWithin g m q.feed × (distance_within g n at ≡ distance_within g m q.feed + 1)
  back n port out at q is ends there = by n (subst (EndsWithin g n) is ends)
    where
      by : (n : ℕ) → EndsWithin g n (Out port out) → (m : ℕ) × (n ≡ suc m) × EndsWithin g m q.feed × (distance_within g n at ≡ distance_within g m q.feed + 1)
      by zero h = absurd h
      by (suc m) h =
          let place : port - 1 ≡ h.0 = omega (arith, h.1) in
          let number = numbered_place g.ports port (omega (arith, h.1)) ∙ there in (
            m,
            refl,
            some_is (λ p. EndsWithin g m p.feed) (slice_get g.ports h.0) q (sym (ap (slice_get g.ports) place) ∙ there) h.2,
            ap (distance_within g (suc m)) is ∙ ap (λ o. unwrap_or (option_map (λ p. distance_within g m p.feed + 1) o) 0) number,
          )

  -- the port that the out is of is there
  pub source_there : (n port out : ℕ) (at : Feed) → at ≡ Out port out → EndsWithin g n at → (1 ≤ port) × (port ≤ length g.ports)
  source_there n port out at is ends = by n (subst (EndsWithin g n) is ends)
    where
      by : (n : ℕ) → EndsWithin g n (Out port out) → (1 ≤ port) × (port ≤ length g.ports)
      by zero h = absurd h
      by (suc m) h =
          let there = of_some (λ p. EndsWithin g m p.feed) (slice_get g.ports h.0) h.2 in
          let within = slice_get_within g.ports h.0 there.0 there.1 in
          (omega (arith, h.1), omega (arith, h.1, within))

  -- one more step of a walk along a chain, of which so many ports are passed
  pub walked : (passed n port out all : ℕ) (at : Feed) (q : PortTree) → at ≡ Out port out → EndsWithin g n at → slice_get g.ports (port - 1) ≡ Some q → passed + n ≡ all
      → (left : ℕ) × (passed + 1 + left ≡ all) × EndsWithin g left q.feed × (passed + distance_within g n at ≡ passed + 1 + distance_within g left q.feed)
  walked passed n port out all at q is ends there count =
      let h = back n port out at q is ends there in
      (h.0, omega (arith, h.1, count), h.2, omega (arith, h.3))

  -- more steps than a chain has change nothing
  pub stream_more : (n : ℕ) (f : Feed) → EndsWithin g n f → stream_within g (suc n) f ≡ stream_within g n f
  stream_more n (feed.TheVariants.Input i) h = refl
  stream_more zero (feed.TheVariants.Out port out) h = absurd h
  stream_more (suc n) (feed.TheVariants.Out port out) h =
      let P : PortTree → Type 0 = λ p. EndsWithin g n p.feed in
      let there = of_some P (slice_get g.ports h.0) h.2 in
      let is = ap (numbered g.ports) h.1 ∙ there.1 in
      ap (λ o. unwrap_or (option_map (λ p. passed_on p (stream_within g (suc n) p.feed) out) o) (record { period = 0; start = 0 })) is
      ∙ ap (λ s. passed_on there.0 s out) (stream_more n there.0.feed there.2)
      ∙ sym (ap (λ o. unwrap_or (option_map (λ p. passed_on p (stream_within g n p.feed) out) o) (record { period = 0; start = 0 })) is)

  pub distance_more : (n : ℕ) (f : Feed) → EndsWithin g n f → distance_within g (suc n) f ≡ distance_within g n f
  distance_more n (feed.TheVariants.Input i) h = refl
  distance_more zero (feed.TheVariants.Out port out) h = absurd h
  distance_more (suc n) (feed.TheVariants.Out port out) h =
      let P : PortTree → Type 0 = λ p. EndsWithin g n p.feed in
      let there = of_some P (slice_get g.ports h.0) h.2 in
      let is = ap (numbered g.ports) h.1 ∙ there.1 in
      ap (λ o. unwrap_or (option_map (λ p. distance_within g (suc n) p.feed + 1) o) 0) is
      ∙ ap (λ d. d + 1) (distance_more n there.0.feed there.2)
      ∙ sym (ap (λ o. unwrap_or (option_map (λ p. distance_within g n p.feed + 1) o) 0) is)

  -- no chain has more ports than it may
  pub distance_bound : (n : ℕ) (f : Feed) → EndsWithin g n f → distance_within g n f ≤ n
  distance_bound n (feed.TheVariants.Input i) h = omega arith
  distance_bound zero (feed.TheVariants.Out port out) h = absurd h
  distance_bound (suc n) (feed.TheVariants.Out port out) h =
      let P : PortTree → Type 0 = λ p. EndsWithin g n p.feed in
      let there = of_some P (slice_get g.ports h.0) h.2 in
      let is = ap (numbered g.ports) h.1 ∙ there.1 in
      let e = ap (λ o. unwrap_or (option_map (λ p. distance_within g n p.feed + 1) o) 0) is in
      omega (arith, e, distance_bound n there.0.feed there.2)

  -- the port that feeds another one, and what it says of it
  pub record IsSource (p : PortTree) (port out : ℕ) (q : PortTree) : Type 0 where
    pub some_port : 1 ≤ port
    pub last_port : port ≤ length g.ports
    pub there : slice_get g.ports (port - 1) ≡ Some q
    pub some_out : 1 ≤ out
    pub last_out : out ≤ length q.outs
    pub distance : distance_of g p ≡ distance_of g q + 1
    pub stream : stream_of g p ≡ passed_on q (stream_of g q) out

  source_chain : (n port out : ℕ) (q : PortTree) → EndsWithin g n (Out port out) → slice_get g.ports (port - 1) ≡ Some q → (distance_within g n (Out port out) ≡ distance_within g n q.feed + 1) × (stream_within g n (Out port out) ≡ passed_on q (stream_within g n q.feed) out)
  source_chain zero port out q h is = absurd h
  source_chain (suc m) port out q h is =
      let place : port - 1 ≡ h.0 = omega (arith, h.1) in
      let number = numbered_place g.ports port (omega (arith, h.1)) ∙ is in
      let ends = some_is (λ p. EndsWithin g m p.feed) (slice_get g.ports h.0) q (sym (ap (slice_get g.ports) place) ∙ is) h.2 in (
        ap (λ o. unwrap_or (option_map (λ p. distance_within g m p.feed + 1) o) 0) number ∙ ap (λ d. d + 1) (sym (distance_more m q.feed ends)),
        ap (λ o. unwrap_or (option_map (λ p. passed_on p (stream_within g m p.feed) out) o) (record { period = 0; start = 0 })) number ∙ ap (λ s. passed_on q s out) (sym (stream_more m q.feed ends)),
      )

  pub source : (k : ℕ) (p : PortTree) (port out : ℕ) → IsWellFormed g → slice_get g.ports k ≡ Some p → p.feed ≡ Out port out → (q : PortTree) × IsSource p port out q
  source k p port out well there fed =
      let fine = fine_port g k p well there in
      let width = subst (IsFeedOfWidth g p.params) fed fine.2 in
      let ends = subst (EndsWithin g (length g.ports)) fed fine.3 in
      let P : PortTree → Type 0 = λ q. IsSomeAnd (slice_get q.outs width.1) (λ o. o.width ≡ p.params) in
      let at = of_some P (slice_get g.ports width.0) width.4 in
      let out_at = of_some (λ o. o.width ≡ p.params) (slice_get at.0.outs width.1) at.2 in
      let place : port - 1 ≡ width.0 = omega (arith, width.2) in
      let is : slice_get g.ports (port - 1) ≡ Some at.0 = ap (slice_get g.ports) place ∙ at.1 in
      let chain = source_chain (length g.ports) port out at.0 ends is in (
        at.0,
        record {
          some_port = omega (arith, width.2);
          last_port = omega (arith, width.2, slice_get_within g.ports width.0 at.0 at.1);
          there = is;
          some_out = omega (arith, width.3);
          last_out = omega (arith, width.3, slice_get_within at.0.outs width.1 out_at.0 out_at.1);
          distance = ap (distance_within g (length g.ports)) fed ∙ chain.0;
          stream = ap (stream_within g (length g.ports)) fed ∙ chain.1;
        },
      )

  -- no port of a well-formed graph stands farther from the input than there are ports
  pub near : (k : ℕ) (p : PortTree) → IsWellFormed g → slice_get g.ports k ≡ Some p → distance_of g p ≤ length g.ports
  near k p well there = distance_bound (length g.ports) p.feed (fine_port g k p well there).3
