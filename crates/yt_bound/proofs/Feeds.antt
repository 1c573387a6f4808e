-- The steps of counting along a chain of sources, and over the ports and outputs.
use Rattle.std.proofs.Common.{◌≡◌, ℕ, zero, suc, ◌+◌, ◌-◌, ◌≤◌, List, length, slice_get, drop, Option, Some, All, sym, ap, subst, ◌∙◌, arith}
use Rattle.std.specs.Prelude.{⊤, IsSomeAnd}
use Rattle.std.specs.List.{sum_by}
use Rattle.std.specs.Option.{option_map, unwrap_or}
use Rattle.std.proofs.lemmas.List.Sums.{sum_by-cons}
use Rattle.std.proofs.lemmas.List.{drop_all}
use Rattle.std.proofs.lemmas.Option.{same_Some, slice_get_within, get_or_from_slice_get}
use Rattle.yt_cost.proofs.Lemmas.{fine_port}
use Rattle.yt_graph.specs.declared.graph as graph
use Rattle.yt_graph.specs.declared.graph.Output.{Output}
use Rattle.yt_graph.specs.declared.port.Feed.{Feed}
use Rattle.yt_graph.specs.declared.port.Feed.TheVariants.{Input, Out}
use Rattle.yt_graph.specs.declared.port.OutHead.{OutHead}
use Rattle.yt_graph.specs.Picture.{GraphTree, PortTree}
use Rattle.yt_graph.specs.WellFormed.{EndsWithin, IsFeedOfWidth, IsFineOutput, IsWellFormed}
use Rattle.yt_list.proofs.Lemmas.{drop_at}
use Rattle.yt_list.specs.Numbered.{numbered}
use Rattle.yt_rates.proofs.Lemmas.{of_some}
use Rattle.yt_rates.specs.Faults.{IsWithinRates}
use Rattle.yt_serial.specs.Bounds.{greatest_passed, most_messages_within}
use Rattle.yt_trace.specs.declared.message.Message.{Message}
use Rattle.yt_bound.specs.Inside.Feeds.{IsFeed, IsSourceThere, most_fed}
use Rattle.yt_bound.proofs.Limits.{out_most}
use Rattle.yt_bound.proofs.Outs.{there}

pub same_tree : (p q : PortTree) → Some p ≡ Some q → p ≡ q
same_tree p q e = same_Some p q e

-- the source of a feed of some width is there
feed_there : (g : GraphTree) → IsWellFormed g → (width : ℕ) (f : Feed) → IsFeedOfWidth g width f → IsSourceThere g f
feed_there g well width (Input i) h =
    let input = of_some (λ (i : graph.Input.Input). i.width ≡ width) (slice_get g.inputs h.0) h.2 in
    let within = slice_get_within g.inputs h.0 input.0 input.1 in
    (omega (arith, h.1), omega (arith, h.1, within, well.counts.inputs))
feed_there g well width (Out port out) h =
    let p = of_some (λ (p : PortTree). IsSomeAnd (slice_get p.outs h.1) (λ (o : OutHead). o.width ≡ width)) (slice_get g.ports h.0) h.4 in
    let o = of_some (λ (o : OutHead). o.width ≡ width) (slice_get p.0.outs h.1) p.2 in
    let inner : IsSomeAnd (slice_get p.0.outs h.1) (λ (o : OutHead). ⊤) = subst (λ (x : Option OutHead). IsSomeAnd x (λ (o : OutHead). ⊤)) (sym o.1) tt in
    (h.0, h.1, h.2, h.3, subst (λ (x : Option PortTree). IsSomeAnd x (λ (p : PortTree). IsSomeAnd (slice_get p.outs h.1) (λ (o : OutHead). ⊤))) (sym p.1) inner)

-- the feed of a port
pub port_feed : (g : GraphTree) → IsWellFormed g → (k : ℕ) (p : PortTree) → slice_get g.ports k ≡ Some p → IsFeed g (length g.ports) p.feed
port_feed g well k p at = let fine = fine_port g k p well at in record { ends = fine.3; there = feed_there g well p.params p.feed fine.2 }

-- the feed of an output
pub output_feed : (g : GraphTree) → IsWellFormed g → (k : ℕ) (o : Output) → slice_get g.outputs k ≡ Some o → IsFeed g (suc (length g.ports)) (Out o.port o.out)
output_feed g well k o at =
    let e = get_or_from_slice_get g.outputs k o o at in
    let fine : IsFineOutput g o = subst (IsFineOutput g) e (well.each_output k o (slice_get_within g.outputs k o at)) in
    let out = fine.1 in
    let p = of_some (λ (p : PortTree). IsSomeAnd (slice_get p.outs out.1) (λ (h : OutHead). Unit {0})) (slice_get g.ports out.0) out.4 in
    let ends : EndsWithin g (length g.ports) p.0.feed = (fine_port g out.0 p.0 well p.1).3 in
    record { ends = (out.0, out.2, subst (λ (x : Option PortTree). IsSomeAnd x (λ (q : PortTree). EndsWithin g (length g.ports) q.feed)) (sym p.1) ends); there = out }

-- a step back along a chain of sources
pub record IsStep (g : GraphTree) (trace : List Message) (n port out : ℕ) (q : PortTree) : Type 0 where
  pub some : 1 ≤ n
  pub feed : IsFeed g (n - 1) q.feed
  pub at : numbered g.ports port ≡ Some q
  pub fits : greatest_passed q out (most_messages_within g trace (n - 1) q.feed) ≤ most_fed
  pub count : most_messages_within g trace n (Out port out) ≡ greatest_passed q out (most_messages_within g trace (n - 1) q.feed)

pub step_back : (g : GraphTree) (trace : List Message) → IsWellFormed g → All (IsWithinRates g) g.ports → length trace ≤ 200000
    → (n port out : ℕ) (q : PortTree) → IsFeed g n (Out port out) → slice_get g.ports (port - 1) ≡ Some q → IsStep g trace n port out q
step_back g trace well rates few zero port out q is at = absurd is.ends
step_back g trace well rates few (suc m) port out q is at =
    let t = there g port out is.there in
    let same : t.tree ≡ q = same_tree t.tree q (sym t.place ∙ at) in
    let place : port - 1 ≡ is.ends.0 = omega (arith, is.ends.1) in
    let here : slice_get g.ports is.ends.0 ≡ Some q = ap (slice_get g.ports) (sym place) ∙ at in
    let ends : EndsWithin g m q.feed = subst (λ (x : Option PortTree). IsSomeAnd x (λ (p : PortTree). EndsWithin g m p.feed)) here is.ends.2 in
    let last : length t.tree.outs ≡ length q.outs = ap (λ (p : PortTree). length p.outs) same in
    let less : m ≡ suc m - 1 = omega arith in
    let P : ℕ → Type 0 = λ k. IsFeed g k q.feed in
    let feed : IsFeed g m q.feed = record { ends = ends; there = feed_there g well q.params q.feed (fine_port g (port - 1) q well at).2 } in
    let fits = out_most g trace well rates few m (port - 1) q out at ends t.outs.0 (omega (arith, t.outs.1, last)) in
    let number : numbered g.ports port ≡ Some q = t.at ∙ ap Some same in
    let count : most_messages_within g trace (suc m) (Out port out) ≡ greatest_passed q out (most_messages_within g trace m q.feed) =
    ap (λ (x : Option PortTree). unwrap_or (option_map (λ (p : PortTree). greatest_passed p out (most_messages_within g trace m p.feed)) x) 0) number in
    record {
      some = omega arith;
      feed = subst P less feed;
      at = number;
      fits = subst (λ (k : ℕ). greatest_passed q out (most_messages_within g trace k q.feed) ≤ most_fed) less fits;
      count = subst (λ (k : ℕ). most_messages_within g trace (suc m) (Out port out) ≡ greatest_passed q out (most_messages_within g trace k q.feed)) less count;
    }

-- one more of a list is added up
pub sum_step : {X : Type 0} (f : X → ℕ) (xs : List X) (k : ℕ) (x : X) → slice_get xs k ≡ Some x → (sum next all : ℕ) → next ≡ sum + f x → sum + sum_by f (drop k xs) ≡ all → next + sum_by f (drop (k + 1) xs) ≡ all
sum_step f xs k x at sum next all more so_far =
    let e = ap (sum_by f) (drop_at xs k x at) in
    let c = sum_by-cons f x (drop (k + 1) xs) in
    omega (arith, e, c, more, so_far)

-- all are
pub sum_end : {X : Type 0} (f : X → ℕ) (xs : List X) (k sum all : ℕ) → length xs ≤ k → sum + sum_by f (drop k xs) ≡ all → sum ≡ all
sum_end f xs k sum all le so_far = let e = ap (sum_by f) (drop_all k xs le) in omega (arith, e, so_far)
