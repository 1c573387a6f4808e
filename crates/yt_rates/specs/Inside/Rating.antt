-- What is known of the ports so far, while they are rated one by one.
use Rattle.std.specs.Prelude.{◌≡◌, ℕ, ◌<◌, ◌≤◌, List, length, slice_get, Some}
use Rattle.std.specs.Option.{ForSome}
use Rattle.yt_list.specs.Numbered.{numbered}
use Rattle.yt_graph.specs.declared.port.Feed as feed
use Rattle.yt_graph.specs.declared.port.Feed.{Feed}
use Rattle.yt_graph.specs.Picture.{PortTree, GraphTree}
use Rattle.yt_rates.specs.declared.stream.Stream.{Stream}
use Rattle.yt_rates.specs.Rates.{distance_of}
use Rattle.yt_rates.specs.Faults.{IsWithinRates}
use Rattle.yt_rates.specs.Tables.{IsRatesOf, PortRates}

-- a port's rates are kept, and are within their limits
pub record IsRated (g : GraphTree) (port : PortTree) (kept : PortRates) : Type 0 where
  pub rates : IsRatesOf g port kept
  pub limits : IsWithinRates g port

-- rates are kept of the ports that stand nearer to the input than this, and of those that stand just so far before this place
pub record AreRated (g : GraphTree) (distance place : ℕ) (table : List PortRates) : Type 0 where
  pub count : length table ≡ length g.ports
  pub nearer : (k : ℕ) → ForSome (slice_get g.ports k) (λ p. distance_of g p < distance → ForSome (slice_get table k) (IsRated g p))
  pub before : (k : ℕ) → ForSome (slice_get g.ports k) (λ p. distance_of g p ≡ distance → k < place → ForSome (slice_get table k) (IsRated g p))

-- what the table and the graph's inputs say of the messages of a feed
abbrev pub IsKnown : GraphTree → List PortRates → Feed → Stream → Type 0
IsKnown g table (feed.TheVariants.Input input) s =
    (1 ≤ input) × (input ≤ length g.inputs) × ForSome (numbered g.inputs input) (λ i. (i.period ≡ s.period) × (s.start ≡ 0))
IsKnown g table (feed.TheVariants.Out port out) s =
    (1 ≤ port) × (port ≤ length table) × (1 ≤ out) × ForSome (numbered table port) (λ kept. numbered kept.outs out ≡ Some s)
