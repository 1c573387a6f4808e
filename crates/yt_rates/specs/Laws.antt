-- How the rates of a port follow from what feeds it.
use Rattle.std.specs.Prelude.{◌≡◌, ℕ, ◌+◌, slice_get, Some}
use Rattle.std.specs.Option.{ForSome}
use Rattle.yt_list.specs.Numbered.{numbered}
use Rattle.yt_graph.specs.declared.port.Feed.TheVariants.{Input, Out}
use Rattle.yt_graph.specs.Picture.{PortTree, GraphTree}
use Rattle.yt_graph.specs.WellFormed.{IsWellFormed}
use Rattle.yt_rates.specs.Rates.{distance_of, period_of, start_of, gap_of, reach_of}

-- a port that an input feeds has the input's period, and its messages are the input's
abbrev pub RatesOfAnInput : Type 0
RatesOfAnInput =
    (g : GraphTree) (p : PortTree) (input : ℕ) → p.feed ≡ Input input
    → (distance_of g p ≡ 0) × (start_of g p ≡ 0) × ForSome (numbered g.inputs input) (λ i. period_of g p ≡ i.period)

-- a port that an out feeds has the out's gap for its period, and its messages come within the out's reach
abbrev pub RatesAlongAnOut : Type 0
RatesAlongAnOut =
    (g : GraphTree) (k : ℕ) (p : PortTree) (source out : ℕ) → IsWellFormed g → slice_get g.ports k ≡ Some p → p.feed ≡ Out source out
    → ForSome (numbered g.ports source) (λ q. (distance_of g p ≡ distance_of g q + 1) × (period_of g p ≡ gap_of g q out) × (start_of g p ≡ reach_of g q out))
