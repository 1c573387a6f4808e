-- Feeds whose messages are counted, and what is there of each.
use Rattle.std.specs.Prelude.{⊤, ℕ, ◌*◌}
use Rattle.yt_graph.specs.declared.port.Feed as feed
use Rattle.yt_graph.specs.declared.port.Feed.{Feed}
use Rattle.yt_graph.specs.Limits.{most_inputs}
use Rattle.yt_graph.specs.Picture.{GraphTree}
use Rattle.yt_graph.specs.WellFormed.{EndsWithin, IsOutAnd, IsWithin}
use Rattle.yt_set.specs.Limits.{most_ticks}
use Rattle.yt_trace.specs.Limits.{most_trace}

-- an out of a port of the graph, both by their numbers from 1
abbrev pub IsOut : GraphTree → ℕ → ℕ → Type 0
IsOut g port out = IsOutAnd g port out (λ _. ⊤)

-- the input of a feed is one that a graph may have, or its out is there
abbrev pub IsSourceThere : GraphTree → Feed → Type 0
IsSourceThere g (feed.TheVariants.Input input) = IsWithin 1 most_inputs input
IsSourceThere g (feed.TheVariants.Out port out) = IsOut g port out

-- a feed of the graph, whose chain of sources has at most so many ports
pub record IsFeed (g : GraphTree) (n : ℕ) (f : Feed) : Type 0 where
  pub ends : EndsWithin g n f
  pub there : IsSourceThere g f

-- the most messages of a feed, whatever the graph: what a trace has, over the longest period. An out passes on no more messages for
-- its gap than come to its port for the port's period
abbrev pub most_fed : ℕ
most_fed = most_trace * most_ticks
