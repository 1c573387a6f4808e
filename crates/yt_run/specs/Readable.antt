-- Graphs whose run texts can be read back: their names are words, and differ.
use Rattle.std.specs.Prelude.{◌≡◌, ◌≢◌, ℕ, ◌==◌, ◌&&◌, not, Bool, true, List, map, All, AllPairs}
use Rattle.std.specs.List.{list_all}
use Rattle.yt_graph.specs.declared.graph.Output.{Output}
use Rattle.yt_graph.specs.Picture.{GraphTree}
use Rattle.yt_graph.specs.Labels.{label_of}

-- a byte other than c
abbrev pub is_not : ℕ → ℕ → Bool
is_not c b = not (b == c)

-- a byte of a word: it ends no field and no line
abbrev pub stays_in_word : ℕ → Bool
stays_in_word b = is_not 32 b && is_not 10 b

-- names of which no two are the same, and none has a space or a line feed
pub record AreDistinctWords (names : List (List ℕ)) : Type 0 where
  pub different : AllPairs (λ a b. a ≢ b) names
  pub words : All (λ name. list_all stays_in_word name ≡ true) names

-- the labels of a graph's ports are distinct words, and so are the names of its outputs
pub record HasReadableNames (graph : GraphTree) : Type 0 where
  pub ports : AreDistinctWords (map label_of graph.ports)
  pub outputs : AreDistinctWords (map (λ (o : Output). o.name) graph.outputs)
