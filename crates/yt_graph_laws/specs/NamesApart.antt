-- Names of a graph that can be told apart in a text.
use Rattle.std.specs.Prelude.{◌≡◌, ◌≢◌, ℕ, false, List, map, All, AllPairs}
use Rattle.std.specs.List.{list_any}
use Rattle.yt_graph.specs.declared.graph.Output.{Output}
use Rattle.yt_graph.specs.Labels.{labels_of}
use Rattle.yt_graph.specs.Picture.{GraphTree}
use Rattle.yt_graph.specs.WellFormed.{IsWellFormed}
use Rattle.yt_lexer.specs.First.{is_space}

-- no two of the names are the same, and none has a space, a tab, a carriage return or a line feed
pub record AreApart (names : List (List ℕ)) : Type 0 where
  pub different : AllPairs (λ a b. a ≢ b) names
  pub whole : All (λ name. list_any is_space name ≡ false) names

-- the labels of a graph's ports can be told apart, and so can the names of its outputs
pub record HasNamesApart (g : GraphTree) : Type 0 where
  pub ports : AreApart (labels_of g)
  pub outputs : AreApart (map (λ (o : Output). o.name) g.outputs)

abbrev pub NamesAreApart : Type 0
NamesAreApart = (g : GraphTree) → IsWellFormed g → HasNamesApart g
