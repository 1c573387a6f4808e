-- The graph by which the tests of traces go.
use Rattle.std.specs.Prelude.{ℕ, List, [], ◌∷◌, codes}
use Rattle.yt_graph.specs.declared.graph.Input.{Input}
use Rattle.yt_graph.specs.Picture.{GraphTree}

-- an input
abbrev pub input_of : List ℕ → ℕ → ℕ → Input
input_of name width period = record { name = name; width = width; period = period }

-- two inputs: `tick`, of one number each 10 ticks, and `tock`, of none each 4
abbrev pub clock : GraphTree
clock = record { inputs = input_of (codes "tick") 1 10 ∷ input_of (codes "tock") 0 4 ∷ []; outputs = []; groups = []; vars = []; ports = [] }
