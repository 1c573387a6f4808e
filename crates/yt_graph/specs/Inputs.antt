-- The inputs of a graph.
use Rattle.std.specs.Prelude.{ℕ, List}
use Rattle.std.specs.Option.{option_map, unwrap_or}
use Rattle.yt_list.specs.Numbered.{numbered}
use Rattle.yt_graph.specs.declared.graph.Input.{Input}
use Rattle.yt_graph.specs.Picture.{GraphTree}

-- the period of the input of a number, from 1; 0 where there is no such input
abbrev pub period_in : List Input → ℕ → ℕ
period_in inputs input = unwrap_or (option_map (λ i. i.period) (numbered inputs input)) 0

-- how many numbers its messages have
abbrev pub width_in : List Input → ℕ → ℕ
width_in inputs input = unwrap_or (option_map (λ i. i.width) (numbered inputs input)) 0

-- the period of an input of a graph, from 1
abbrev pub input_period : GraphTree → ℕ → ℕ
input_period g input = period_in g.inputs input
