use Rattle.std.proofs.Common.{◌≡◌, ◌++◌, map, drop}
use Rattle.yt_graph.specs.Picture.{graph_tree}
use Rattle.yt_rates.specs.Rates.{distance_of}
use Rattle.yt_rates.proofs.distances.distances.Given as goal

abbrev pub invariant-loop-place : goal.invariant-loop-place
invariant-loop-place l =
    l.all.items ++ map (distance_of (graph_tree l.graph)) (drop l.place (graph_tree l.graph).ports) ≡ map (distance_of (graph_tree l.graph)) (graph_tree l.graph).ports
