use Rattle.std.proofs.Common.{◌≡◌, ◌+◌, ℕ, length}
use Rattle.yt_graph.specs.Picture.{graph_tree}
use Rattle.yt_graph.specs.WellFormed.{EndsWithin}
use Rattle.yt_rates.specs.Rates.{distance_within}
use Rattle.yt_rates.proofs.distances.distance.Given as goal

-- so many ports are left at most on the rest of the chain
abbrev pub invariant-loop-passed : goal.invariant-loop-passed
invariant-loop-passed l = record {
  left : ℕ;
  all : l.passed + left ≡ length l.graph.ports;
  ends : EndsWithin (graph_tree l.graph) left l.at;
  so_far : distance_within (graph_tree l.graph) (length (graph_tree l.graph).ports) l.fn.feed ≡ l.passed + distance_within (graph_tree l.graph) left l.at;
}
