use Rattle.std.proofs.Common.{◌≡◌, ◌+◌, length, ℕ}
use Rattle.yt_graph.specs.Picture.{graph_tree}
use Rattle.yt_rates.specs.Faults.{fault_from, rate_fault}
use Rattle.yt_rates.specs.Inside.Rating.{AreRated}
use Rattle.yt_rates.proofs.rating.rates.Given as goal

-- so many distances are left
abbrev pub invariant-loop-distance : goal.invariant-loop-distance
invariant-loop-distance l = record {
  left : ℕ;
  all : l.distance + left ≡ length (graph_tree l.graph).ports + 1;
  so_far : fault_from (graph_tree l.graph) left l.distance ≡ rate_fault (graph_tree l.graph);
  rated : AreRated (graph_tree l.graph) l.distance 0 l.table.items;
}
