use Rattle.std.proofs.Common.{◌≡◌, ◌+◌, drop}
use Rattle.yt_graph.specs.Picture.{graph_tree}
use Rattle.yt_rates.specs.Faults.{fault_at}
use Rattle.yt_rates.specs.Inside.Rating.{AreRated}
use Rattle.yt_rates.proofs.rating.rate_at.Given as goal

abbrev pub invariant-loop-place : goal.invariant-loop-place
invariant-loop-place l = record {
  rated : AreRated (graph_tree l.graph) l.distance l.place l.table.items;
  so_far : fault_at (graph_tree l.graph) l.distance (l.place + 1) (drop l.place (graph_tree l.graph).ports) ≡ fault_at (graph_tree l.graph) l.distance 1 (graph_tree l.graph).ports;
}
