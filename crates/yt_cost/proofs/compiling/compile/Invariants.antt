use Rattle.std.proofs.Common.{◌≡◌, ◌+◌, drop, length, ℕ}
use Rattle.std.specs.Prelude.{map, slice_get}
use Rattle.std.specs.Option.{ForSome}
use Rattle.yt_graph.specs.Picture.{port_tree, graph_tree}
use Rattle.yt_cost.specs.Codes.{IsCodeOf}
use Rattle.yt_cost.specs.Faults.{ports_fault}
use Rattle.yt_cost.proofs.compiling.compile.Given as goal

abbrev pub invariant-loop-place : goal.invariant-loop-place
invariant-loop-place l = record {
  count : length l.ports ≡ l.place;
  so_far : ports_fault (l.place + 1) (map port_tree (drop l.place l.graph.ports)) ≡ ports_fault 1 (map port_tree l.graph.ports);
  each : (k : ℕ) → ForSome (slice_get (map port_tree l.graph.ports) k) (λ p. ForSome (slice_get l.ports k) (IsCodeOf (graph_tree l.graph) p));
}
