use Rattle.std.proofs.Common.{◌≡◌, ◌+◌, ◌++◌, drop}
use Rattle.yt_graph.specs.Picture.{graph_tree}
use Rattle.yt_body.specs.Wiring.{wires_of, wires_of_ports}
use Rattle.yt_body.proofs.wiring.wires_of.Given as goal

abbrev pub invariant-loop-place : goal.invariant-loop-place
invariant-loop-place l =
    l.wires.items ++ wires_of_ports (graph_tree l.accepted.graph) (l.place + 1) (drop l.place (graph_tree l.accepted.graph).ports) ≡ wires_of (graph_tree l.accepted.graph)
