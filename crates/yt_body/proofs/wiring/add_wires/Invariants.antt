use Rattle.std.proofs.Common.{◌≡◌, ◌+◌, ◌++◌, drop, slice_get, Some}
use Rattle.yt_graph.specs.Picture.{PortTree, graph_tree}
use Rattle.yt_list.specs.Numbered.{numbered}
use Rattle.yt_body.specs.Wiring.{wires_of_outs}
use Rattle.yt_body.proofs.wiring.add_wires.Given as goal

abbrev pub invariant-loop-place : goal.invariant-loop-place
invariant-loop-place l =
    (p : PortTree) → numbered (graph_tree l.accepted.graph).ports l.port ≡ Some p →
    l.wires.items ++ wires_of_outs (graph_tree l.accepted.graph) l.port p (l.place + 1) (drop l.place p.outs) ≡ l.initial.wires.items ++ wires_of_outs (graph_tree l.accepted.graph) l.port p 1 p.outs
