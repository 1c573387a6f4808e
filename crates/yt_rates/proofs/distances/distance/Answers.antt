use Rattle.std.proofs.Common.{◌-◌, length, ◌∙◌, arith}
use Rattle.std.proofs.lemmas.List.{length-map}
use Rattle.yt_graph.specs.Picture.{graph_tree, port_tree}
use Rattle.yt_cost.proofs.Lemmas.{port_is}
use Rattle.yt_rates.proofs.Chains.{source_there, walked}
use Rattle.yt_rates.proofs.distances.distance.Goals as goal

pub loop-passed-init : goal.loop-passed-init
loop-passed-init c = record {
  left = length (graph_tree c.args.graph.now).ports;
  all = omega (arith, length-map c.args.graph.now.ports port_tree);
  ends = c.requires;
  so_far = omega arith;
}

pub at-requires : goal.at-requires
at-requires c =
    let g = graph_tree c.args.graph.now in
    let i = c.loop-passed.invariant in
    let there = source_there g i.left c.in-Out.port c.in-Out.out c.loop-passed.at c.in-Out.is i.ends in
    omega (arith, there.0, there.1, length-map c.args.graph.now.ports port_tree)

pub loop-passed-preserved : goal.loop-passed-preserved
loop-passed-preserved c =
    let ports = c.args.graph.now.ports in
    let i = c.loop-passed.invariant in
    let port = c.in-Out.port in
    let q = port_tree c.at.result.now in
    let there = port_is ports (port - 1) c.at.result.now c.at.ensures.get in
    let next = walked (graph_tree c.args.graph.now) c.loop-passed.passed i.left port c.in-Out.out (length ports) c.loop-passed.at q c.in-Out.is i.ends there i.all in
    record { left = next.0; all = next.1; ends = next.2; so_far = i.so_far ∙ next.3 }
