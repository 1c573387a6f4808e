use Rattle.std.proofs.Common.{◌<◌, ◌≤◌, length, ap, arith}
use Rattle.std.proofs.lemmas.List.{length-map}
use Rattle.yt_graph.specs.declared.graph.Graph.{Graph}
use Rattle.yt_graph.specs.Picture.{graph_tree, port_tree}
use Rattle.yt_body.specs.Wiring.{wires_of}
use Rattle.yt_body.proofs.Numbers.{ports_over}
use Rattle.yt_body.proofs.There.{ports_step}
use Rattle.yt_body.proofs.wiring.wires_of.Goals as goal

pub loop-place-preserved : goal.loop-place-preserved
loop-place-preserved c =
    let g = graph_tree c.args.accepted.now.graph in
    let long = length-map c.args.accepted.now.graph.ports port_tree in
    let same = ap (λ (gr : Graph). length gr.ports) c.graph.ensures.graph in
    let lt : c.loop-place.place < length g.ports = omega (arith, c.len-ports.ensures, same) in
    ports_step g c.loop-place.place c.loop-place.wires.items c.add_wires.new.wires.items (wires_of g) lt c.in_ok-add_wires.ensures c.loop-place.invariant

pub returns : goal.returns
returns c =
    let g = graph_tree c.args.accepted.now.graph in
    let long = length-map c.args.accepted.now.graph.ports port_tree in
    let same = ap (λ (gr : Graph). length gr.ports) c.graph.ensures.graph in
    let le : length g.ports ≤ c.loop-place.place = omega (arith, c.len-ports.ensures, same) in
    ports_over g c.loop-place.place c.loop-place.wires.items (wires_of g) le c.loop-place.invariant
