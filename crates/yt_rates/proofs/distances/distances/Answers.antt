use Rattle.std.proofs.Common.{◌≡◌, length, arith}
use Rattle.std.proofs.lemmas.List.{length-map}
use Rattle.yt_graph.specs.Picture.{graph_tree, port_tree}
use Rattle.yt_cost.proofs.Lemmas.{port_is, fine_port}
use Rattle.yt_rates.specs.Rates.{distance_of}
use Rattle.yt_rates.proofs.Lists.{mapped_more, mapped_all}
use Rattle.yt_rates.proofs.distances.distances.Goals as goal

pub distance-requires : goal.distance-requires
distance-requires c =
    let g = graph_tree c.args.graph.now in
    let there = port_is c.args.graph.now.ports c.loop-place.place c.at.result.now c.at.ensures.get in
    (fine_port g c.loop-place.place (port_tree c.at.result.now) c.requires there).3

pub loop-place-preserved : goal.loop-place-preserved
loop-place-preserved c =
    let g = graph_tree c.args.graph.now in
    let there = port_is c.args.graph.now.ports c.loop-place.place c.at.result.now c.at.ensures.get in
    mapped_more (distance_of g) g.ports c.loop-place.place (port_tree c.at.result.now) c.distance.result c.loop-place.all.items c.push.new.self.items _ there c.distance.ensures c.in_ok-push.ensures.items c.loop-place.invariant

pub returns : goal.returns
returns c =
    let g = graph_tree c.args.graph.now in
    let end : c.loop-place.place ≡ length g.ports = omega (arith, c.len-place-end.ensures, length-map c.args.graph.now.ports port_tree) in
    mapped_all (distance_of g) g.ports c.loop-place.place c.loop-place.all.items _ end c.loop-place.invariant
