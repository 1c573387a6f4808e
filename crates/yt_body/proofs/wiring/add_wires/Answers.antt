use Rattle.std.proofs.Common.{◌<◌, ◌≤◌, length, arith}
use Rattle.yt_body.proofs.There.{few_outs, out_there, outs_end, outs_step}
use Rattle.yt_body.proofs.wiring.add_wires.Goals as goal

pub overflow_cast-out : goal.overflow_cast-out
overflow_cast-out c =
    let few = few_outs c.args.accepted.now.graph c.graph-graph.result.now c.graph-graph.ensures.graph c.args.port c.requires.0 c.at.result.now c.at.ensures.get c.graph-graph.ensures.accepted.well_formed in
    omega arith

pub overflow_add-out : goal.overflow_add-out
overflow_add-out c =
    let few = few_outs c.args.accepted.now.graph c.graph-graph.result.now c.graph-graph.ensures.graph c.args.port c.requires.0 c.at.result.now c.at.ensures.get c.graph-graph.ensures.accepted.well_formed in
    omega arith

pub wire_of-requires : goal.wire_of-requires
wire_of-requires c =
    let lt : c.loop-place.place < length c.at.result.now.outs = omega arith in
    out_there c.args.accepted.now.graph c.graph-graph.result.now c.graph-graph.ensures.graph c.args.port c.requires.0 c.at.result.now c.at.ensures.get c.loop-place.place lt

pub loop-place-preserved : goal.loop-place-preserved
loop-place-preserved c =
    let lt : c.loop-place.place < length c.at.result.now.outs = omega arith in
    outs_step c.args.accepted.now.graph c.graph-graph.result.now c.graph-graph.ensures.graph c.args.port c.requires.0 c.at.result.now c.at.ensures.get c.loop-place.place c.in_ok-wire.wire c.loop-place.wires.items c.push.new.self.items _ lt
    c.in_ok-wire.ensures c.in_ok-push.ensures.items c.loop-place.invariant

pub returns : goal.returns
returns c =
    let le : length c.at.result.now.outs ≤ c.loop-place.place = omega arith in
    outs_end c.args.accepted.now.graph c.graph-graph.result.now c.graph-graph.ensures.graph c.args.port c.requires.0 c.at.result.now c.at.ensures.get c.loop-place.place c.loop-place.wires.items _ le c.loop-place.invariant
