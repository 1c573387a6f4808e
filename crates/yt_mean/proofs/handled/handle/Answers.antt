use Rattle.std.proofs.Common.{subst}
use Rattle.std.proofs.lemmas.Result.{IfOk-weaker}
use Rattle.yt_graph.specs.Picture.{port_tree, graph_tree}
use Rattle.yt_graph.specs.Meaning.{handling}
use Rattle.yt_mean.specs.Handled.{Tells}
use Rattle.yt_mean.proofs.Ports.{port_is, same_port}
use Rattle.yt_mean.proofs.WellFormed.{handler_within}
use Rattle.yt_mean.proofs.handled.handle.Goals as goal

pub run-requires-clause-within : goal.run-requires-clause-within
run-requires-clause-within c =
    let graph = c.args.graph.now in
    let there = port_is graph.ports c.args.port c.at.result.now c.requires.first c.at.ensures.get in
    rw c.requires.vars (handler_within (graph_tree graph) c.args.port (port_tree c.at.result.now) c.requires.well_formed there)

pub run-requires-clause-width : goal.run-requires-clause-width
run-requires-clause-width c =
    c.requires.width (port_tree c.at.result.now) (port_is c.args.graph.now.ports c.args.port c.at.result.now c.requires.first c.at.ensures.get)

pub run-requires-clause-cost : goal.run-requires-clause-cost
run-requires-clause-cost c =
    c.requires.cost (port_tree c.at.result.now) (port_is c.args.graph.now.ports c.args.port c.at.result.now c.requires.first c.at.ensures.get)

pub returns : goal.returns
returns c =
    let graph = c.args.graph.now in
    let port = c.at.result.now in
    IfOk-weaker c.run.result _ _ (λ answer told p there. subst (λ q. Tells answer (handling (graph_tree graph) q c.args.msg.now c.args.vars.now)) (same_port graph.ports c.args.port port p c.requires.first c.at.ensures.get there) told) c.run.ensures
