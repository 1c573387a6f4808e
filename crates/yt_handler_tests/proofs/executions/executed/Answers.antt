use Rattle.std.proofs.Common.{sym}
use Rattle.yt_graph.specs.Picture.{block_tree, graph_tree}
use Rattle.yt_handler_tests.proofs.Formed.{two_well_formed}
use Rattle.yt_handler_tests.proofs.Plain.{first_code}
use Rattle.yt_handler_tests.proofs.executions.executed.Goals as goal

pub compile-requires-clause-well_formed : goal.compile-requires-clause-well_formed
compile-requires-clause-well_formed g c =
    two_well_formed (graph_tree c.in_ok-graph.graph) (block_tree c.in_ok-first.first.items) (block_tree c.in_ok-second.second.items) c.in_ok-graph.ensures c.in_ok-first.ensures.plain c.in_ok-second.ensures.plain

pub begin-requires : goal.begin-requires
begin-requires g c =
    let is = first_code (graph_tree c.in_ok-graph.graph) (block_tree c.in_ok-first.first.items) (block_tree c.in_ok-second.second.items) c.in-Ok.codes c.code-compiled.result.now c.in_ok-graph.ensures c.in-Ok.ensures.codes c.code-compiled.ensures in
    record { params = sym is.0 }

pub run-ticks-requires-clause-vars : goal.run-ticks-requires-clause-vars
run-ticks-requires-clause-vars g c =
    let is = first_code (graph_tree c.in_ok-graph.graph) (block_tree c.in_ok-first.first.items) (block_tree c.in_ok-second.second.items) c.in-Ok.codes c.code-compiled.result.now c.in_ok-graph.ensures c.in-Ok.ensures.codes c.code-compiled.ensures in
    sym is.1
