use Rattle.yt_graph.specs.Picture.{graph_tree}
use Rattle.yt_handler_tests.proofs.Formed.{lone_well_formed}
use Rattle.yt_handler_tests.proofs.costs.compiles_a_sum_and_a_loop.Goals as goal

pub compile-requires-clause-well_formed : goal.compile-requires-clause-well_formed
compile-requires-clause-well_formed g c =
    lone_well_formed 1 (graph_tree c.in_ok-graph.graph) c.in_ok-graph.ensures.lone
