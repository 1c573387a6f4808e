use Rattle.yt_graph.specs.Picture.{block_tree, graph_tree}
use Rattle.yt_handler_tests.proofs.Formed.{two_well_formed}
use Rattle.yt_handler_tests.proofs.Plain.{second_out}
use Rattle.yt_handler_tests.proofs.costs.judged.Goals as goal

pub compile-requires-clause-well_formed : goal.compile-requires-clause-well_formed
compile-requires-clause-well_formed c =
    two_well_formed (graph_tree c.in_ok-graph.graph) (block_tree c.in_ok-first.first.items) (block_tree c.in_ok-second.second.items) c.in_ok-graph.ensures c.in_ok-first.ensures.plain c.in_ok-second.ensures.plain

pub sends-requires-clause-last_out : goal.sends-requires-clause-last_out
sends-requires-clause-last_out c =
    second_out (graph_tree c.in_ok-graph.graph) (block_tree c.in_ok-first.first.items) (block_tree c.in_ok-second.second.items) c.in-Ok.codes c.in_ok-graph.ensures c.in-Ok.ensures.codes
