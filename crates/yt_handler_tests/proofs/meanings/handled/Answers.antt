use Rattle.std.proofs.Common.{length}
use Rattle.yt_graph.specs.Picture.{graph_tree}
use Rattle.yt_handler_tests.proofs.Formed.{lone_well_formed}
use Rattle.yt_handler_tests.proofs.meanings.handled.Goals as goal

pub handle-requires-clause-well_formed : goal.handle-requires-clause-well_formed
handle-requires-clause-well_formed c =
    lone_well_formed (length c.args.vars.now) (graph_tree c.args.graph.now) c.requires
