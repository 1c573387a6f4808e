use Rattle.std.proofs.Common.{sym, subst}
use Rattle.yt_graph.specs.WellFormed.{IsWellFormed}
use Rattle.yt_handler_tests.proofs.Formed.{arithmetic_well_formed}
use Rattle.yt_handler_tests.proofs.arithmetic.numbers_at_their_edges.Goals as goal

pub handle-requires-clause-well_formed : goal.handle-requires-clause-well_formed
handle-requires-clause-well_formed g c = subst IsWellFormed (sym c.in_ok-graph.ensures) arithmetic_well_formed
