use Rattle.yt_graph.proofs.Wrapping.{div_is}
use Rattle.yt_graph.proofs.values.quotient.Goals as goal

pub returns-else-y-eq0 : goal.returns-else-y-eq0
returns-else-y-eq0 c = div_is c.args.x c.args.y c.wrapping_div.result c.ranges.x c.ranges.y (record { sfits = c.wrapping_div.type_inv }) c.if-y-eq0.false c.wrapping_div.ensures
