use Rattle.yt_graph.proofs.Wrapping.{gap_is, size_is}
use Rattle.yt_graph.proofs.values.operator_value.Goals as goal

pub returns-in-3 : goal.returns-in-3
returns-in-3 c =
    rw c.in-3.is (gap_is c.args.x c.args.y c.max-in-3.result c.min-in-3.result c.ranges.x c.ranges.y (record { sfits = c.max-in-3.type_inv }) (record { sfits = c.min-in-3.type_inv }) c.max-in-3.ensures.value c.min-in-3.ensures.value)

pub returns-then-x-lt0 : goal.returns-then-x-lt0
returns-then-x-lt0 c =
    rw c.in-4.is (size_is c.args.x c.args.y c.wrapping_neg.result c.ranges.x (record { sfits = c.wrapping_neg.type_inv }) c.if-x-lt0.true c.wrapping_neg.ensures)
