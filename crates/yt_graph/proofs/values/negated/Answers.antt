use Rattle.yt_graph.proofs.Wrapping.{neg_is}
use Rattle.yt_graph.proofs.values.negated.Goals as goal

pub returns : goal.returns
returns c = neg_is c.args.x c.wrapping_neg.result c.ranges.x (record { sfits = c.wrapping_neg.type_inv }) c.wrapping_neg.ensures
