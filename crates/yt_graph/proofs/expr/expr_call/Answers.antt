use Rattle.yt_graph.proofs.Pictures.{expr_tree-Call}
use Rattle.yt_graph.proofs.expr.expr_call.Goals as goal

pub returns : goal.returns
returns c = expr_tree-Call c.args.op c.args.code c.args.ticks c.args.args
