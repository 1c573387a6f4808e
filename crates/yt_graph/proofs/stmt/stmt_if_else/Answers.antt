use Rattle.yt_graph.proofs.Pictures.{stmt_tree-If_else}
use Rattle.yt_graph.proofs.stmt.stmt_if_else.Goals as goal

pub returns : goal.returns
returns c = stmt_tree-If_else c.args.test c.args.yes c.args.no
