use Rattle.yt_graph.proofs.AstPictures.{ast_expr_tree-Call}
use Rattle.yt_graph.proofs.ast_expr.ast_call.Goals as goal

pub returns : goal.returns
returns c = ast_expr_tree-Call c.args.name c.args.args
