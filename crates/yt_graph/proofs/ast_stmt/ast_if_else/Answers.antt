use Rattle.yt_graph.proofs.AstPictures.{ast_stmt_tree-If_else}
use Rattle.yt_graph.proofs.ast_stmt.ast_if_else.Goals as goal

pub returns : goal.returns
returns c = ast_stmt_tree-If_else c.args.test c.args.yes c.args.no
