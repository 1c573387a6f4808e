use Rattle.yt_graph.proofs.AstPictures.{ast_stmt_tree-If_only}
use Rattle.yt_graph.proofs.ast_stmt.ast_if.Goals as goal

pub returns : goal.returns
returns c = ast_stmt_tree-If_only c.args.test c.args.yes
