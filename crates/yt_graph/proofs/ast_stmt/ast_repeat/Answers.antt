use Rattle.yt_graph.proofs.AstPictures.{ast_stmt_tree-Repeat}
use Rattle.yt_graph.proofs.ast_stmt.ast_repeat.Goals as goal

pub returns : goal.returns
returns c = ast_stmt_tree-Repeat c.args.count c.args.max c.args.body
