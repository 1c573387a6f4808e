use Rattle.yt_graph.specs.AstPicture.{ast_expr_tree}
use Rattle.yt_graph.specs.AstParts.{ast_expr_weight}
use Rattle.yt_admit.proofs.calls.+expr_calls.Given as goal

abbrev pub decreases-expr_calls : goal.decreases-expr_calls
decreases-expr_calls l = ast_expr_weight (ast_expr_tree l.expr.now)
