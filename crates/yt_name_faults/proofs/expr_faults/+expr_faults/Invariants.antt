use Rattle.std.proofs.Common.{◌≡◌, ◌≤◌, ◌*◌, drop}
use Rattle.yt_graph.specs.AstPicture.{ast_expr_tree, ast_exprs_tree}
use Rattle.yt_graph.specs.AstParts.{ast_expr_weight, ast_exprs_weight}
use Rattle.yt_name_faults.specs.First.{least_with}
use Rattle.yt_name_faults.specs.Handlers.{exprs_faults}
use Rattle.yt_name_faults.proofs.expr_faults.+expr_faults.Given as goal

abbrev pub decreases-expr_faults : goal.decreases-expr_faults
decreases-expr_faults l = 2 * ast_expr_weight (ast_expr_tree l.e.now)

abbrev pub decreases-exprs_faults : goal.decreases-exprs_faults
decreases-exprs_faults l = 2 * ast_exprs_weight (ast_exprs_tree l.es.now)

abbrev pub invariant-exprs_faults-loop-e : goal.invariant-exprs_faults-loop-e
invariant-exprs_faults-loop-e l = record {
  so_far : least_with (exprs_faults l.env l.visible (ast_exprs_tree (drop l.e-index l.es))) l.least ≡ least_with (exprs_faults l.fn.env l.fn.visible (ast_exprs_tree l.es)) l.fn.least;
  lighter : ast_exprs_weight (ast_exprs_tree (drop l.e-index l.es)) ≤ ast_exprs_weight (ast_exprs_tree l.es);
}
