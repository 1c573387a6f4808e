use Rattle.std.proofs.Common.{◌≡◌, ◌≤◌, ◌*◌, drop}
use Rattle.yt_graph.specs.AstPicture.{ast_expr_tree, ast_exprs_tree}
use Rattle.yt_graph.specs.AstParts.{ast_expr_weight, ast_exprs_weight}
use Rattle.yt_graph.specs.Picture.{exprs_tree}
use Rattle.yt_names.specs.Resolved.{resolved_exprs}
use Rattle.yt_names.proofs.BuildLemmas.{exprs_then}
use Rattle.yt_names.proofs.resolve_expr.+resolve_expr.Given as goal

abbrev pub decreases-resolve_expr : goal.decreases-resolve_expr
decreases-resolve_expr l = 2 * ast_expr_weight (ast_expr_tree l.e.now)

abbrev pub decreases-resolve_exprs : goal.decreases-resolve_exprs
decreases-resolve_exprs l = 2 * ast_exprs_weight (ast_exprs_tree l.es.now)

abbrev pub invariant-resolve_exprs-loop-e : goal.invariant-resolve_exprs-loop-e
invariant-resolve_exprs-loop-e l = record {
  so_far : exprs_then (exprs_tree l.all.items) (resolved_exprs l.scope l.visible (ast_exprs_tree (drop l.e-index l.es))) ≡ resolved_exprs l.scope l.visible (ast_exprs_tree l.es);
  lighter : ast_exprs_weight (ast_exprs_tree (drop l.e-index l.es)) ≤ ast_exprs_weight (ast_exprs_tree l.es);
}
