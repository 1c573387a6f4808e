use Rattle.std.proofs.Common.{◌≡◌, ◌≤◌, ◌+◌, ◌*◌, drop}
use Rattle.yt_graph.specs.AstPicture.{ast_expr_tree, ast_exprs_tree}
use Rattle.yt_graph.specs.AstParts.{ast_expr_weight, ast_exprs_weight}
use Rattle.yt_grammar.specs.Writable.{are_exprs}
use Rattle.yt_grammar.proofs.writable.+exprs.Given as goal

abbrev pub decreases-expr_ok : goal.decreases-expr_ok
decreases-expr_ok l = 2 * ast_expr_weight (ast_expr_tree l.e.now)

abbrev pub decreases-args_ok : goal.decreases-args_ok
decreases-args_ok l = 2 * ast_exprs_weight (ast_exprs_tree l.es.now) + 1

abbrev pub decreases-exprs_ok : goal.decreases-exprs_ok
decreases-exprs_ok l = 2 * ast_exprs_weight (ast_exprs_tree l.es.now)

-- what is left decides
abbrev pub invariant-exprs_ok-loop-e : goal.invariant-exprs_ok-loop-e
invariant-exprs_ok-loop-e l = record {
  rest : are_exprs l.room (ast_exprs_tree (drop l.e-index l.es)) ≡ are_exprs l.room (ast_exprs_tree l.es);
  lighter : ast_exprs_weight (ast_exprs_tree (drop l.e-index l.es)) ≤ ast_exprs_weight (ast_exprs_tree l.es);
}
