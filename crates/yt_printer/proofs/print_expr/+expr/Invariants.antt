use Rattle.std.proofs.Common.{◌≡◌, ◌≤◌, ◌++◌, drop}
use Rattle.yt_graph.specs.AstPicture.{ast_expr_tree, ast_exprs_tree}
use Rattle.yt_graph.specs.AstParts.{ast_expr_weight, ast_exprs_weight}
use Rattle.yt_grammar.specs.CanonicalText.{more_layout, text_of}
use Rattle.yt_printer.proofs.print_expr.+expr.Given as goal

abbrev pub decreases-print_expr : goal.decreases-print_expr
decreases-print_expr l = ast_expr_weight (ast_expr_tree l.e.now)

abbrev pub decreases-print_exprs : goal.decreases-print_exprs
decreases-print_exprs l = ast_exprs_weight (ast_exprs_tree l.es.now)

-- what was put so far, and then the expressions that are left, is all
abbrev pub invariant-print_exprs-loop-e : goal.invariant-print_exprs-loop-e
invariant-print_exprs-loop-e l = record {
  so_far : l.out ++ text_of (more_layout (ast_exprs_tree (drop l.e-index l.rest))) ≡ l.initial.out ++ text_of (more_layout (ast_exprs_tree l.rest));
  lighter : ast_exprs_weight (ast_exprs_tree (drop l.e-index l.rest)) ≤ ast_exprs_weight (ast_exprs_tree l.rest);
}
