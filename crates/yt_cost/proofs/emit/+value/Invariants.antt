use Rattle.std.proofs.Common.{◌≡◌, ◌<◌, ◌≤◌, ◌^◌, ◌++◌, drop}
use Rattle.yt_graph.specs.Picture.{expr_tree, exprs_tree}
use Rattle.yt_graph.specs.Parts.{expr_weight, exprs_weight}
use Rattle.yt_cost.specs.CodeSizes.{exprs_size}
use Rattle.yt_cost.specs.Code.{exprs_code}
use Rattle.yt_cost.proofs.emit.+value.Given as goal

abbrev pub decreases-emit_expr : goal.decreases-emit_expr
decreases-emit_expr l = expr_weight (expr_tree l.e.now)

abbrev pub decreases-emit_exprs : goal.decreases-emit_exprs
decreases-emit_exprs l = exprs_weight (exprs_tree l.es.now)

abbrev pub invariant-emit_exprs-loop-e : goal.invariant-emit_exprs-loop-e
invariant-emit_exprs-loop-e l = record {
  room : exprs_size (exprs_tree (drop l.e-index l.es)) < 2 ^ 32;
  so_far : l.code ++ exprs_code (exprs_tree (drop l.e-index l.es)) ≡ l.fn.code ++ exprs_code (exprs_tree l.es);
  lighter : exprs_weight (exprs_tree (drop l.e-index l.es)) ≤ exprs_weight (exprs_tree l.es);
}
