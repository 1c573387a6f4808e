use Rattle.std.proofs.Common.{◌≡◌, ◌+◌, ◌≤◌, drop}
use Rattle.yt_graph.specs.Picture.{expr_tree, exprs_tree}
use Rattle.yt_graph.specs.Parts.{expr_weight, exprs_weight}
use Rattle.yt_cost.specs.CodeSizes.{exprs_size}
use Rattle.yt_cost.proofs.emit.+value_len.Given as goal

abbrev pub decreases-expr_len : goal.decreases-expr_len
decreases-expr_len l = expr_weight (expr_tree l.e.now)

abbrev pub decreases-exprs_len : goal.decreases-exprs_len
decreases-exprs_len l = exprs_weight (exprs_tree l.es.now)

abbrev pub invariant-exprs_len-loop-e : goal.invariant-exprs_len-loop-e
invariant-exprs_len-loop-e l = record {
  so_far : l.sum + exprs_size (exprs_tree (drop l.e-index l.es)) ≡ exprs_size (exprs_tree l.es);
  lighter : exprs_weight (exprs_tree (drop l.e-index l.es)) ≤ exprs_weight (exprs_tree l.es);
}
