use Rattle.std.proofs.Common.{◌≡◌, ◌≤◌, drop}
use Rattle.yt_graph.specs.Picture.{expr_tree, exprs_tree}
use Rattle.yt_graph.specs.Parts.{expr_weight, exprs_weight}
use Rattle.yt_graph.specs.WellFormed.{exprs_use_var}
use Rattle.yt_names.proofs.uses_var.+expr_uses_var.Given as goal

abbrev pub decreases-expr_uses_var : goal.decreases-expr_uses_var
decreases-expr_uses_var l = expr_weight (expr_tree l.e.now)

abbrev pub decreases-exprs_use_var : goal.decreases-exprs_use_var
decreases-exprs_use_var l = exprs_weight (exprs_tree l.es.now)

abbrev pub invariant-exprs_use_var-loop-e : goal.invariant-exprs_use_var-loop-e
invariant-exprs_use_var-loop-e l = record {
  left : exprs_use_var (exprs_tree (drop l.e-index l.es)) ≡ exprs_use_var (exprs_tree l.es);
  lighter : exprs_weight (exprs_tree (drop l.e-index l.es)) ≤ exprs_weight (exprs_tree l.es);
}
