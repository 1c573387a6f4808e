use Rattle.std.proofs.Common.{◌≡◌, ◌+◌, ◌≤◌, ◌-◌, ◌^◌, min, drop}
use Rattle.yt_graph.specs.Picture.{expr_tree, exprs_tree}
use Rattle.yt_graph.specs.Parts.{expr_weight, exprs_weight}
use Rattle.yt_graph.specs.Meaning.{all_ticks}
use Rattle.yt_cost.proofs.ticks.+value_ticks.Given as goal

abbrev pub decreases-value_ticks : goal.decreases-value_ticks
decreases-value_ticks l = expr_weight (expr_tree l.e.now)

abbrev pub decreases-values_ticks : goal.decreases-values_ticks
decreases-values_ticks l = exprs_weight (exprs_tree l.es.now)

abbrev pub invariant-values_ticks-loop-e : goal.invariant-values_ticks-loop-e
invariant-values_ticks-loop-e l = record {
  so_far : min (l.sum + all_ticks (exprs_tree (drop l.e-index l.es))) (2 ^ 64 - 1) ≡ min (all_ticks (exprs_tree l.es)) (2 ^ 64 - 1);
  in_range : l.sum ≤ 2 ^ 64 - 1;
  lighter : exprs_weight (exprs_tree (drop l.e-index l.es)) ≤ exprs_weight (exprs_tree l.es);
}
