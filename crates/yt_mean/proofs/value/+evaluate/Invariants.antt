use Rattle.yt_graph.specs.Picture.{expr_tree, exprs_tree}
use Rattle.yt_graph.specs.Parts.{expr_weight, exprs_weight}
use Rattle.yt_mean.proofs.value.+evaluate.Given as goal

abbrev pub decreases-value : goal.decreases-value
decreases-value l = expr_weight (expr_tree l.e.now)

abbrev pub decreases-argument : goal.decreases-argument
decreases-argument l = exprs_weight (exprs_tree l.args.now)
