use Rattle.std.proofs.Common.{◌≡◌, ◌≤◌, drop}
use Rattle.yt_graph.specs.Picture.{stmt_tree, block_tree}
use Rattle.yt_graph.specs.Parts.{stmt_weight, block_weight}
use Rattle.yt_graph.specs.WellFormed.{block_uses_var}
use Rattle.yt_names.proofs.uses_var.+uses_var.Given as goal

abbrev pub decreases-stmt_uses_var : goal.decreases-stmt_uses_var
decreases-stmt_uses_var l = stmt_weight (stmt_tree l.s.now)

abbrev pub decreases-block_uses_var : goal.decreases-block_uses_var
decreases-block_uses_var l = block_weight (block_tree l.b.now)

abbrev pub invariant-block_uses_var-loop-s : goal.invariant-block_uses_var-loop-s
invariant-block_uses_var-loop-s l = record {
  left : block_uses_var (block_tree (drop l.s-index l.b)) ≡ block_uses_var (block_tree l.b);
  lighter : block_weight (block_tree (drop l.s-index l.b)) ≤ block_weight (block_tree l.b);
}
