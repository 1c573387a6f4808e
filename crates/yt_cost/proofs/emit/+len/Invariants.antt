use Rattle.std.proofs.Common.{◌≡◌, ◌+◌, ◌≤◌, drop}
use Rattle.yt_graph.specs.Picture.{stmt_tree, block_tree}
use Rattle.yt_graph.specs.Parts.{stmt_weight, block_weight}
use Rattle.yt_cost.specs.CodeSizes.{block_size}
use Rattle.yt_cost.proofs.emit.+len.Given as goal

abbrev pub decreases-stmt_len : goal.decreases-stmt_len
decreases-stmt_len l = stmt_weight (stmt_tree l.s.now)

abbrev pub decreases-block_len : goal.decreases-block_len
decreases-block_len l = block_weight (block_tree l.b.now)

abbrev pub invariant-block_len-loop-s : goal.invariant-block_len-loop-s
invariant-block_len-loop-s l = record {
  so_far : l.sum + block_size (block_tree (drop l.s-index l.b)) ≡ block_size (block_tree l.b);
  lighter : block_weight (block_tree (drop l.s-index l.b)) ≤ block_weight (block_tree l.b);
}
