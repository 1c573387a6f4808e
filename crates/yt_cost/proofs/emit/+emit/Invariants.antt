use Rattle.std.proofs.Common.{◌≡◌, ◌+◌, ◌≤◌, ◌++◌, drop}
use Rattle.yt_graph.specs.Picture.{stmt_tree, block_tree}
use Rattle.yt_graph.specs.Parts.{stmt_weight, block_weight}
use Rattle.yt_cost.specs.CodeSizes.{block_size}
use Rattle.yt_cost.specs.Code.{block_code}
use Rattle.yt_cost.proofs.emit.+emit.Given as goal

abbrev pub decreases-emit_stmt : goal.decreases-emit_stmt
decreases-emit_stmt l = stmt_weight (stmt_tree l.s.now)

abbrev pub decreases-emit_block : goal.decreases-emit_block
decreases-emit_block l = block_weight (block_tree l.b.now)

abbrev pub invariant-emit_block-loop-s : goal.invariant-emit_block-loop-s
invariant-emit_block-loop-s l = record {
  place : l.at + block_size (block_tree (drop l.s-index l.b)) ≡ l.p + block_size (block_tree l.b);
  so_far : l.code ++ block_code (block_tree (drop l.s-index l.b)) l.at ≡ l.fn.code ++ block_code (block_tree l.b) l.p;
  lighter : block_weight (block_tree (drop l.s-index l.b)) ≤ block_weight (block_tree l.b);
}
