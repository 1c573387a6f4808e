use Rattle.std.proofs.Common.{◌≡◌, ◌+◌, ◌≤◌, ◌-◌, ◌^◌, min, drop}
use Rattle.yt_graph.specs.Picture.{stmt_tree, block_tree}
use Rattle.yt_graph.specs.Parts.{stmt_weight, block_weight}
use Rattle.yt_graph.specs.Cost.{block_cost}
use Rattle.yt_cost.proofs.ticks.+stmt_ticks.Given as goal

abbrev pub decreases-stmt_ticks : goal.decreases-stmt_ticks
decreases-stmt_ticks l = stmt_weight (stmt_tree l.s.now)

abbrev pub decreases-block_ticks : goal.decreases-block_ticks
decreases-block_ticks l = block_weight (block_tree l.b.now)

abbrev pub invariant-block_ticks-loop-s : goal.invariant-block_ticks-loop-s
invariant-block_ticks-loop-s l = record {
  so_far : min (l.sum + block_cost (block_tree (drop l.s-index l.b))) (2 ^ 64 - 1) ≡ min (block_cost (block_tree l.b)) (2 ^ 64 - 1);
  in_range : l.sum ≤ 2 ^ 64 - 1;
  lighter : block_weight (block_tree (drop l.s-index l.b)) ≤ block_weight (block_tree l.b);
}
