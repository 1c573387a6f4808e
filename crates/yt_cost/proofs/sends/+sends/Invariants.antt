use Rattle.std.proofs.Common.{◌≡◌, ◌+◌, ◌≤◌, ◌-◌, ◌^◌, min, drop}
use Rattle.yt_graph.specs.Picture.{stmt_tree, block_tree}
use Rattle.yt_graph.specs.Parts.{stmt_weight, block_weight}
use Rattle.yt_graph.specs.Cost.{block_sends}
use Rattle.yt_cost.proofs.sends.+sends.Given as goal

abbrev pub decreases-sends_in : goal.decreases-sends_in
decreases-sends_in l = stmt_weight (stmt_tree l.s.now)

abbrev pub decreases-sends_in_all : goal.decreases-sends_in_all
decreases-sends_in_all l = block_weight (block_tree l.b.now)

abbrev pub invariant-sends_in_all-loop-s : goal.invariant-sends_in_all-loop-s
invariant-sends_in_all-loop-s l = record {
  so_far : min (l.sum + block_sends l.out (block_tree (drop l.s-index l.b))) (2 ^ 32 - 1) ≡ min (block_sends l.out (block_tree l.b)) (2 ^ 32 - 1);
  in_range : l.sum ≤ 2 ^ 32 - 1;
  lighter : block_weight (block_tree (drop l.s-index l.b)) ≤ block_weight (block_tree l.b);
}
