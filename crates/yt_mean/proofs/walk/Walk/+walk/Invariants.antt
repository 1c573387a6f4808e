use Rattle.std.proofs.Common.{◌≡◌, ◌+◌, ◌-◌, ◌*◌, ◌^◌, ◌<◌, ◌≤◌, length, drop}
use Rattle.yt_graph.specs.Picture.{stmt_tree, block_tree}
use Rattle.yt_graph.specs.Parts.{stmt_weight, block_weight}
use Rattle.yt_graph.specs.Meaning.{turns, block_run}
use Rattle.yt_graph.specs.Cost.{block_cost}
use Rattle.yt_mean.specs.Inside.Progress.{after, turn_run}
use Rattle.yt_mean.specs.Inside.Within.{IsBlockWithin}
use Rattle.yt_mean.proofs.walk.Walk.+walk.Given as goal

abbrev pub decreases-stmt : goal.decreases-stmt
decreases-stmt l = 3 * stmt_weight (stmt_tree l.s.now)

abbrev pub decreases-block : goal.decreases-block
decreases-block l = 3 * block_weight (block_tree l.b.now)

abbrev pub decreases-repeat : goal.decreases-repeat
decreases-repeat l = 3 * block_weight (block_tree l.body.now) + 1

abbrev pub invariant-block-loop-s : goal.invariant-block-loop-s
invariant-block-loop-s l = record {
  within : IsBlockWithin (length l.self.locals) (length l.self.vars) (block_tree (drop l.s-index l.b));
  room : l.self.ticks + block_cost (block_tree (drop l.s-index l.b)) < 2 ^ 64;
  so_far : after (block_run (block_tree (drop l.s-index l.b))) l.self ≡ after (block_run (block_tree l.b)) l.fn.self;
  lighter : block_weight (block_tree (drop l.s-index l.b)) ≤ block_weight (block_tree l.b);
}

abbrev pub invariant-repeat-loop : goal.invariant-repeat-loop
invariant-repeat-loop l = record {
  within : IsBlockWithin (length l.self.locals) (length l.self.vars) (block_tree l.body);
  room : l.self.ticks + (l.n - l.counter) * (block_cost (block_tree l.body) + 1) < 2 ^ 64;
  so_far : after (turns (l.n - l.counter) (turn_run (block_tree l.body))) l.self ≡ after (turns l.n (turn_run (block_tree l.body))) l.fn.self;
}
