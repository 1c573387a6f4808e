use Rattle.std.proofs.Common.{◌+◌, drop, arith, ap, ◌∙◌}
use Rattle.yt_graph.specs.Picture.{expr_tree, stmt_tree, block_tree}
use Rattle.yt_graph.specs.Meaning.{expr_ticks, spend}
use Rattle.yt_graph.specs.Cost.{stmt_cost}
use Rattle.yt_graph.specs.Parts.{block_weight}
use Rattle.yt_graph.proofs.Lemmas.{block_ticks}
use Rattle.yt_mean.specs.Inside.Progress.{run_of, after}
use Rattle.yt_mean.proofs.Turns.{front, next_within, next_room, next_run, turn_within, turn_room, turn_goes, turn_spends}
use Rattle.yt_mean.proofs.walk.Walk.+walk.Goals as goal

-- the first block's ticks are within its greatest cost, so one more has room
pub stmt-spend-requires : goal.stmt-spend-requires
stmt-spend-requires t c =
    let i = c.in-Else in
    rw (c.in_ok-block-in-Else.ensures, c.holds-in-Else.ensures.spent) (omega (arith, ap stmt_cost i.ensures, block_ticks (block_tree i.first.now) (spend (expr_ticks (expr_tree i.e.now) + 1) (run_of c.args.self.now))))

pub repeat-spend-requires : goal.repeat-spend-requires
repeat-spend-requires t c =
    turn_spends (block_tree c.args.body.now) c.args.n c.loop.counter c.loop.self c.block.new.self c.loop-test.true c.in_ok-block.ensures c.loop.invariant.room

pub repeat-loop-preserved : goal.repeat-loop-preserved
repeat-loop-preserved t c =
    let body = block_tree c.args.body.now in
    let e = c.spend.ensures ∙ ap (after (spend 1)) c.in_ok-block.ensures in
    record {
      within = turn_within body c.args.n c.loop.counter c.loop-test.true c.loop.self c.spend.new.self e c.loop.invariant.within;
      room = turn_room body c.args.n c.loop.counter c.loop-test.true c.loop.self c.spend.new.self e c.loop.invariant.room;
      so_far = turn_goes body c.args.n c.loop.counter c.loop-test.true c.loop.self c.spend.new.self e ∙ c.loop.invariant.so_far;
    }

pub block-loop-s-preserved : goal.block-loop-s-preserved
block-loop-s-preserved t c =
    let b = c.args.b.now in
    let i = c.loop-s.s-index in
    let tree = front b i c.s-item.result c.loop-s-test.true c.s-item.is in
    let rest = block_tree (drop (i + 1) b) in
    let a = stmt_tree c.s-item.result in
    record {
      within = next_within rest a c.loop-s.self c.stmt.new.self c.in_ok-stmt.ensures _ tree c.loop-s.invariant.within;
      room = next_room rest a c.loop-s.self c.stmt.new.self c.in_ok-stmt.ensures _ tree c.loop-s.invariant.room;
      so_far = next_run rest a c.loop-s.self c.stmt.new.self c.in_ok-stmt.ensures _ tree ∙ c.loop-s.invariant.so_far;
      lighter = omega (arith, ap block_weight tree);
    }
