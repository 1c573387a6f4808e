use Rattle.std.proofs.Common.{arith, ap}
use Rattle.std.proofs.lemmas.List.{drop_all}
use Rattle.yt_log.specs.Inside.Counts.{segment_at, ticks_below}
use Rattle.yt_log.proofs.Counting.{counted_more, ordered_more, counted_all, ticks_below-nil, ticks_few}
use Rattle.yt_log.proofs.judge.counts.ticks_below.Goals as goal

pub returns-then-t-segment : goal.returns-then-t-segment
unfolding segment_at
returns-then-t-segment c =
    let none = counted_all c.args.segments.now c.loop-segment.segment-index c.args.job c.args.t c.loop-segment-test.true c.loop-segment.invariant.ordered c.if-t-segment.true in
    let all = c.loop-segment.invariant.counted in
    omega arith

pub overflow_add-ticks : goal.overflow_add-ticks
unfolding segment_at
overflow_add-ticks c =
    let next = counted_more c.args.segments.now c.loop-segment.segment-index c.args.job c.args.t c.loop-segment-test.true in
    let few = ticks_few c.args.segments.now c.args.job c.args.t c.requires in
    let all = c.loop-segment.invariant.counted in
    let one = c.share-ticks.ensures in
    omega arith

pub loop-segment-preserved : goal.loop-segment-preserved
unfolding segment_at
loop-segment-preserved c =
    let next = counted_more c.args.segments.now c.loop-segment.segment-index c.args.job c.args.t c.loop-segment-test.true in
    let all = c.loop-segment.invariant.counted in
    let one = c.share-ticks.ensures in
    record {
      counted = omega arith;
      ordered = ordered_more c.args.segments.now c.loop-segment.segment-index c.loop-segment.invariant.ordered;
    }

pub returns : goal.returns
returns c =
    let none = ap (λ ss. ticks_below ss c.args.job c.args.t) (drop_all c.loop-segment.segment-index c.args.segments.now c.loop-segment-test.false) in
    let zero = ticks_below-nil c.args.job c.args.t in
    let all = c.loop-segment.invariant.counted in
    omega arith
