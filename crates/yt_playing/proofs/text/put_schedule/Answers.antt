use Rattle.std.proofs.Common.{◌≤◌, length, arith}
use Rattle.yt_playing.proofs.CutSegments.{all_put}
use Rattle.yt_playing.proofs.text.put_schedule.Goals as goal

pub returns : goal.returns
returns c =
    let out : length c.segments-segment-items.result.now ≤ c.loop-segment.segment-index = omega (arith, c.loop-segment-test.false, c.loop-segment.auto.segment-index-end) in
    all_put c.args.labels.now c.args.log.now c.args.stop c.loop-segment.segment-index c.segments-segment-items.result.now c.loop-segment.text c.args.text.now c.segments-segment-items.ensures c.requires out c.loop-segment.invariant
