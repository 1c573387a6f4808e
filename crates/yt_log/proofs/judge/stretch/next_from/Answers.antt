use Rattle.std.proofs.Common.{arith}
use Rattle.yt_log.specs.Inside.Counts.{segment_at}
use Rattle.yt_log.proofs.Reading.{next_read, next_kept}
use Rattle.yt_log.proofs.judge.stretch.next_from.Goals.{else-next-segments-via-then-next-segments+else-segments-next, else-next-segments-via-else-next-segments}
use Rattle.yt_log.proofs.judge.stretch.next_from.Goals as goal

pub returns-then-segments-next : goal.returns-then-segments-next
unfolding segment_at
returns-then-segments-next c = next_read _ _ c.args.tick c.args.next c.args.to c.segments-segments.ensures c.requires.reads c.requires.on c.requires.short c.if-next-segments.true c.if-segments-next.true

pub returns-else-next-segments : goal.returns-else-next-segments
unfolding segment_at
returns-else-next-segments c =
    next_kept _ _ c.args.tick c.args.next c.args.to c.segments-segments.ensures c.requires.reads c.requires.on (λ lt.
    elim c.else-next-segments.branch [ else-next-segments-via-then-next-segments+else-segments-next w ↦ w.if-segments-next.false | else-next-segments-via-else-next-segments w ↦ absurd (omega arith) ])
