use Rattle.std.proofs.Common.{List, sym, subst}
use Rattle.yt_log.specs.declared.job.Segment.{Segment}
use Rattle.yt_log.specs.Inside.Counts.{AreOrdered}
use Rattle.yt_log.proofs.Counting.{ordered_segments}
use Rattle.yt_log.proofs.Following.{waiting_told, late_told}
use Rattle.yt_log.proofs.judge.broken.waits.Goals as goal

pub ticks_below-requires : goal.ticks_below-requires
ticks_below-requires c = let P : List Segment → Type 0 = AreOrdered in subst P (sym c.segments.ensures) (ordered_segments _)

pub returns-then-item-tick : goal.returns-then-item-tick
returns-then-item-tick c =
    waiting_told _ _ c.args.tick c.ticks_below.result c.args.job c.in-Some.item _ _ c.items.ensures c.in-Some.ensures.some.0 c.in-Some.ensures.some.1 c.segments.ensures c.ticks_below.ensures c.requires c.if-item-tick.true

pub returns-else-item-tick : goal.returns-else-item-tick
returns-else-item-tick c =
    late_told _ _ c.args.tick c.args.job c.in-Some.item _ c.items.ensures c.in-Some.ensures.some.0 c.in-Some.ensures.some.1 c.requires c.if-item-tick.false
