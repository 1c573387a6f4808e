use Rattle.std.proofs.Common.{List, subst, sym}
use Rattle.yt_log.specs.declared.job.Segment.{Segment}
use Rattle.yt_log.specs.Inside.Counts.{segment_at}
use Rattle.yt_log.specs.Inside.Following.{Reads}
use Rattle.yt_log.proofs.Reading.{idle_to_end, idle_to_segment, job_to_end}
use Rattle.yt_log.proofs.judge.stretch.stretch_from.Goals as goal

pub returns-then-next-segments-clause-stretch : goal.returns-then-next-segments-clause-stretch
returns-then-next-segments-clause-stretch c =
    let P : List Segment → Type 0 = λ ss. Reads c.args.log.now ss c.args.tick c.args.next in
    idle_to_end _ _ _ c.args.next _ (subst P (sym c.segments-segments.ensures) c.requires.reads) c.requires.below c.if-next-segments.true c.until.ensures

pub returns-then-tick-segment-clause-stretch : goal.returns-then-tick-segment-clause-stretch
unfolding segment_at
returns-then-tick-segment-clause-stretch c =
    let P : List Segment → Type 0 = λ ss. Reads c.args.log.now ss c.args.tick c.args.next in
    idle_to_segment _ _ _ c.args.next (subst P (sym c.segments-segments.ensures) c.requires.reads) c.if-next-segments.false c.if-tick-segment.true

pub returns-else-tick-segment-clause-stretch : goal.returns-else-tick-segment-clause-stretch
unfolding segment_at
returns-else-tick-segment-clause-stretch c =
    let P : List Segment → Type 0 = λ ss. Reads c.args.log.now ss c.args.tick c.args.next in
    job_to_end _ _ _ c.args.next (subst P (sym c.segments-segments.ensures) c.requires.reads) c.if-next-segments.false c.if-tick-segment.false
