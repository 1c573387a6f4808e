use Rattle.std.proofs.Common.{◌≡◌, ◌+◌, drop}
use Rattle.yt_log.specs.Inside.Counts.{AreOrdered, ticks_below}
use Rattle.yt_log.proofs.judge.counts.ticks_below.Given as goal

-- what was counted so far, and what is left to count, is all
abbrev pub invariant-loop-segment : goal.invariant-loop-segment
invariant-loop-segment l = record {
  counted : l.ticks + ticks_below (drop l.segment-index l.segments) l.job l.t ≡ ticks_below l.segments l.job l.t;
  ordered : AreOrdered (drop l.segment-index l.segments);
}
