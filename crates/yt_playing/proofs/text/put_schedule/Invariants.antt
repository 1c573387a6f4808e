use Rattle.std.proofs.Common.{◌≡◌, ◌++◌, drop}
use Rattle.yt_playing.specs.Inside.Cut.{lines_below}
use Rattle.yt_playing.proofs.text.put_schedule.Given as goal

-- what was put so far, and then the segments that are left, is all
abbrev pub invariant-loop-segment : goal.invariant-loop-segment
invariant-loop-segment l = l.text ++ lines_below l.labels l.stop (drop l.segment-index l.segment-items) ≡ l.fn.text ++ lines_below l.labels l.stop l.segment-items
