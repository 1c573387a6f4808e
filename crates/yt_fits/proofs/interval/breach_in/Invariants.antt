use Rattle.std.proofs.Common.{take}
use Rattle.yt_fits.specs.Intervals.{HaveRoom}
use Rattle.yt_fits.proofs.interval.breach_in.Given as goal

abbrev pub invariant-loop-n : goal.invariant-loop-n
invariant-loop-n l = HaveRoom l.set l.span (take l.n l.set)
