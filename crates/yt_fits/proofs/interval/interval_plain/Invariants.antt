use Rattle.std.proofs.Common.{◌-◌, ◌≤◌, ℕ}
use Rattle.yt_fits.specs.Intervals.{HaveRoom}
use Rattle.yt_fits.proofs.interval.interval_plain.Given as goal

abbrev pub invariant-loop-point : goal.invariant-loop-point
invariant-loop-point l = record {
  short : l.point ≤ 1000000;
  rooms : (span : ℕ) → span ≤ l.point → HaveRoom l.set span l.set;
}

abbrev pub decreases-loop-point : goal.decreases-loop-point
decreases-loop-point l = l.longest - l.point
