use Rattle.std.proofs.Common.{◌<◌, ◌≤◌, take}
use Rattle.yt_fits.specs.Inside.Streams.{IsBeforeNext}
use Rattle.yt_fits.proofs.interval.next_point.Given as goal

abbrev pub invariant-loop-n : goal.invariant-loop-n
invariant-loop-n l = record {
  later : l.point < l.next;
  end : l.next ≤ l.end;
  first : IsBeforeNext (take l.n l.set) l.point l.next;
}
