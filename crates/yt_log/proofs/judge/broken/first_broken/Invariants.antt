use Rattle.std.proofs.Common.{◌-◌}
use Rattle.yt_log.specs.Segments.{segments_of}
use Rattle.yt_log.specs.Inside.Following.{Follows, Reads}
use Rattle.yt_log.proofs.judge.broken.first_broken.Given as goal

abbrev pub invariant-loop-tick : goal.invariant-loop-tick
invariant-loop-tick l = record {
  follows : Follows l.set l.plan l.log l.tick l.heads;
  reads : Reads l.log (segments_of l.log) l.tick l.next;
}

abbrev pub decreases-loop-tick : goal.decreases-loop-tick
decreases-loop-tick l = l.until - l.tick
