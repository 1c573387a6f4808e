use Rattle.std.proofs.Common.{◌≡◌, ◌+◌, ◌-◌, ◌≤◌, ℕ}
use Rattle.yt_fits.specs.Intervals.{HaveRoom}
use Rattle.yt_fits.specs.Inside.Walks.{IsAt, IsDearest}
use Rattle.yt_fits.proofs.walking.interval_walk.Given as goal

-- no task lacks room in the spans up to the point
abbrev pub invariant-loop-walk : goal.invariant-loop-walk
invariant-loop-walk l = record {
  set : l.walk.set.now ≡ l.set;
  at : IsAt l.walk.set.now l.walk.streams.items l.walk.nexts.nodes l.walk.demand l.walk.point;
  rooms : (span : ℕ) → span ≤ l.walk.point → HaveRoom l.walk.set.now span l.walk.set.now;
  dearest : IsDearest l.walk.set.now (l.walk.point + 1) l.dearest;
  cost : l.dearest.cost ≤ 1000000;
}

abbrev pub decreases-loop-walk : goal.decreases-loop-walk
decreases-loop-walk l = 5000000000000000 - l.walk.demand
