use Rattle.std.proofs.Common.{◌≡◌, ◌*◌, ◌≤◌, take}
use Rattle.yt_set.specs.Tasks.{demand_bound}
use Rattle.yt_fits.proofs.interval.demand.Given as goal

abbrev pub invariant-loop-n : goal.invariant-loop-n
invariant-loop-n l = record {
  value : l.demand ≡ demand_bound (take l.n l.set) l.ticks;
  bound : l.demand ≤ l.n * 1000000000000;
}
