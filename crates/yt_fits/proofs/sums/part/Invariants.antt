use Rattle.std.proofs.Common.{◌≡◌, ◌*◌, ◌≤◌, take}
use Rattle.yt_set.specs.Tasks.{load}
use Rattle.yt_fits.specs.Loads.{most_multiple}
use Rattle.yt_fits.proofs.sums.part.Given as goal

abbrev pub invariant-loop-n : goal.invariant-loop-n
invariant-loop-n l = record {
  value : l.part ≡ load (take l.n l.set) l.whole;
  bound : l.part ≤ l.n * (1000000 * most_multiple);
}
