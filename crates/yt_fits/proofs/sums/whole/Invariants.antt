use Rattle.std.proofs.Common.{◌≡◌, ◌≤◌, ℕ, take}
use Rattle.yt_set.specs.Tasks.{hyperperiod}
use Rattle.yt_fits.specs.Loads.{hyperperiod_limit}
use Rattle.yt_fits.proofs.sums.whole.Given as goal

abbrev pub invariant-loop-n : goal.invariant-loop-n
invariant-loop-n l = record {
  value : l.whole ≡ hyperperiod (take l.n l.set);
  positive : 1 ≤ l.whole;
  narrow : (k : ℕ) → k ≤ l.n → hyperperiod (take k l.set) ≤ hyperperiod_limit l.set;
}
