use Rattle.std.proofs.Common.{◌≤◌, take}
use Rattle.std.specs.List.{All}
use Rattle.yt_fits.specs.Inside.Streams.{IsInRange}
use Rattle.yt_fits.proofs.dearest.dearest_cost.Given as goal

abbrev pub invariant-loop-n : goal.invariant-loop-n
invariant-loop-n l = record {
  dearest : All (λ task. IsInRange l.set l.span task → task.cost ≤ l.cost) (take l.n l.set);
  cost : l.cost ≤ 1000000;
}
