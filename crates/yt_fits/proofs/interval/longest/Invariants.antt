use Rattle.std.proofs.Common.{◌≤◌, take}
use Rattle.std.specs.List.{All}
use Rattle.yt_set.specs.Tasks.{within}
use Rattle.yt_fits.proofs.interval.longest.Given as goal

abbrev pub invariant-loop-n : goal.invariant-loop-n
invariant-loop-n l = record {
  longest : All (λ task. 1 ≤ task.resource → within task ≤ l.longest) (take l.n l.set);
  bound : l.longest ≤ 1000000;
}
