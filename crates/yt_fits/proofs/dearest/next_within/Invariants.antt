use Rattle.std.proofs.Common.{◌≤◌, take}
use Rattle.std.specs.List.{All}
use Rattle.yt_set.specs.Tasks.{within}
use Rattle.yt_fits.proofs.dearest.next_within.Given as goal

abbrev pub invariant-loop-n : goal.invariant-loop-n
invariant-loop-n l = record {
  later : l.span ≤ l.next;
  least : All (λ task. l.span ≤ within task → l.next ≤ within task) (take l.n l.set);
}
