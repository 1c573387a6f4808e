use Rattle.std.proofs.Common.{◌≡◌, ◌+◌, ◌-◌, ◌≤◌, ◌++◌, drop, length}
use Rattle.yt_witness.specs.Inside.Merging.{with_all}
use Rattle.yt_witness.proofs.merge.merge.Given as goal

-- what was put so far, and then what is left of both, is all
abbrev pub invariant-left : goal.invariant-left
invariant-left l = record {
  first : l.i ≤ length l.first;
  second : l.j ≤ length l.second;
  all : l.all.items ++ with_all (drop l.i l.first) (drop l.j l.second) ≡ with_all l.first l.second;
}

abbrev pub decreases-left : goal.decreases-left
decreases-left l = (length l.first - l.i) + (length l.second - l.j)
