use Rattle.std.proofs.Common.{◌≡◌, ◌+◌, ◌++◌, drop}
use Rattle.yt_witness.specs.Witnesses.{arrivals_of}
use Rattle.yt_fitting.specs.TaskText.{arrive_lines}
use Rattle.yt_fitting.proofs.overload.put_arrivals.Given as goal

-- what was put so far, and then the tasks that are left, is all
abbrev pub invariant-loop-n : goal.invariant-loop-n
invariant-loop-n l = l.text ++ arrive_lines l.labels (l.n + 1) (drop l.n (arrivals_of l.set l.pattern)) ≡ l.fn.text ++ arrive_lines l.labels 1 (arrivals_of l.set l.pattern)
