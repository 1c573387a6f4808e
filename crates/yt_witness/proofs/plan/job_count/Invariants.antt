use Rattle.std.proofs.Common.{◌≡◌, ◌*◌, ◌≤◌, take}
use Rattle.std.specs.List.{sum_by}
use Rattle.yt_fits.specs.Loads.{most_multiple}
use Rattle.yt_witness.specs.Witnesses.{arrivals_of}
use Rattle.yt_witness.proofs.plan.job_count.Given as goal

-- the jobs of the tasks so far, of each no more than a hyperperiod can have
abbrev pub invariant-loop-n : goal.invariant-loop-n
invariant-loop-n l = record {
  jobs : l.jobs ≡ sum_by (λ a. a.count) (take l.n (arrivals_of l.set l.pattern));
  few : l.jobs ≤ l.n * most_multiple;
}
