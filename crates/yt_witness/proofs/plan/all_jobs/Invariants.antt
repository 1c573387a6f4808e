use Rattle.std.proofs.Common.{◌≡◌, suc, ◌≤◌, drop, length}
use Rattle.yt_log.specs.Patterns.{all_arriving, item_before}
use Rattle.yt_order.specs.Sorting.{sort_by}
use Rattle.yt_witness.specs.Witnesses.{arrivals_of}
use Rattle.yt_witness.proofs.plan.all_jobs.Given as goal

-- the jobs of the tasks behind this one, in order
abbrev pub invariant-loop-task : goal.invariant-loop-task
invariant-loop-task l = record {
  within : l.task ≤ length l.set;
  jobs : l.items.items ≡ sort_by item_before (all_arriving (suc l.task) (drop l.task (arrivals_of l.set l.pattern)));
}

abbrev pub decreases-loop-task : goal.decreases-loop-task
decreases-loop-task l = l.task
