use Rattle.std.proofs.Common.{◌≡◌, take}
use Rattle.yt_exec.proofs.executive.tasks_of.Given as goal

abbrev pub invariant-loop-task : goal.invariant-loop-task
invariant-loop-task l = l.tasks.items ≡ take l.task l.set
