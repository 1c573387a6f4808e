use Rattle.std.proofs.Common.{◌≤◌, sym, subst, arith}
use Rattle.yt_set.specs.declared.task.Task.{Task}
use Rattle.yt_log.proofs.Demands.{task_read}
use Rattle.yt_log.proofs.PlanJudging.{comes_by_tests}
use Rattle.yt_log.proofs.last_jobs.LastJobs.may_come.Goals as goal

pub returns-clause-answer : goal.returns-clause-answer
returns-clause-answer c = λ before are.
    comes_by_tests c.args.set.now before c.args.item c.task.result c.args.self.now.jobs c.of.result c.may_precede.result
    (omega arith) (omega arith) (omega arith) c.task.ensures.value are c.of.ensures c.may_precede.ensures

pub returns-clause-positive : goal.returns-clause-positive
returns-clause-positive c = λ t.
    let P : Task → Type 0 = λ its. 1 ≤ its.period in
    subst P (sym (task_read c.args.set.now c.args.item.job.task c.task.result c.task.ensures.value)) c.task.ensures.in_range.2
