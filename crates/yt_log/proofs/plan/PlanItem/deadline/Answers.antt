use Rattle.std.proofs.Common.{sym, ◌∙◌}
use Rattle.yt_log.proofs.Places.{deadline_read}
use Rattle.yt_log.proofs.plan.PlanItem.deadline.Goals as goal

pub returns : goal.returns
returns c = c.deadline.ensures ∙ sym (deadline_read c.args.set.now c.args.self.now c.task.result c.task.ensures.value)
