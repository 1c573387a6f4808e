use Rattle.std.proofs.Common.{ap, ◌∙◌}
use Rattle.yt_log.specs.Plan.{last_arrival}
use Rattle.yt_log.proofs.PlanOrder.{last_from-last}
use Rattle.yt_log.proofs.plan.Plan.last_arrival.Goals as goal

pub returns-in-Some : goal.returns-in-Some
returns-in-Some c =
    last_from-last 0 c.deref.result.now c.in-Some.item.now c.in-Some.ensures.item.3.0 c.in-Some.ensures.item.1 ∙ ap last_arrival (c.deref.ensures.value ∙ c.self.view_is)
