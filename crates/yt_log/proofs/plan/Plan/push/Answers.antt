use Rattle.std.proofs.Common.{◌≤◌, List, sym, subst}
use Rattle.yt_log.specs.declared.plan.PlanItem.{PlanItem}
use Rattle.yt_log.specs.Plan.{IsInOrder, last_arrival}
use Rattle.yt_log.proofs.PlanOrder.{arrive_more}
use Rattle.yt_log.proofs.plan.Plan.push.Goals as goal

pub invariant_of-self-2 : goal.invariant_of-self-2
invariant_of-self-2 c =
    let P : List PlanItem → Type 0 = λ xs. last_arrival xs ≤ c.args.item.arrival in
    let behind = subst P (sym c.self.view_is) c.requires in
    subst IsInOrder (sym c.in_ok-push.ensures.items) (arrive_more 0 c.self.inside.items.items c.args.item c.self.invariant behind)
