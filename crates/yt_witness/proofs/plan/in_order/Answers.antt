use Rattle.std.proofs.Common.{List, get_or, sym, subst, arith, ◌≤◌}
use Rattle.yt_log.specs.declared.plan.PlanItem.{PlanItem}
use Rattle.yt_log.specs.Plan.{last_arrival}
use Rattle.yt_witness.proofs.Merging.{next_in_order}
use Rattle.yt_witness.proofs.plan.in_order.Goals as goal

pub push-requires : goal.push-requires
push-requires c =
    let none : PlanItem = record { job = record { task = 0; number = 0 }; arrival = 0; cost = 0 } in
    let next = next_in_order 0 c.args.items.now c.loop-item.item-index none c.requires (omega arith) in
    subst (λ (xs : List PlanItem). last_arrival xs ≤ (get_or c.args.items.now c.loop-item.item-index none).arrival) (sym c.loop-item.invariant) next
