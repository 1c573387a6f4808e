use Rattle.std.proofs.Common.{List, subst, sym, ◌∙◌, arith}
use Rattle.yt_log.specs.declared.plan.PlanItem.{PlanItem}
use Rattle.yt_log.specs.Limits.{most_arrival}
use Rattle.yt_log.specs.Patterns.{MustMiss, all_arriving}
use Rattle.yt_log.specs.Plan.{IsInOrder, IsLegalPlan}
use Rattle.yt_witness.specs.Witnesses.{arrivals_of, horizon}
use Rattle.yt_witness.proofs.Merging.{sorted_in_order}
use Rattle.yt_witness.proofs.Misses.{pattern_misses}
use Rattle.yt_witness.proofs.Plans.{all_early}
use Rattle.yt_witness.proofs.plan.plan_of.Goals as goal

pub in_order-requires : goal.in_order-requires
in_order-requires c =
    subst (λ (l : List PlanItem). IsInOrder l) (sym (c.deref.ensures.value ∙ c.in_ok-items.ensures))
    (sorted_in_order (all_arriving 1 (arrivals_of c.args.set.now c.args.pattern.now)))

pub returns-clause-legal : goal.returns-clause-legal
returns-clause-legal c =
    let tasks = c.args.set.now in
    let pattern = c.args.pattern.now in
    let is = c.in_ok-in_order.ensures ∙ c.deref.ensures.value ∙ c.in_ok-items.ensures in
    let must = pattern_misses tasks c.len.ensures.in_range pattern c.requires in
    subst (λ (l : List PlanItem). IsLegalPlan tasks l) (sym is) (record { legal = must.legal; early = all_early tasks pattern c.requires most_arrival (omega arith) })

pub returns-clause-misses : goal.returns-clause-misses
returns-clause-misses c =
    let tasks = c.args.set.now in
    let pattern = c.args.pattern.now in
    let is = c.in_ok-in_order.ensures ∙ c.deref.ensures.value ∙ c.in_ok-items.ensures in
    subst (λ (l : List PlanItem). MustMiss tasks l (horizon pattern)) (sym is) (pattern_misses tasks c.len.ensures.in_range pattern c.requires)
