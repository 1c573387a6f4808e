use Rattle.std.proofs.Common.{◌≡◌, List, get_or, subst, ◌∙◌}
use Rattle.yt_log.specs.declared.plan.PlanItem.{PlanItem}
use Rattle.yt_log.specs.Tasks.{Has}
use Rattle.yt_log.proofs.Plans.{good_item}
use Rattle.yt_log.proofs.PlanJudging.{has_at, no_item}
use Rattle.yt_log.proofs.plan.Plan.horizon.Goals as goal

pub deadline-requires-clause-positive : goal.deadline-requires-clause-positive
deadline-requires-clause-positive c =
    let items = c.deref-item-items.result.now in
    let same : items ≡ c.args.self.now = c.deref-item-items.ensures.value ∙ c.self.view_is in
    let P : List PlanItem → Type 0 = λ xs. Has xs (get_or items c.loop-item.item-index no_item) in
    (good_item c.args.set.now c.args.self.now c.requires.legal (get_or items c.loop-item.item-index no_item) (subst P same (has_at items c.loop-item.item-index c.loop-item-test.true))).from_one

pub deadline-requires-clause-within : goal.deadline-requires-clause-within
deadline-requires-clause-within c =
    let items = c.deref-item-items.result.now in
    let same : items ≡ c.args.self.now = c.deref-item-items.ensures.value ∙ c.self.view_is in
    let P : List PlanItem → Type 0 = λ xs. Has xs (get_or items c.loop-item.item-index no_item) in
    (good_item c.args.set.now c.args.self.now c.requires.legal (get_or items c.loop-item.item-index no_item) (subst P same (has_at items c.loop-item.item-index c.loop-item-test.true))).in_set
