use Rattle.std.proofs.Common.{◌≡◌, true, false, List, take, get_or, reverse, refl, sym, subst, ◌∙◌, arith}
use Rattle.std.proofs.lemmas.Bool.{both_ways}
use Rattle.std.proofs.lemmas.List.{drop_all}
use Rattle.yt_log.specs.declared.plan.PlanItem.{PlanItem}
use Rattle.yt_log.specs.Plan.{IsInOrder, IsLegalPlan}
use Rattle.yt_log.specs.Inside.LastJobs.{AreLast, may_come}
use Rattle.yt_log.proofs.PlanJudging.{IsJudged, judged_none, judged_all, judged_next, never_at, coming_number, before_more, no_item}
use Rattle.yt_log.proofs.plan.Plan.legal.Goals as goal

pub loop-item-init : goal.loop-item-init
loop-item-init c =
    let items = c.deref-item-items.result.now in
    record { last = c.new-last.ensures; judged = judged_none c.args.set.now items (subst IsInOrder (sym c.deref-item-items.ensures.value) c.self.invariant) }

pub returns-then-not-may_come : goal.returns-then-not-may_come
returns-then-not-may_come c =
    let items = c.deref-item-items.result.now in
    let i = c.loop-item.item-index in
    let before = reverse (take i items) in
    let same : items ≡ c.args.self.now = c.deref-item-items.ensures.value ∙ c.self.view_is in
    let inv = c.loop-item.invariant in
    let never : may_come c.args.set.now before (get_or items i no_item) ≡ false = sym (c.may_come.ensures.answer before inv.last) ∙ c.if-not-may_come.true in (
      λ t. absurd (both_ways false refl t),
      λ legal. absurd (both_ways _ never (never_at c.args.set.now items items i c.loop-item-test.true inv.judged (subst (IsLegalPlan c.args.set.now) (sym same) legal))),
    )

pub see-requires-clause-positive : goal.see-requires-clause-positive
see-requires-clause-positive c = c.may_come.ensures.from_one c.if-not-may_come.false

pub see-requires-clause-within : goal.see-requires-clause-within
see-requires-clause-within c = c.may_come.ensures.few c.if-not-may_come.false

pub loop-item-preserved : goal.loop-item-preserved
loop-item-preserved c =
    let items = c.deref-item-items.result.now in
    let i = c.loop-item.item-index in
    let before = reverse (take i items) in
    let x = get_or items i no_item in
    let inv = c.loop-item.invariant in
    let may : may_come c.args.set.now before x ≡ true = sym (c.may_come.ensures.answer before inv.last) ∙ c.if-not-may_come.false in
    let P : List PlanItem → Type 0 = λ xs. AreLast c.see.new.self.jobs xs in
    record {
      last = subst P (sym (before_more items i c.loop-item-test.true)) (c.see.ensures before inv.last (coming_number c.args.set.now before x may));
      judged = judged_next c.args.set.now items items i c.loop-item-test.true (c.may_come.ensures.positive c.if-not-may_come.false) may inv.judged;
    }

pub returns : goal.returns
returns c =
    let items = c.deref-item-items.result.now in
    let i = c.loop-item.item-index in
    let same : items ≡ c.args.self.now = c.deref-item-items.ensures.value ∙ c.self.view_is in
    let P : List PlanItem → Type 0 = λ rest. IsJudged c.args.set.now items (reverse (take i items)) rest in
    let legal = judged_all c.args.set.now items (reverse (take i items)) (subst P (drop_all i items (omega (arith, c.loop-item-test.false))) c.loop-item.invariant.judged) in
    (λ t. subst (IsLegalPlan c.args.set.now) same legal, λ h. refl)
