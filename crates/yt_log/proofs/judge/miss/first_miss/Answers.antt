use Rattle.std.proofs.Common.{◌≡◌, ℕ, ◌+◌, ◌-◌, ◌<◌, ◌≤◌, slice_index, List, Option, length, refl, sym, ap, subst, arith}
use Rattle.yt_log.specs.declared.job.Segment.{Segment}
use Rattle.yt_log.specs.declared.judge.miss.Miss.{Miss}
use Rattle.yt_log.specs.declared.plan.PlanItem.{PlanItem}
use Rattle.yt_log.specs.Inside.Counts.{segment_at, AreOrdered, AreJudged, Judges, Passes}
use Rattle.yt_log.specs.Inside.Heads.{item_at}
use Rattle.yt_log.proofs.Places.{has_place}
use Rattle.yt_log.proofs.Plans.{good_item}
use Rattle.yt_log.proofs.Counting.{ordered_segments}
use Rattle.yt_log.proofs.Judged.{ahead_first, ahead_more, judged_more, all_judged, told_due, told_first, told_keeps, told_none}
use Rattle.yt_log.proofs.judge.miss.first_miss.Goals as goal

pub loop-item-init : goal.loop-item-init
loop-item-init c = record {
  judged = λ k lt. absurd (omega arith);
  ahead = ahead_first _ _ _ 64 c.len.result _ refl c.len.ensures.len c.len.ensures.few;
}

pub judge-requires-clause-from_one : goal.judge-requires-clause-from_one
unfolding item_at
judge-requires-clause-from_one c =
    let e = c.items-item-items.ensures in
    let long = ap (λ (xs : List PlanItem). length xs) e in
    let P : PlanItem → Type 0 = λ i. 1 ≤ i.job.task in
    subst P (sym (ap (λ (xs : List PlanItem). item_at xs c.loop-item.item-index) e)) (good_item _ _ c.requires.legal _ (has_place _ _ (omega (arith, long, c.loop-item-test.true)))).from_one

pub judge-requires-clause-in_set : goal.judge-requires-clause-in_set
unfolding item_at
judge-requires-clause-in_set c =
    let e = c.items-item-items.ensures in
    let long = ap (λ (xs : List PlanItem). length xs) e in
    let P : PlanItem → Type 0 = λ i. i.job.task ≤ length c.args.set.now in
    subst P (sym (ap (λ (xs : List PlanItem). item_at xs c.loop-item.item-index) e)) (good_item _ _ c.requires.legal _ (has_place _ _ (omega (arith, long, c.loop-item-test.true)))).in_set

pub judge-requires-clause-ordered : goal.judge-requires-clause-ordered
judge-requires-clause-ordered c = let P : List Segment → Type 0 = AreOrdered in subst P (sym c.segments-segments.ensures) (ordered_segments _)

pub judge-requires-clause-unnamed : goal.judge-requires-clause-unnamed
unfolding item_at
judge-requires-clause-unnamed c =
    let e = c.items-item-items.ensures in
    let long = ap (λ (xs : List PlanItem). length xs) e in
    let P : PlanItem → Type 0 = λ i. (k : ℕ) → k < slice_index c.loop-item.seen (i.job.task - 1) → (segment_at c.segments-segments.result.now k).job ≡ i.job → ⊥ in
    subst P (sym (ap (λ (xs : List PlanItem). item_at xs c.loop-item.item-index) e)) (c.loop-item.invariant.ahead.unnamed c.loop-item.item-index (omega arith) (omega (arith, long, c.loop-item-test.true)))

pub loop-item-preserved : goal.loop-item-preserved
unfolding item_at
loop-item-preserved c =
    let e = c.items-item-items.ensures in
    let long = ap (λ (xs : List PlanItem). length xs) e in
    let at = ap (λ (xs : List PlanItem). item_at xs c.loop-item.item-index) e in
    let J : List Segment → Type 0 = λ ss. Judges c.args.set.now ss c.args.upto (item_at c.args.plan.now c.loop-item.item-index) c.judge.result in
    let K : PlanItem → Type 0 = λ i. Judges c.args.set.now c.segments-segments.result.now c.args.upto i c.judge.result in
    let P : PlanItem → Type 0 = λ i. Passes c.segments-segments.result.now i c.loop-item.seen c.judge.new.seen in
    let R : Option Miss → Type 0 = λ r. AreJudged c.args.set.now c.args.plan.now c.args.log.now c.args.upto (c.loop-item.item-index + 1) r in
    record {
      judged = subst R (sym c.sooner-first.ensures) (judged_more _ _ _ _ c.loop-item.item-index c.loop-item.first c.judge.result c.loop-item.invariant.judged (subst J c.segments-segments.ensures (subst K at c.judge.ensures.judged)));
      ahead = ahead_more _ _ c.requires.legal _ c.loop-item.item-index _ _ (omega (arith, long, c.loop-item-test.true)) c.loop-item.invariant.ahead (subst P at c.judge.ensures.passes);
    }

pub returns-clause-first : goal.returns-clause-first
returns-clause-first c =
    told_first _ _ _ _ c.loop-item.first (all_judged _ _ _ _ _ _ c.loop-item.first c.loop-item.first c.items-item-items.ensures c.loop-item.auto.item-index-end c.loop-item-test.false refl c.loop-item.invariant.judged)

pub returns-clause-due : goal.returns-clause-due
returns-clause-due c =
    told_due _ _ _ _ c.requires.legal c.loop-item.first (all_judged _ _ _ _ _ _ c.loop-item.first c.loop-item.first c.items-item-items.ensures c.loop-item.auto.item-index-end c.loop-item-test.false refl c.loop-item.invariant.judged)

pub returns-clause-none : goal.returns-clause-none
returns-clause-none c =
    told_none _ _ _ _ c.loop-item.first (all_judged _ _ _ _ _ _ c.loop-item.first c.loop-item.first c.items-item-items.ensures c.loop-item.auto.item-index-end c.loop-item-test.false refl c.loop-item.invariant.judged)

pub returns-clause-keeps : goal.returns-clause-keeps
returns-clause-keeps c =
    told_keeps _ _ _ _ c.requires.legal c.loop-item.first (all_judged _ _ _ _ _ _ c.loop-item.first c.loop-item.first c.items-item-items.ensures c.loop-item.auto.item-index-end c.loop-item-test.false refl c.loop-item.invariant.judged)
