use Rattle.std.proofs.Common.{◌≡◌, ◌+◌, ◌<◌, ◌⊎◌, List, ◌++◌, drop, length, true, false, sym, ap, ◌∙◌, inl, inr, arith}
use Rattle.yt_log.specs.declared.plan.PlanItem.{PlanItem}
use Rattle.yt_witness.specs.Inside.Merging.{is_second_next, with_all}
use Rattle.yt_witness.proofs.Merging.{first_some, more_first, more_second, second_some}
use Rattle.yt_witness.proofs.merge.merge.Goals.{then-i-first, else-i-first+then-j-second}
use Rattle.yt_witness.proofs.merge.merge.Goals as goal

none : PlanItem
none = record { job = record { task = 0; number = 0 }; arrival = 0; cost = 0 }

pub left-preserved-then-is_second_next : goal.left-preserved-then-is_second_next
unfolding none
left-preserved-then-is_second_next c =
    let xs = c.args.first.now in
    let ys = c.args.second.now in
    let i = c.left.i in
    let j = c.left.j in
    let next : is_second_next (drop i xs) (drop j ys) ≡ true = sym c.is_second_next.ensures ∙ c.if-is_second_next.true in
    let lt = second_some (drop i xs) ys j next in
    record {
      first = c.left.invariant.first;
      second = omega arith;
      all = ap (λ (l : List PlanItem). l ++ with_all (drop i xs) (drop (j + 1) ys)) c.in_ok-push.ensures.items
          ∙ more_second c.left.all.items xs ys (with_all xs ys) i j none c.requires lt next c.left.invariant.all;
    }

pub left-preserved : goal.left-preserved
unfolding none
left-preserved c =
    let xs = c.args.first.now in
    let ys = c.args.second.now in
    let i = c.left.i in
    let j = c.left.j in
    let next : is_second_next (drop i xs) (drop j ys) ≡ false = sym c.is_second_next.ensures ∙ c.if-is_second_next.false in
    let some : (i < length xs) ⊎ (j < length ys) = elim c.if-i-first.branch [ then-i-first w ↦ inl w.if-i-first.true | else-i-first+then-j-second w ↦ inr w.if-j-second.true ] in
    let lt = first_some xs ys i j some next in
    record {
      first = omega arith;
      second = c.left.invariant.second;
      all = ap (λ (l : List PlanItem). l ++ with_all (drop (i + 1) xs) (drop j ys)) c.in_ok-push-2.ensures.items
          ∙ more_first c.left.all.items xs ys (with_all xs ys) i j none c.requires lt next c.left.invariant.all;
    }
