use Rattle.std.proofs.Common.{◌≡◌, ◌<◌, true, false, get_or, length, rules, arith, subst}
use Rattle.std.proofs.lemmas.Bool.{both_ways}
use Rattle.std.proofs.lemmas.List.{get_or_default}
use Rattle.std.proofs.lemmas.List.Sorted.{IsPartitionPoint-from_clause}
use Rattle.yt_chan.specs.declared.heads.Head.{Head}
use Rattle.yt_chan.specs.declared.target.Arrived.TheVariants.{Port}
use Rattle.yt_chan.specs.Inside.Heads.{comes_before}
use Rattle.yt_order.proofs.Lemmas.{partitioned}
use Rattle.yt_chan.proofs.HeadList.{place_found}
use Rattle.yt_chan.proofs.HeadOrder.{heads_are_ordered, not_before_both, not_itself}
use Rattle.yt_chan.proofs.heads.place_for.Goals as goal
use Rattle.yt_chan.proofs.heads.place_for.Goals.{else-place-heads-via-then-place-heads+else-not-comes_before, else-place-heads-via-else-place-heads}

-- what stands for a head that isn't there
abbrev no_head : Head
no_head = record { time = 0; target = Port 0 }

pub returns-then-not-comes_before : goal.returns-then-not-comes_before
returns-then-not-comes_before c =
    let xs = c.args.heads.now in
    let e = c.args.head.now in
    let p = c.partition_point-place.result in
    let point = IsPartitionPoint-from_clause (λ y. comes_before e y) xs p c.partition_point-place.ensures.partitioned (partitioned heads_are_ordered xs e c.requires) (λ a r f' k. search rules) in
    let lt : p < length xs = c.if-place-heads.true in
    let t : comes_before (get_or xs p no_head) e ≡ false = cc (c.if-not-comes_before.true, c.comes_before.ensures) in
    let u = subst (λ (y : Head). comes_before y e ≡ false) (get_or_default xs p no_head e lt) t in
    (p, lt, not_before_both (get_or xs p e) e u (point.1 p e (omega arith) lt))

pub returns : goal.returns
returns c =
    let xs = c.args.heads.now in
    let e = c.args.head.now in
    let p = c.partition_point-place.result in
    let point = IsPartitionPoint-from_clause (λ y. comes_before e y) xs p c.partition_point-place.ensures.partitioned (partitioned heads_are_ordered xs e c.requires) (λ a r f' k. search rules) in
    place_found xs p e c.requires (search rules) (λ k h. point.0 k e (omega arith) h) (λ k h l. point.1 k e h l)
    (λ lt is. elim c.else-place-heads.branch [
      | else-place-heads-via-then-place-heads+else-not-comes_before w ↦
          let t : comes_before (get_or xs p no_head) e ≡ true = cc (w.if-not-comes_before.false, w.comes_before.ensures) in
          let u = subst (λ (y : Head). comes_before y e ≡ true) (get_or_default xs p no_head e lt) t in
          both_ways (comes_before e e) (not_itself e) (subst (λ (y : Head). comes_before y e ≡ true) is u)
      | else-place-heads-via-else-place-heads w ↦ let b = w.if-place-heads.false in omega arith
    ])
