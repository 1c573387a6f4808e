use Rattle.std.proofs.Common.{◌≡◌, ◌≤◌, ◌<◌, ◌+◌, take, sym, refl, arith, subst}
use Rattle.yt_set.specs.Tasks.{hyperperiod, multiple_from}
use Rattle.yt_fits.specs.Loads.{hyperperiod_limit}
use Rattle.yt_fits.proofs.MultipleLemmas.{first_le, lcm_some, narrow_more, next_whole}
use Rattle.yt_fits.proofs.sums.whole.Goals as goal

pub loop-n-init : goal.loop-n-init
unfolding multiple_from
loop-n-init c = record {
  value = refl;
  positive = omega arith;
  narrow = λ k h.
      let none : k ≡ 0 = omega arith in
      subst (λ j. hyperperiod (take j c.args.set.now) ≤ hyperperiod_limit c.args.set.now) (sym none) (omega arith);
}

pub returns-then-whole-limit-clause-err : goal.returns-then-whole-limit-clause-err
returns-then-whole-limit-clause-err c =
    let over : hyperperiod_limit c.args.set.now < c.lcm-whole.result = subst (λ l. l < c.lcm-whole.result) c.hyperperiod_limit-limit.ensures c.if-whole-limit.true in
    let inv = c.loop-n.invariant in
    let value = next_whole c.args.set.now c.loop-n.n c.lcm-whole.result c.loop-n.whole c.task.result c.task.ensures.value inv.value c.lcm-whole.ensures in
    record {
      positive = omega arith;
      there = omega arith;
      wide = subst (λ m. hyperperiod_limit c.args.set.now < m) value over;
      first = λ k h. inv.narrow k (omega arith);
    }

pub returns-then-whole-limit-clause-wide : goal.returns-then-whole-limit-clause-wide
returns-then-whole-limit-clause-wide c =
    let over : hyperperiod_limit c.args.set.now < c.lcm-whole.result = subst (λ l. l < c.lcm-whole.result) c.hyperperiod_limit-limit.ensures c.if-whole-limit.true in
    let value = next_whole c.args.set.now c.loop-n.n c.lcm-whole.result c.loop-n.whole c.task.result c.task.ensures.value c.loop-n.invariant.value c.lcm-whole.ensures in
    let here : hyperperiod_limit c.args.set.now < hyperperiod (take (c.loop-n.n + 1) c.args.set.now) = subst (λ m. hyperperiod_limit c.args.set.now < m) value over in
    let less = first_le c.args.set.now (c.loop-n.n + 1) c.len-n-end.ensures.in_range in
    omega arith

pub loop-n-preserved : goal.loop-n-preserved
loop-n-preserved c =
    let under : c.lcm-whole.result ≤ hyperperiod_limit c.args.set.now = subst (λ l. c.lcm-whole.result ≤ l) c.hyperperiod_limit-limit.ensures c.if-whole-limit.false in
    let inv = c.loop-n.invariant in
    let value = next_whole c.args.set.now c.loop-n.n c.lcm-whole.result c.loop-n.whole c.task.result c.task.ensures.value inv.value c.lcm-whole.ensures in
    record {
      value = value;
      positive = subst (λ m. 1 ≤ m) (sym c.lcm-whole.ensures) (lcm_some c.loop-n.whole c.task.result.period inv.positive c.task.ensures.in_range.2);
      narrow = narrow_more c.args.set.now c.loop-n.n inv.narrow (subst (λ m. m ≤ hyperperiod_limit c.args.set.now) value under);
    }
