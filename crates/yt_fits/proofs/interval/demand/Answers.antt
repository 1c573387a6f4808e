use Rattle.std.proofs.Common.{◌+◌, take, ap, sym, ◌∙◌, arith}
use Rattle.yt_list.proofs.Lemmas.{numbered_next}
use Rattle.yt_set.specs.Tasks.{demand_bound}
use Rattle.yt_fits.proofs.IntervalLemmas.{demand_next}
use Rattle.yt_fits.proofs.interval.demand.Goals as goal

pub loop-n-preserved : goal.loop-n-preserved
loop-n-preserved c =
    let inv = c.loop-n.invariant in
    let tasks = c.args.set.now in
    let n = c.loop-n.n in
    let at = sym (numbered_next tasks n) ∙ c.task.ensures.value in
    let was = inv.bound in
    let more = c.cost_due-demand.ensures.bound in
    record {
      value = ap (λ p. p + c.cost_due-demand.result) inv.value ∙ ap (λ v. demand_bound (take n tasks) c.args.ticks + v) c.cost_due-demand.ensures.value ∙ sym (demand_next tasks n c.args.ticks c.task.result at);
      bound = omega arith;
    }
