use Rattle.std.proofs.Common.{◌+◌, take, ap, sym, ◌∙◌, arith}
use Rattle.yt_list.proofs.Lemmas.{numbered_next}
use Rattle.yt_set.specs.Tasks.{load}
use Rattle.yt_fits.proofs.LoadLemmas.{load_next}
use Rattle.yt_fits.proofs.sums.part.Goals as goal

pub loop-n-preserved : goal.loop-n-preserved
loop-n-preserved c =
    let inv = c.loop-n.invariant in
    let tasks = c.args.set.now in
    let n = c.loop-n.n in
    let at = sym (numbered_next tasks n) ∙ c.task.ensures.value in
    let was = inv.bound in
    let more = c.cost_in-part.ensures.bound in
    record {
      value = ap (λ p. p + c.cost_in-part.result) inv.value ∙ ap (λ v. load (take n tasks) c.args.whole + v) c.cost_in-part.ensures.value ∙ sym (load_next tasks n c.task.result c.args.whole at);
      bound = omega arith;
    }
