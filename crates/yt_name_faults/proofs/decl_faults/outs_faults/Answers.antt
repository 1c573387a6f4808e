use Rattle.std.proofs.Common.{◌≡◌, ◌+◌, [], ◌++◌, drop, ap, sym, ◌∙◌, arith}
use Rattle.std.proofs.lemmas.Grind.{common_steps}
use Rattle.yt_name_faults.specs.Faults.{out_faults, outs_faults}
use Rattle.yt_name_faults.proofs.FirstLemmas.{next, at_end}
use Rattle.yt_name_faults.proofs.TreeLemmas.{cut}
use Rattle.yt_name_faults.proofs.decl_faults.outs_faults.Goals as goal

pub loop-n-preserved : goal.loop-n-preserved
loop-n-preserved c =
    let outs = c.args.outs.now in
    let items = c.all-out-items.result.now in
    let n = c.loop-n.n in
    let left = c.loop-n.left in
    let here = out_faults outs n left c.out-item.result in
    next here (outs_faults outs (n + 1) c.saturating_sub-left.result (drop (n + 1) items)) _ _ _ _
    (ap (outs_faults outs n left) (cut items n c.out-item.result c.loop-n-test.true c.out-item.is) ∙ ap (λ k. here ++ outs_faults outs (n + 1) k (drop (n + 1) items)) (sym c.saturating_sub-left.ensures))
    c.out_faults.ensures
    c.loop-n.invariant

pub returns : goal.returns
returns c =
    let none : drop c.loop-n.n c.all-out-items.result.now ≡ [] = grind (arith, common_steps) in
    at_end _ _ _ (ap (outs_faults c.args.outs.now c.loop-n.n c.loop-n.left) none) c.loop-n.invariant
