use Rattle.std.proofs.Common.{◌≡◌, ◌+◌, [], ◌++◌, drop, ap, sym, ◌∙◌, arith}
use Rattle.std.proofs.lemmas.Grind.{common_steps}
use Rattle.yt_name_faults.specs.declared.fault.LimitKind.TheVariants.{Variables}
use Rattle.yt_name_faults.specs.First.{least_with}
use Rattle.yt_table.specs.Tables.{first_of}
use Rattle.yt_name_faults.specs.Names.{var_names}
use Rattle.yt_name_faults.specs.Faults.{declared_faults, vars_faults}
use Rattle.yt_name_faults.proofs.FirstLemmas.{next, at_end}
use Rattle.yt_name_faults.proofs.TreeLemmas.{cut}
use Rattle.yt_name_faults.proofs.decl_faults.vars_faults.Goals as goal

pub loop-n-preserved : goal.loop-n-preserved
loop-n-preserved c =
    let vars = c.args.vars.now in
    let items = c.all-var-items.result.now in
    let n = c.loop-n.n in
    let left = c.loop-n.left in
    let v = c.var-item.result in
    let here = declared_faults v.name n (first_of v.name.text 0 (var_names vars)) left Variables in
    let first = c.find-first.ensures.first ∙ ap (λ t. first_of t 0 (var_names vars)) c.as_slice.ensures in
    next here (vars_faults vars (n + 1) c.saturating_sub-left.result (drop (n + 1) items)) _ _ _ _
    (ap (vars_faults vars n left) (cut items n v c.loop-n-test.true c.var-item.is) ∙ ap (λ k. here ++ vars_faults vars (n + 1) k (drop (n + 1) items)) (sym c.saturating_sub-left.ensures))
    (c.declared_faults.ensures ∙ ap (λ f. least_with (declared_faults v.name n f left Variables) c.loop-n.least) first)
    c.loop-n.invariant

pub returns : goal.returns
returns c =
    let none : drop c.loop-n.n c.all-var-items.result.now ≡ [] = grind (arith, common_steps) in
    at_end _ _ _ (ap (vars_faults c.args.vars.now c.loop-n.n c.loop-n.left) none) c.loop-n.invariant
