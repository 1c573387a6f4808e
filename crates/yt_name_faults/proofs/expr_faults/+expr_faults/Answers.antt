use Rattle.std.proofs.Common.{◌≡◌, [], drop, ap, sym, ◌∙◌, arith}
use Rattle.std.proofs.lemmas.Grind.{common_steps}
use Rattle.std.specs.Option.{option_copied}
use Rattle.yt_graph.specs.AstPicture.{ast_expr_tree, ast_exprs_tree}
use Rattle.yt_graph.specs.AstParts.{ast_exprs_weight}
use Rattle.yt_name_faults.specs.First.{least_with}
use Rattle.yt_name_faults.specs.Handlers.{expr_faults, exprs_faults, call_faults, op_named, values_count}
use Rattle.yt_name_faults.proofs.FirstLemmas.{both, next, at_end}
use Rattle.yt_name_faults.proofs.TreeLemmas.{exprs_cut, values_count_is}
use Rattle.yt_name_faults.proofs.expr_faults.+expr_faults.Goals as goal

pub expr_faults-returns-in-Call : goal.expr_faults-returns-in-Call
expr_faults-returns-in-Call t c =
    let env = c.args.env.now in
    let visible = c.args.visible.now in
    let word = c.in-Call.word.now in
    let args = c.in-Call.args.now in
    let old = c.args.least.now in
    let head = c.op.ensures ∙ ap (op_named env.ops) c.as_slice-in-Call.ensures in
    both (call_faults word (values_count (ast_exprs_tree args)) (op_named env.ops word.text)) (exprs_faults env visible (ast_exprs_tree args)) _ _ _
    (c.call_faults.ensures
    ∙ ap (λ n. least_with (call_faults word n (option_copied c.op.result)) old) (sym (values_count_is args))
    ∙ ap (λ o. least_with (call_faults word (values_count (ast_exprs_tree args)) o) old) head)
    c.exprs_faults.ensures
    ∙ ap (λ e. least_with (expr_faults env visible e) old) c.in-Call.ensures

pub exprs_faults-loop-e-preserved : goal.exprs_faults-loop-e-preserved
exprs_faults-loop-e-preserved t c =
    let env = c.args.env.now in
    let visible = c.args.visible.now in
    let tree = exprs_cut c.args.es.now c.loop-e.e-index c.e-item.result c.loop-e-test.true c.e-item.is in
    record {
      so_far = next (expr_faults env visible (ast_expr_tree c.e-item.result)) _ _ _ _ _ (ap (exprs_faults env visible) tree) c.expr_faults.ensures c.loop-e.invariant.so_far;
      lighter = omega (arith, ap ast_exprs_weight tree);
    }

pub exprs_faults-returns : goal.exprs_faults-returns
exprs_faults-returns t c =
    let none : drop c.loop-e.e-index c.args.es.now ≡ [] = grind (arith, common_steps) in
    at_end _ _ _ (ap (λ l. exprs_faults c.args.env.now c.args.visible.now (ast_exprs_tree l)) none) c.loop-e.invariant.so_far
