use Rattle.std.proofs.Common.{◌≡◌, ◌+◌, [], drop, take, length, ap, sym, ◌∙◌, arith}
use Rattle.std.proofs.lemmas.Grind.{common_steps}
use Rattle.std.specs.Option.{option_copied}
use Rattle.yt_graph.specs.AstPicture.{ast_stmt_tree, ast_block_tree, ast_exprs_tree}
use Rattle.yt_graph.specs.AstParts.{ast_block_weight}
use Rattle.yt_name_faults.specs.First.{least_with}
use Rattle.yt_name_faults.specs.Handlers.{exprs_faults, send_faults, out_named, values_count, stmt_faults, block_faults}
use Rattle.yt_name_faults.proofs.FirstLemmas.{both, next, at_end}
use Rattle.yt_name_faults.proofs.TreeLemmas.{stmts_cut, values_count_is}
use Rattle.yt_name_faults.proofs.HandlerLemmas.{visible_longer, visible_take, block_cut, left_cut}
use Rattle.yt_name_faults.proofs.handler_faults.Walk.+walk.Goals as goal

pub stmt-returns-in-Send-clause-least : goal.stmt-returns-in-Send-clause-least
stmt-returns-in-Send-clause-least t c =
    let env = c.args.env.now in
    let visible = c.args.self.now.visible in
    let word = c.in-Send.word.now in
    let values = c.in-Send.values.now in
    let old = c.args.self.now.least in
    let found = c.out.ensures ∙ ap (out_named env.outs) c.as_slice-in-Send.ensures in
    both (send_faults word (values_count (ast_exprs_tree values)) (out_named env.outs word.text)) (exprs_faults env visible (ast_exprs_tree values)) _ _ _
    (c.send_faults.ensures
    ∙ ap (λ n. least_with (send_faults word n (option_copied c.out.result)) old) (sym (values_count_is values))
    ∙ ap (λ o. least_with (send_faults word (values_count (ast_exprs_tree values)) o) old) found)
    c.exprs_faults.ensures
    ∙ ap (λ s. least_with (stmt_faults env visible c.args.self.now.left s) old) c.in-Send.ensures

pub stmts-loop-s-preserved : goal.stmts-loop-s-preserved
stmts-loop-s-preserved t c =
    let env = c.args.env.now in
    let b = c.args.b.now in
    let i = c.loop-s.s-index in
    let n = length c.args.self.now.visible in
    let was = c.loop-s.self in
    let is = c.stmt.new.self in
    let s = ast_stmt_tree c.s-item.result in
    let rest = ast_block_tree (drop (i + 1) b) in
    let tree = stmts_cut b i c.s-item.result c.loop-s-test.true c.s-item.is in
    let e = c.in_ok-stmt.ensures in
    record {
      within = omega (arith, ap length e.visible, visible_longer was.visible s, c.loop-s.invariant.within);
      outer = ap (take n) e.visible ∙ visible_take n was.visible s c.loop-s.invariant.within ∙ c.loop-s.invariant.outer;
      left = left_cut env was.visible is.visible was.left is.left s rest _ tree e.visible e.left ∙ c.loop-s.invariant.left;
      so_far = next (stmt_faults env was.visible was.left s) _ _ _ _ _ (block_cut env was.visible is.visible was.left is.left s rest _ tree e.visible e.left) e.least c.loop-s.invariant.so_far;
      lighter = omega (arith, ap ast_block_weight tree, c.loop-s.invariant.lighter);
    }

pub stmts-returns-clause-least : goal.stmts-returns-clause-least
stmts-returns-clause-least t c =
    let none : drop c.loop-s.s-index c.args.b.now ≡ [] = grind (arith, common_steps) in
    at_end _ _ _ (ap (λ l. block_faults c.args.env.now c.loop-s.self.visible c.loop-s.self.left (ast_block_tree l)) none) c.loop-s.invariant.so_far
