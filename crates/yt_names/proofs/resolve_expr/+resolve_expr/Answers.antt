use Rattle.std.proofs.Common.{◌≡◌, [], drop, ap, arith}
use Rattle.std.proofs.lemmas.Grind.{common_steps}
use Rattle.yt_graph.specs.AstPicture.{ast_expr_tree, ast_exprs_tree}
use Rattle.yt_graph.specs.AstParts.{ast_exprs_weight}
use Rattle.yt_names.specs.Resolved.{resolved_expr, resolved_exprs}
use Rattle.yt_names.proofs.BuildLemmas.{exprs_next, exprs_done}
use Rattle.yt_name_faults.proofs.Lemmas.{exprs_cut}
use Rattle.yt_names.proofs.resolve_expr.+resolve_expr.Goals as goal

pub resolve_exprs-loop-e-preserved : goal.resolve_exprs-loop-e-preserved
resolve_exprs-loop-e-preserved t c =
    let scope = c.args.scope.now in
    let visible = c.args.visible.now in
    let tree = exprs_cut c.args.es.now c.loop-e.e-index c.e-item.result c.loop-e-test.true c.e-item.is in
    record {
      so_far = exprs_next c.loop-e.all.items c.push.new.self.items _ (resolved_expr scope visible (ast_expr_tree c.e-item.result)) _ _ _
          c.in_ok-push.ensures.items c.in_ok-resolve_expr.ensures (ap (resolved_exprs scope visible) tree) c.loop-e.invariant.so_far;
      lighter = omega (arith, ap ast_exprs_weight tree, c.loop-e.invariant.lighter);
    }

pub resolve_exprs-returns : goal.resolve_exprs-returns
resolve_exprs-returns t c =
    let none : drop c.loop-e.e-index c.args.es.now ≡ [] = grind (arith, common_steps) in
    exprs_done _ _ _ (ap (λ l. resolved_exprs c.args.scope.now c.args.visible.now (ast_exprs_tree l)) none) c.loop-e.invariant.so_far
