use Rattle.std.proofs.Common.{◌≡◌, ◌+◌, [], drop, take, length, ap, ◌∙◌, arith}
use Rattle.std.proofs.lemmas.Grind.{common_steps}
use Rattle.yt_graph.specs.AstPicture.{ast_stmt_tree, ast_block_tree}
use Rattle.yt_graph.specs.AstParts.{ast_block_weight}
use Rattle.yt_names.specs.Resolved.{resolved_stmt, resolved_block}
use Rattle.yt_names.proofs.BuildLemmas.{block_next, block_done}
use Rattle.yt_name_faults.proofs.Lemmas.{stmts_cut}
use Rattle.yt_names.proofs.ResolveLemmas.{locals_longer, locals_take, resolved_cut, left_over, left_falls}
use Rattle.yt_names.proofs.resolve_handler.Build.+build.Goals as goal

pub stmts-loop-s-preserved : goal.stmts-loop-s-preserved
stmts-loop-s-preserved t c =
    let scope = c.args.scope.now in
    let b = c.args.b.now in
    let i = c.loop-s.s-index in
    let n = length c.args.self.now.visible in
    let was = c.loop-s.self in
    let is = c.stmt.new.self in
    let s = ast_stmt_tree c.s-item.result in
    let rest = ast_block_tree (drop (i + 1) b) in
    let tree = stmts_cut b i c.s-item.result c.loop-s-test.true c.s-item.is in
    let e = c.in_ok-one.ensures in
    record {
      short = omega (arith, e.left, left_falls was.left s, c.loop-s.invariant.short);
      within = omega (arith, ap length e.visible, locals_longer was.visible was.left s, c.loop-s.invariant.within);
      outer = ap (take n) e.visible ∙ locals_take n was.visible was.left s c.loop-s.invariant.within ∙ c.loop-s.invariant.outer;
      left = left_over scope was.visible is.visible was.left is.left s rest _ tree e.visible e.left ∙ c.loop-s.invariant.left;
      so_far = block_next c.loop-s.all.items c.push.new.self.items _ (resolved_stmt scope was.visible was.left s) _ _ _
          c.in_ok-push.ensures.items e.stmt (resolved_cut scope was.visible is.visible was.left is.left s rest _ tree e.visible e.left) c.loop-s.invariant.so_far;
      lighter = omega (arith, ap ast_block_weight tree, c.loop-s.invariant.lighter);
    }

pub stmts-returns-clause-block : goal.stmts-returns-clause-block
stmts-returns-clause-block t c =
    let none : drop c.loop-s.s-index c.args.b.now ≡ [] = grind (arith, common_steps) in
    block_done _ _ _ (ap (λ l. resolved_block c.args.scope.now c.loop-s.self.visible c.loop-s.self.left (ast_block_tree l)) none) c.loop-s.invariant.so_far
