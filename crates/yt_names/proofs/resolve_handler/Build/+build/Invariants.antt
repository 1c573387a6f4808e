use Rattle.std.proofs.Common.{◌≡◌, ◌≤◌, ◌+◌, ◌*◌, drop, take, length}
use Rattle.yt_graph.specs.AstPicture.{ast_stmt_tree, ast_block_tree}
use Rattle.yt_graph.specs.AstParts.{ast_stmt_weight, ast_block_weight}
use Rattle.yt_graph.specs.Picture.{block_tree}
use Rattle.yt_name_faults.specs.Handlers.{left_after_block}
use Rattle.yt_names.specs.Resolved.{resolved_block}
use Rattle.yt_names.proofs.BuildLemmas.{block_then}
use Rattle.yt_names.proofs.resolve_handler.Build.+build.Given as goal

abbrev pub decreases-stmt : goal.decreases-stmt
decreases-stmt l = 3 * ast_stmt_weight (ast_stmt_tree l.s.now)

abbrev pub decreases-block : goal.decreases-block
decreases-block l = 3 * ast_block_weight (ast_block_tree l.b.now) + 1

abbrev pub decreases-stmts : goal.decreases-stmts
decreases-stmts l = 3 * ast_block_weight (ast_block_tree l.b.now)

abbrev pub invariant-stmts-loop-s : goal.invariant-stmts-loop-s
invariant-stmts-loop-s l = record {
  short : l.self.left ≤ 16;
  within : length l.fn.self.visible ≤ length l.self.visible;
  outer : take (length l.fn.self.visible) l.self.visible ≡ l.fn.self.visible;
  left : left_after_block l.self.left (ast_block_tree (drop l.s-index l.b)) ≡ left_after_block l.fn.self.left (ast_block_tree l.b);
  so_far : block_then (block_tree l.all.items) (resolved_block l.scope l.self.visible l.self.left (ast_block_tree (drop l.s-index l.b))) ≡ resolved_block l.scope l.fn.self.visible l.fn.self.left (ast_block_tree l.b);
  lighter : ast_block_weight (ast_block_tree (drop l.s-index l.b)) ≤ ast_block_weight (ast_block_tree l.b);
}
