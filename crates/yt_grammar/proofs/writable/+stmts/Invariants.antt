use Rattle.std.proofs.Common.{◌≡◌, ◌≤◌, drop}
use Rattle.yt_graph.specs.AstPicture.{ast_stmt_tree, ast_block_tree}
use Rattle.yt_graph.specs.AstParts.{ast_stmt_weight, ast_block_weight}
use Rattle.yt_grammar.specs.Writable.{are_stmts}
use Rattle.yt_grammar.proofs.writable.+stmts.Given as goal

abbrev pub decreases-stmts_ok : goal.decreases-stmts_ok
decreases-stmts_ok l = ast_block_weight (ast_block_tree l.b.now)

abbrev pub decreases-stmt_ok : goal.decreases-stmt_ok
decreases-stmt_ok l = ast_stmt_weight (ast_stmt_tree l.s.now)

-- what is left decides
abbrev pub invariant-stmts_ok-loop-s : goal.invariant-stmts_ok-loop-s
invariant-stmts_ok-loop-s l = record {
  rest : are_stmts l.room (ast_block_tree (drop l.s-index l.b)) ≡ are_stmts l.room (ast_block_tree l.b);
  lighter : ast_block_weight (ast_block_tree (drop l.s-index l.b)) ≤ ast_block_weight (ast_block_tree l.b);
}
