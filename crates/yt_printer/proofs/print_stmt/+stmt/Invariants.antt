use Rattle.std.proofs.Common.{◌≡◌, ◌≤◌, ◌<◌, ◌+◌, ◌^◌, ◌++◌, drop}
use Rattle.yt_graph.specs.AstPicture.{ast_stmt_tree, ast_block_tree}
use Rattle.yt_graph.specs.AstWellFormed.{ast_block_depth}
use Rattle.yt_graph.specs.AstParts.{ast_stmt_weight, ast_block_weight}
use Rattle.yt_grammar.specs.CanonicalText.{stmts_layout, text_of}
use Rattle.yt_printer.proofs.print_stmt.+stmt.Given as goal

abbrev pub decreases-print_stmt : goal.decreases-print_stmt
decreases-print_stmt l = ast_stmt_weight (ast_stmt_tree l.s.now)

abbrev pub decreases-print_block : goal.decreases-print_block
decreases-print_block l = ast_block_weight (ast_block_tree l.b.now)

-- what was put so far, and then the statements that are left, is all
abbrev pub invariant-print_block-loop-s : goal.invariant-print_block-loop-s
invariant-print_block-loop-s l = record {
  so_far : l.out ++ text_of (stmts_layout (l.braces + 1) (ast_block_tree (drop l.s-index l.b))) ≡ l.initial.out ++ text_of (stmts_layout (l.braces + 1) (ast_block_tree l.b));
  room : l.braces + 1 + ast_block_depth (ast_block_tree (drop l.s-index l.b)) < 2 ^ 64;
  lighter : ast_block_weight (ast_block_tree (drop l.s-index l.b)) ≤ ast_block_weight (ast_block_tree l.b);
}
