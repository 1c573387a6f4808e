use Rattle.std.proofs.Common.{◌≡◌, ◌≤◌, drop}
use Rattle.yt_graph.specs.AstPicture.{ast_block_tree, ast_stmt_tree}
use Rattle.yt_graph.specs.AstParts.{ast_block_weight, ast_stmt_weight}
use Rattle.yt_admit.specs.Calls.{block_calls}
use Rattle.yt_admit.proofs.calls.+blocks.Given as goal

abbrev pub decreases-block_calls : goal.decreases-block_calls
decreases-block_calls l = ast_block_weight (ast_block_tree l.block.now)

abbrev pub decreases-stmt_calls : goal.decreases-stmt_calls
decreases-stmt_calls l = ast_stmt_weight (ast_stmt_tree l.stmt.now)

-- what is left decides, and weighs no more
abbrev pub invariant-block_calls-loop-stmt : goal.invariant-block_calls-loop-stmt
invariant-block_calls-loop-stmt l =
    (block_calls (ast_block_tree (drop l.stmt-index l.block)) ≡ block_calls (ast_block_tree l.block))
    × (ast_block_weight (ast_block_tree (drop l.stmt-index l.block)) ≤ ast_block_weight (ast_block_tree l.block))
