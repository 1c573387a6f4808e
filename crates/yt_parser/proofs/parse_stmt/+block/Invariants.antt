use Rattle.std.proofs.Common.{◌+◌, ◌*◌, ◌≤◌, map, length}
use Rattle.yt_graph.specs.AstPicture.{ast_stmt_tree}
use Rattle.yt_grammar.specs.Inside.Reading.{many, at_stmt, stmt_reader, block_reader}
use Rattle.yt_parser.proofs.parsing.Loops.{GoesOn}
use Rattle.yt_parser.proofs.parse_stmt.+block.Given as goal

abbrev pub decreases-block : goal.decreases-block
decreases-block l = 5 * l.blocks

abbrev pub decreases-branch : goal.decreases-branch
decreases-branch l = 5 * l.blocks + 1

abbrev pub decreases-repeat : goal.decreases-repeat
decreases-repeat l = 5 * l.blocks + 1

abbrev pub decreases-stmt : goal.decreases-stmt
decreases-stmt l = 5 * l.blocks + 2

abbrev pub decreases-stmts : goal.decreases-stmts
decreases-stmts l = 5 * l.blocks + 3

abbrev pub decreases-braced : goal.decreases-braced
decreases-braced l = 5 * l.blocks + 4

abbrev pub invariant-stmts-stmts : goal.invariant-stmts-stmts
invariant-stmts-stmts l = (length l.cursor ≤ length l.fn.cursor)
    × GoesOn (many (at_stmt l.blocks) (stmt_reader (block_reader l.blocks) l.blocks) l.fn.cursor) (at_stmt l.blocks) (stmt_reader (block_reader l.blocks) l.blocks) (map ast_stmt_tree l.stmts) l.cursor

abbrev pub decreases-stmts-stmts : goal.decreases-stmts-stmts
decreases-stmts-stmts l = length l.cursor
