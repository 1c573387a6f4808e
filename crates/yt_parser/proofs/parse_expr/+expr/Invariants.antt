use Rattle.std.proofs.Common.{◌≡◌, ◌+◌, ◌-◌, ◌*◌, ◌≤◌, ◌<◌, map, length}
use Rattle.yt_graph.specs.AstPicture.{ast_expr_tree, ast_exprs_tree}
use Rattle.yt_graph.specs.AstWellFormed.{ast_exprs_depth}
use Rattle.yt_grammar.specs.declared.sign.Mark.TheVariants.{Comma}
use Rattle.yt_grammar.specs.Inside.Reading.{at_mark, behind_mark, one_or_more, chain, expr_reader}
use Rattle.yt_parser.proofs.parsing.Loops.{GoesOn}
use Rattle.yt_parser.proofs.parse_expr.+expr.Given as goal

abbrev pub decreases-expr : goal.decreases-expr
decreases-expr l = 32 * l.levels

abbrev pub decreases-next_expr : goal.decreases-next_expr
decreases-next_expr l = 32 * l.levels + 1

abbrev pub decreases-exprs : goal.decreases-exprs
decreases-exprs l = 32 * l.levels + 2

abbrev pub decreases-args : goal.decreases-args
decreases-args l = 32 * l.room + 3

abbrev pub decreases-name_or_call : goal.decreases-name_or_call
decreases-name_or_call l = 32 * l.room + 4

abbrev pub decreases-parenthesised : goal.decreases-parenthesised
decreases-parenthesised l = 32 * l.room + 1

abbrev pub decreases-prim : goal.decreases-prim
decreases-prim l = 32 * l.room + 5

abbrev pub decreases-negative : goal.decreases-negative
decreases-negative l = 32 * l.room + 6

abbrev pub decreases-link : goal.decreases-link
decreases-link l = 32 * l.room + 1

abbrev pub decreases-chain : goal.decreases-chain
decreases-chain l = 32 * l.room + 2

abbrev pub decreases-ranked : goal.decreases-ranked
decreases-ranked l = 32 * l.room + 8 + 2 * l.rank

abbrev pub decreases-negation : goal.decreases-negation
decreases-negation l = 32 * l.room + 17

-- what is left, behind the left side so far and in the turns that are left, decides
abbrev pub invariant-chain-links : goal.invariant-chain-links
invariant-chain-links l = (length l.cursor ≤ length l.fn.cursor)
    × (l.left.depth ≤ l.room + 1)
    × (chain (expr_reader l.room) l.room l.rank (l.turns - l.counter) (ast_expr_tree l.left.expr) l.cursor ≡ chain (expr_reader l.room) l.room l.rank l.turns (ast_expr_tree l.fn.first.expr) l.fn.cursor)

abbrev pub invariant-exprs-exprs : goal.invariant-exprs-exprs
invariant-exprs-exprs l = (length l.cursor < length l.fn.cursor)
    × (l.depth ≤ l.levels)
    × (l.depth ≡ ast_exprs_depth (ast_exprs_tree l.exprs))
    × GoesOn (one_or_more (expr_reader l.levels 7) l.fn.cursor) (at_mark Comma) (behind_mark Comma (expr_reader l.levels 7)) (map ast_expr_tree l.exprs) l.cursor

abbrev pub decreases-exprs-exprs : goal.decreases-exprs-exprs
decreases-exprs-exprs l = length l.cursor
