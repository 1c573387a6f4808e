use Rattle.std.proofs.Common.{◌≤◌, length}
use Rattle.yt_grammar.specs.declared.sign.Keyword.TheVariants as keys
use Rattle.yt_grammar.specs.Inside.Reading.{at_key, many, var_reader}
use Rattle.yt_parser.proofs.parsing.Loops.{GoesOn}
use Rattle.yt_parser.proofs.parse_item.vars.Given as goal

abbrev pub invariant-vars : goal.invariant-vars
invariant-vars l = (length l.cursor ≤ length l.fn.cursor)
    × GoesOn (many (at_key keys.Var) var_reader l.fn.cursor) (at_key keys.Var) var_reader l.vars l.cursor

abbrev pub decreases-vars : goal.decreases-vars
decreases-vars l = length l.cursor
