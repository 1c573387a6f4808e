use Rattle.std.proofs.Common.{◌≤◌, length}
use Rattle.yt_grammar.specs.declared.sign.Keyword.TheVariants as keys
use Rattle.yt_grammar.specs.Inside.Reading.{at_key, many, out_reader}
use Rattle.yt_parser.proofs.parsing.Loops.{GoesOn}
use Rattle.yt_parser.proofs.parse_port.outs.Given as goal

abbrev pub invariant-outs : goal.invariant-outs
invariant-outs l = (length l.cursor ≤ length l.fn.cursor)
    × GoesOn (many (at_key keys.Out) out_reader l.fn.cursor) (at_key keys.Out) out_reader l.outs l.cursor

abbrev pub decreases-outs : goal.decreases-outs
decreases-outs l = length l.cursor
