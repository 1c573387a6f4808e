use Rattle.std.proofs.Common.{◌<◌, length}
use Rattle.yt_grammar.specs.declared.sign.Mark.TheVariants.{Comma}
use Rattle.yt_grammar.specs.Inside.Reading.{at_mark, behind_mark, one_or_more, word_reader}
use Rattle.yt_parser.proofs.parsing.Loops.{GoesOn}
use Rattle.yt_parser.proofs.parse_port.words.Given as goal

abbrev pub invariant-words : goal.invariant-words
invariant-words l = (length l.cursor < length l.fn.cursor)
    × GoesOn (one_or_more word_reader l.fn.cursor) (at_mark Comma) (behind_mark Comma word_reader) l.words l.cursor

abbrev pub decreases-words : goal.decreases-words
decreases-words l = length l.cursor
