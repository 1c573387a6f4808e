use Rattle.std.proofs.Common.{map, length}
use Rattle.yt_graph.specs.AstPicture.{item_tree}
use Rattle.yt_grammar.specs.Inside.Reading.{many, at_item, item_reader}
use Rattle.yt_parser.proofs.parsing.Loops.{GoesOn}
use Rattle.yt_parser.proofs.parse_item.items.Given as goal

abbrev pub invariant-items : goal.invariant-items
invariant-items l = GoesOn (many at_item item_reader l.fn.cursor) at_item item_reader (map item_tree l.items) l.cursor

abbrev pub decreases-items : goal.decreases-items
decreases-items l = length l.cursor
