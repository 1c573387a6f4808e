use Rattle.std.proofs.Common.{◌≤◌, map, length}
use Rattle.yt_graph.specs.AstPicture.{port_decl_tree}
use Rattle.yt_grammar.specs.declared.sign.Keyword.TheVariants as keys
use Rattle.yt_grammar.specs.Inside.Reading.{at_key, many, port_reader}
use Rattle.yt_parser.proofs.parsing.Loops.{GoesOn}
use Rattle.yt_parser.proofs.parse_port.ports.Given as goal

abbrev pub invariant-ports : goal.invariant-ports
invariant-ports l = (length l.cursor ≤ length l.fn.cursor)
    × GoesOn (many (at_key keys.Port) port_reader l.fn.cursor) (at_key keys.Port) port_reader (map port_decl_tree l.ports) l.cursor

abbrev pub decreases-ports : goal.decreases-ports
decreases-ports l = length l.cursor
