use Rattle.std.proofs.Common.{◌≡◌, true, arith}
use Rattle.yt_graph.specs.AstPicture.{port_decl_tree}
use Rattle.yt_grammar.specs.declared.sign.Keyword.TheVariants as keys
use Rattle.yt_grammar.specs.Inside.Reading.{at_key, port_reader}
use Rattle.yt_parser.proofs.parsing.Loops.{goes_on-begin, goes_on-picture}
use Rattle.yt_parser.proofs.parse_port.ports.Goals as goal

pub ports-init : goal.ports-init
ports-init c = (omega arith, rw c.new-ports.ensures (goes_on-begin (at_key keys.Port) port_reader c.args.cursor.now))

pub ports-preserved : goal.ports-preserved
ports-preserved c =
    let test : at_key keys.Port c.ports.cursor ≡ true = cc in
    (omega (arith, c.in_ok-decl.ensures.less), rw c.in_ok-push.ensures.ok (goes_on-picture port_decl_tree _ _ _ _ _ _ _ c.ports.invariant.1 test c.in_ok-decl.ensures.read c.in_ok-decl.ensures.less))
