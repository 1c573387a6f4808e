use Rattle.std.proofs.Common.{◌≡◌, true}
use Rattle.yt_graph.specs.AstPicture.{item_tree}
use Rattle.yt_grammar.specs.Inside.Reading.{at_item, item_reader}
use Rattle.yt_parser.proofs.parsing.Loops.{goes_on-begin, goes_on-picture}
use Rattle.yt_parser.proofs.parse_item.items.Goals as goal

pub items-init : goal.items-init
items-init c = rw c.new-items.ensures (goes_on-begin at_item item_reader c.args.cursor.now)

pub items-preserved : goal.items-preserved
items-preserved c =
    let test : at_item c.items.cursor ≡ true = cc in
    rw c.in_ok-push.ensures.ok (goes_on-picture item_tree _ _ _ _ _ _ _ c.items.invariant test c.in_ok-next.ensures.read c.in_ok-next.ensures.less)
