use Rattle.std.proofs.Common.{◌≡◌, ◌==◌, true, false, length, map}
use Rattle.std.proofs.lemmas.Result.{err_from_is_err_and}
use Rattle.yt_graph.specs.AstPicture.{item_tree}
use Rattle.yt_parser.proofs.parsing.Graphs.{graph_reader-end, graph_reader-more, graph_reader-stop}
use Rattle.yt_parser.proofs.parse_item.graph.Goals as goal

pub returns-in_err-items : goal.returns-in_err-items
returns-in_err-items c =
    let p = err_from_is_err_and c.from_residual.result c.from_residual.ensures.1 in
    record { read = rw (p.1, p.2) (graph_reader-stop c.args.cursor.now c.items.new.cursor c.in_err-items.field-0.0 c.in_err-items.ensures.read) }

pub returns-then-not-at_end : goal.returns-then-not-at_end
returns-then-not-at_end c =
    let more : (length c.items.new.cursor == 0) ≡ false = cc in
    record { read = graph_reader-more c.args.cursor.now (map item_tree c.in_ok-items.items) c.items.new.cursor c.in_ok-items.ensures.read more }

pub returns : goal.returns
returns c =
    let end : (length c.items.new.cursor == 0) ≡ true = cc in
    record { read = graph_reader-end c.args.cursor.now (map item_tree c.in_ok-items.items) c.items.new.cursor c.in_ok-items.ensures.read end }
