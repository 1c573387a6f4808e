use Rattle.std.proofs.Common.{◌≡◌, drop, map}
use Rattle.std.specs.List.{list_all}
use Rattle.yt_graph.specs.AstPicture.{item_tree}
use Rattle.yt_grammar.specs.Writable.{is_item}
use Rattle.yt_grammar.proofs.writable.items_ok.Given as goal

-- what is left decides
abbrev pub invariant-loop-item : goal.invariant-loop-item
invariant-loop-item l = list_all is_item (map item_tree (drop l.item-index l.items)) ≡ list_all is_item (map item_tree l.items)
