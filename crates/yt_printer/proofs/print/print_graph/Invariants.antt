use Rattle.std.proofs.Common.{◌≡◌, ◌++◌, drop, map, true}
use Rattle.std.specs.List.{flat_map, list_all}
use Rattle.yt_graph.specs.AstPicture.{item_tree}
use Rattle.yt_grammar.specs.Writable.{is_item}
use Rattle.yt_grammar.specs.CanonicalText.{item_layout, text_of}
use Rattle.yt_printer.proofs.print.print_graph.Given as goal

-- what was put so far, and then the parts that are left, is all
abbrev pub invariant-loop-item : goal.invariant-loop-item
invariant-loop-item l = record {
  so_far : l.out ++ text_of (flat_map item_layout (map item_tree (drop l.item-index l.item-items))) ≡ text_of (flat_map item_layout (map item_tree l.item-items));
  writable : list_all is_item (map item_tree (drop l.item-index l.item-items)) ≡ true;
}
