use Rattle.std.proofs.Common.{◌≡◌, ◌+◌, List, ℕ, ◌∷◌, ◌++◌, drop, map, arith, drop-cons, ap, subst, sym, true}
use Rattle.std.specs.List.{flat_map, list_all}
use Rattle.std.proofs.lemmas.Grind.{common_steps}
use Rattle.yt_graph.specs.AstPicture.{item_tree, ast_tree}
use Rattle.yt_grammar.specs.Writable.{is_item}
use Rattle.yt_grammar.specs.SamePlaces.{ReadsAs}
use Rattle.yt_grammar.specs.CanonicalText.{item_layout, text_of, canonical_text}
use Rattle.yt_printer.proofs.printing.Texts.{next_text, next_passes}
use Rattle.yt_grammar.proofs.Lemmas.{spelled_writable}
use Rattle.yt_printer.proofs.printing.Law.{printed_is_read}
use Rattle.yt_printer.proofs.print.print_graph.Goals as goal

pub print_item-requires : goal.print_item-requires
print_item-requires c =
    let xs = c.as_slice-item-items.result.now in
    let i = c.loop-item.item-index in
    let x = c.item-item.result in
    let cut : drop i xs ≡ x ∷ drop (i + 1) xs = grind (arith, common_steps, drop-cons xs i x c.loop-item-test.true) in
    (next_passes item_tree is_item (drop i xs) (drop (i + 1) xs) x cut c.loop-item.invariant.writable).0

pub loop-item-preserved : goal.loop-item-preserved
loop-item-preserved c =
    let xs = c.as_slice-item-items.result.now in
    let i = c.loop-item.item-index in
    let x = c.item-item.result in
    let cut : drop i xs ≡ x ∷ drop (i + 1) xs = grind (arith, common_steps, drop-cons xs i x c.loop-item-test.true) in
    record {
      so_far = next_text item_tree item_layout (drop i xs) (drop (i + 1) xs) x _ _ _ cut c.loop-item.invariant.so_far c.in_ok-print_item.ensures;
      writable = (next_passes item_tree is_item (drop i xs) (drop (i + 1) xs) x cut c.loop-item.invariant.writable).1;
    }

pub loop-item-init : goal.loop-item-init
loop-item-init c = record { so_far = ap (λ (b : List ℕ). b ++ text_of (flat_map item_layout (map item_tree c.as_slice-item-items.result.now))) c.new-out.ensures; writable = subst (λ xs. list_all is_item (map item_tree xs) ≡ true) (sym c.as_slice-item-items.ensures) (spelled_writable (ast_tree c.args.ast.now) c.requires.0 c.requires.1) }

pub returns-clause-read : goal.returns-clause-read
returns-clause-read c =
    let tree = ast_tree c.args.ast.now in
    let same : c.loop-item.out ≡ canonical_text tree = grind (arith, common_steps) in
    subst (λ text. ReadsAs text tree) (sym same) (printed_is_read tree c.requires)
