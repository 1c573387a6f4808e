use Rattle.std.proofs.Common.{◌≡◌, ◌++◌, codes, map}
use Rattle.std.specs.List.{flat_map, list_all}
use Rattle.yt_graph.specs.AstPicture.{port_decl_tree, item_tree}
use Rattle.yt_graph.specs.Names.{is_name}
use Rattle.yt_grammar.specs.Writable.{is_inside, is_var}
use Rattle.yt_grammar.specs.CanonicalText.{inside_layout, var_layout, port_layout, item_layout, text_of}
use Rattle.yt_printer.proofs.printing.Texts.{ok_when, process_text}
use Rattle.yt_grammar.proofs.Lemmas.{both}
use Rattle.yt_printer.proofs.print.print_item.Goals as goal

pub print_ports-requires : goal.print_ports-requires
print_ports-requires c =
    let i = c.in-Process in
    let all = rw i.is at c.requires in
    let a = both (is_name i.name.text) _ all in
    let b = both (is_inside i.inside) _ a.1 in
    let d = both (list_all is_var i.vars) _ b.1 in
    rw c.as_slice-in-Process.ensures d.1

pub returns-in_ok-print_ports-in-Process : goal.returns-in_ok-print_ports-in-Process
returns-in_ok-print_ports-in-Process c =
    let i = c.in-Process in
    ok_when c.put-in-Process-3.result (c.put-in-Process-3.new.self ≡ c.print_ports.new.out ++ codes "}\n") (c.put-in-Process-3.new.self ≡ c.args.out.now ++ text_of (item_layout (item_tree c.args.item.now)))
    (λ last. rw i.is (process_text i.name.text (inside_layout i.inside) (flat_map var_layout i.vars) (flat_map port_layout (map port_decl_tree i.ports)) _ _ _ _ _ _ _ _ c.in_ok-put-in-Process.ensures c.in_ok-put_word-in-Process.ensures c.in_ok-print_inside-in-Process.ensures c.in_ok-put-in-Process-2.ensures (rw c.as_slice.ensures at c.in_ok-print_vars-in-Process.ensures) (rw c.as_slice-in-Process.ensures at c.in_ok-print_ports-in-Process.ensures) last))
    c.put-in-Process-3.ensures
