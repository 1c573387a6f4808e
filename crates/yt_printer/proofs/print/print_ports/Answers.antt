use Rattle.std.proofs.Common.{◌≡◌, ◌+◌, ◌∷◌, drop, arith, drop-cons}
use Rattle.std.proofs.lemmas.Grind.{common_steps}
use Rattle.yt_graph.specs.AstPicture.{port_decl_tree}
use Rattle.yt_grammar.specs.Writable.{is_port}
use Rattle.yt_grammar.specs.CanonicalText.{port_layout}
use Rattle.yt_printer.proofs.printing.Texts.{next_text, next_passes}
use Rattle.yt_printer.proofs.print.print_ports.Goals as goal

pub print_port-requires : goal.print_port-requires
print_port-requires c =
    let xs = c.args.ports.now in
    let i = c.loop-port.port-index in
    let x = c.port-item.result in
    let cut : drop i xs ≡ x ∷ drop (i + 1) xs = grind (arith, common_steps, drop-cons xs i x c.loop-port-test.true) in
    (next_passes port_decl_tree is_port (drop i xs) (drop (i + 1) xs) x cut c.loop-port.invariant.writable).0

pub loop-port-preserved : goal.loop-port-preserved
loop-port-preserved c =
    let xs = c.args.ports.now in
    let i = c.loop-port.port-index in
    let x = c.port-item.result in
    let cut : drop i xs ≡ x ∷ drop (i + 1) xs = grind (arith, common_steps, drop-cons xs i x c.loop-port-test.true) in
    record {
      so_far = next_text port_decl_tree port_layout (drop i xs) (drop (i + 1) xs) x _ _ _ cut c.loop-port.invariant.so_far c.in_ok-print_port.ensures;
      writable = (next_passes port_decl_tree is_port (drop i xs) (drop (i + 1) xs) x cut c.loop-port.invariant.writable).1;
    }
