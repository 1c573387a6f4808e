use Rattle.std.proofs.Common.{◌≡◌, ◌++◌, codes, arith, ap}
use Rattle.std.specs.List.{flat_map}
use Rattle.yt_graph.specs.AstPicture.{ast_block_tree, port_decl_tree}
use Rattle.yt_graph.specs.AstWellFormed.{ast_block_depth}
use Rattle.yt_grammar.specs.CanonicalText.{braced, head_layout, out_layout, port_layout, stmts_layout, text_of}
use Rattle.yt_printer.proofs.printing.Texts.{ok_when, port_text}
use Rattle.yt_grammar.proofs.Lemmas.{port_within}
use Rattle.yt_printer.proofs.print.print_port.Goals as goal

pub print_block-requires : goal.print_block-requires
print_block-requires c =
    let same = ap (λ b. ast_block_depth (ast_block_tree b)) c.deref.ensures.value in
    omega (arith, same, port_within (port_decl_tree c.args.port.now) c.requires)

pub returns : goal.returns
returns c =
    let p = port_decl_tree c.args.port.now in
    ok_when c.put-2.result (c.put-2.new.self ≡ c.print_block.new.out ++ codes "\n") (c.put-2.new.self ≡ c.args.out.now ++ text_of (port_layout p))
    (port_text (head_layout p) (flat_map out_layout p.outs) (braced 1 (stmts_layout 2 p.body)) _ _ _ _ _ _ c.in_ok-print_head.ensures (rw c.as_slice.ensures at c.in_ok-print_outs.ensures) c.in_ok-put.ensures (rw c.deref.ensures.value at c.in_ok-print_block.ensures))
    c.put-2.ensures
