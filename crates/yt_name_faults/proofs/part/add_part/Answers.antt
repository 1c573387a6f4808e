use Rattle.std.proofs.Common.{◌≡◌, ◌+◌, ◌++◌, length, map, ap, sym, ◌∙◌, arith}
use Rattle.std.specs.Borrow.{Bor}
use Rattle.std.proofs.lemmas.List.{length-map}
use Rattle.yt_graph.specs.declared.ast.PortDecl.{PortDecl}
use Rattle.yt_graph.specs.AstPicture.{port_decl_tree}
use Rattle.yt_name_faults.specs.declared.part.PortPart.{PortPart}
use Rattle.yt_name_faults.proofs.ListLemmas.{count_of}
use Rattle.yt_name_faults.proofs.PartLemmas.{decls_are}
use Rattle.yt_name_faults.proofs.part.add_part.Goals as goal

pub invariant_of-result-clause-fits : goal.invariant_of-result-clause-fits
invariant_of-result-clause-fits c =
    let decls = c.ports_of-decls.result.now in
    let all = c.add_ports.new.all.items in
    let parts = c.in_ok-ports.ports.items in
    let count : length c.args.all.now.items + length (map port_decl_tree decls) ≡ length all =
    count_of (λ (p : Bor PortDecl). port_decl_tree p.now) c.args.all.now.items all _ c.in_ok-ports.ensures.all in
    let same : length parts ≡ length (map port_decl_tree decls) = sym (length-map parts (λ (p : PortPart). p.decl.now)) ∙ ap length c.in_ok-ports.ensures.ports ∙ sym (length-map decls port_decl_tree) in
    omega arith

pub returns-clause-ports : goal.returns-clause-ports
returns-clause-ports c =
    c.in_ok-ports.ensures.all
    ∙ ap (λ l. map (λ (p : Bor PortDecl). port_decl_tree p.now) c.args.all.now.items ++ l) (ap (map port_decl_tree) c.ports_of-decls.ensures ∙ decls_are c.args.item.now)
