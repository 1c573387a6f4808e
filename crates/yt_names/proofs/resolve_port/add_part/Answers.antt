use Rattle.std.proofs.Common.{◌≡◌, ℕ, List, ◌++◌, map, Option, ap, sym, ◌∙◌}
use Rattle.std.proofs.lemmas.Result.{on_ok_weaker}
use Rattle.yt_graph.specs.declared.ast.Word.{Word}
use Rattle.yt_graph.specs.declared.ast.VarDecl.{VarDecl}
use Rattle.yt_graph.specs.declared.ast.PortDecl.{PortDecl}
use Rattle.yt_graph.specs.declared.ast.Item.{Item}
use Rattle.yt_graph.specs.declared.ast.Item.TheVariants.{Process}
use Rattle.yt_graph.specs.declared.operator.OpHead.{OpHead}
use Rattle.yt_graph.specs.AstPicture.{PortDeclTree, ItemTree, item_tree}
use Rattle.yt_graph.specs.Picture.{port_tree}
use Rattle.yt_name_faults.specs.Names.{var_decls}
use Rattle.yt_name_faults.specs.Parts.{port_of, trees}
use Rattle.yt_name_faults.specs.Paths.{ports_of}
use Rattle.yt_names.specs.Resolved.{resolved_port, resolved_ports_of, resource_name}
use Rattle.yt_name_faults.proofs.Lemmas.{trees_are}
use Rattle.yt_names.proofs.resolve_port.add_part.Goals as goal

-- the ports of a process, by its resource, its variables and its ports
ports_are : (all : List ItemTree) (ops : List OpHead) (first : ℕ) (item : Item) (name : Word) (inside : Option Word) (vars : List VarDecl) (decls : List PortDecl)
    (key : List ℕ) (own : List VarDecl) (ports : List PortDeclTree)
    → item ≡ Process name inside vars decls → key ≡ resource_name name inside → own ≡ var_decls item → ports ≡ ports_of (item_tree item)
    → map (resolved_port all name.text key ops own first) ports ≡ resolved_ports_of all ops first (item_tree item)
ports_are all ops first item name inside vars decls key own ports is keyed owned placed =
    ap (λ k. map (resolved_port all name.text k ops own first) ports) keyed
    ∙ ap (λ v. map (resolved_port all name.text (resource_name name inside) ops v first) ports) (owned ∙ ap var_decls is)
    ∙ ap (map (resolved_port all name.text (resource_name name inside) ops vars first)) (placed ∙ ap (λ i. ports_of (item_tree i)) is)
    ∙ ap (λ i. resolved_ports_of all ops first (item_tree i)) (sym is)

pub returns-in_ok-add_ports-in-Process-clause-ports : goal.returns-in_ok-add_ports-in-Process-clause-ports
returns-in_ok-add_ports-in-Process-clause-ports c =
    let all = trees c.args.heads.now.index.now in
    let ops = c.args.heads.now.ops.now in
    let part = c.args.part.now in
    let process = c.in-Process in
    let before = map port_tree c.args.ports.now in
    let key = c.resource_word.ensures ∙ ap (resource_name process.name) c.as_ref.ensures.value in
    let ports = ap (map port_of) c.deref.ensures.value ∙ trees_are part.ports.items part.item.now part.ports_are in
    let resolved = ports_are all ops c.len.result part.item.now process.name process.inside process.vars process.ports
    c.resource_word.result.now.text part.vars (map port_of c.deref.result.now) process.is key part.vars_are ports in
    on_ok_weaker c.add_vars.result
    (λ _. c.in_ok-add_ports-in-Process.ensures
    ∙ ap (λ l. before ++ l) (resolved ∙ ap (λ n. resolved_ports_of all ops n (item_tree part.item.now)) c.len.ensures))
    c.add_vars.ensures
