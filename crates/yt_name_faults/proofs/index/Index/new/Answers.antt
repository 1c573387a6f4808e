use Rattle.std.proofs.Common.{◌≡◌, ◌+◌, ◌∷◌, map, drop, length, ap, ◌∙◌}
use Rattle.std.specs.Borrow.{Bor}
use Rattle.yt_graph.specs.declared.ast.PortDecl.{PortDecl}
use Rattle.yt_graph.specs.AstPicture.{PortDeclTree, item_tree, port_decl_tree}
use Rattle.yt_name_faults.specs.Parts.{placed_of, trees}
use Rattle.yt_name_faults.specs.Paths.{Placed, placed_from, all_ports, ports_of}
use Rattle.yt_name_faults.proofs.TreeLemmas.{cut}
use Rattle.yt_name_faults.proofs.ListLemmas.{grows_by, joins, count_of}
use Rattle.yt_name_faults.proofs.index.Index.new.Goals as goal

pub loop-item-preserved : goal.loop-item-preserved
loop-item-preserved c =
    let all = c.args.all.now in
    let i = c.loop-item.item-index in
    let item = c.item-item.result in
    let it = item_tree item in
    let rest = drop (i + 1) all in
    let here = cut all i item c.loop-item-test.true c.item-item.is in
    let part = c.in_ok-part.part in
    let port_of : Bor PortDecl → PortDeclTree = λ p. port_decl_tree p.now in
    let n = length c.loop-item.ports.items in
    let counted : n + length (ports_of it) ≡ length c.add_part.new.all.items = count_of port_of c.loop-item.ports.items c.add_part.new.all.items _ c.in_ok-part.ensures.ports in
    let z : Placed = record { first = n; item = it } in
    let same : placed_of part ≡ z = ap (λ f. record { first = f; item = item_tree part.item.now }) c.in_ok-part.ensures.first ∙ ap (λ t. record { first = n; item = t }) c.in_ok-part.ensures.item in
    record {
      parts = grows_by placed_of c.loop-item.parts.items c.push.new.self.items part z _ _ _ c.in_ok-push.ensures.items same
          (ap (λ l. placed_from n (trees l)) here ∙ ap (λ k. z ∷ placed_from k (trees rest)) counted) c.loop-item.invariant.parts;
      ports = joins (map port_of c.loop-item.ports.items) (map port_of c.add_part.new.all.items) (ports_of it) _ _ _ c.in_ok-part.ensures.ports
          (ap (λ l. all_ports (trees l)) here) c.loop-item.invariant.ports;
    }
