use Rattle.std.proofs.Common.{◌+◌, cond, [], ◌∷◌, ◌++◌, map, slice_get, Some, sym, ap, ◌∙◌}
use Rattle.std.proofs.lemmas.Option.{slice_get-get_or}
use Rattle.yt_graph.specs.Picture.{PortTree, port_tree}
use Rattle.yt_cost.proofs.Lemmas.{port_is}
use Rattle.yt_body.specs.Wiring.{is_fed, ports_fed}
use Rattle.yt_body.proofs.Numbers.{numbers_more}
use Rattle.yt_body.proofs.wiring.ports_fed.Goals as goal

pub loop-place-preserved : goal.loop-place-preserved
loop-place-preserved c =
    let ports = c.args.ports.now in
    let place = c.loop-place.place in
    let p = c.index-ports-place.result in
    let at = slice_get-get_or ports place p c.loop-place-test.true ∙ ap Some (sym c.index-ports-place.is) in
    numbers_more (λ (q : PortTree). is_fed c.args.port c.args.out q.feed) (map port_tree ports) place (port_tree p) c.loop-place.numbers c.add_where.new.numbers (ports_fed c.args.port c.args.out (map port_tree ports))
    (port_is ports place p at)
    (c.in_ok-add_where.ensures ∙ ap (λ b. c.loop-place.numbers ++ cond b ((place + 1) ∷ []) []) c.is_fed.ensures)
    c.loop-place.invariant
