use Rattle.std.proofs.Common.{◌≡◌, ◌+◌, ◌≤◌, None, Some, sym, ◌∙◌, subst}
use Rattle.std.proofs.lemmas.Option.{same_Some}
use Rattle.std.proofs.lemmas.Result.{err_from_is_err_and}
use Rattle.yt_graph.specs.Picture.{graph_tree, port_tree}
use Rattle.yt_list.proofs.Lemmas.{numbered_next}
use Rattle.yt_cost.proofs.Lemmas.{port_is, fine_port}
use Rattle.yt_rates.specs.declared.fault.RateFault.TheVariants.{Over}
use Rattle.yt_rates.specs.Faults.{port_fault}
use Rattle.yt_rates.specs.Inside.Rating.{IsRated}
use Rattle.yt_rates.proofs.Rated.{coming, rated_port, outs_decide, too_long}
use Rattle.yt_rates.proofs.rating.rate_port.Goals as goal

pub stream_to-stream-requires : goal.stream_to-stream-requires
stream_to-stream-requires c =
    let g = graph_tree c.args.graph.now in
    let p = port_tree c.at-port.result.now in
    let there = port_is c.args.graph.now.ports c.args.place c.at-port.result.now c.at-port.ensures.get in
    (coming g c.args.place p c.args.table.now c.requires.well_formed there (c.requires.rated p there)).known

pub returns-then-stream-gt-MOST_TICKS-clause-err : goal.returns-then-stream-gt-MOST_TICKS-clause-err
returns-then-stream-gt-MOST_TICKS-clause-err c x is =
    let g = graph_tree c.args.graph.now in
    let p = port_tree c.at-port.result.now in
    let there = port_is c.args.graph.now.ports c.args.place c.at-port.result.now c.at-port.ensures.get in
    let number = c.args.place + 1 in
    let s = c.stream_to-stream.result in
    subst (λ x. port_fault g number x ≡ Some (Over number s.period)) (same_Some p x (sym there ∙ is)) (too_long g number p s c.stream_to-stream.ensures c.if-stream-gt-MOST_TICKS.true)

pub rate_outs-requires-clause-sends : goal.rate_outs-requires-clause-sends
rate_outs-requires-clause-sends c x is =
    let ports = (graph_tree c.args.graph.now).ports in
    let p = port_tree c.at-port.result.now in
    let there = port_is c.args.graph.now.ports c.args.place c.at-port.result.now c.at-port.ensures.get in
    (c.requires.codes.each (c.args.place + 1) p (numbered_next ports c.args.place ∙ there) x is).sends

pub rate_outs-requires-clause-few : goal.rate_outs-requires-clause-few
rate_outs-requires-clause-few c =
    let there = port_is c.args.graph.now.ports c.args.place c.at-port.result.now c.at-port.ensures.get in
    (fine_port (graph_tree c.args.graph.now) c.args.place (port_tree c.at-port.result.now) c.requires.well_formed there).6

pub rate_outs-requires-clause-fine : goal.rate_outs-requires-clause-fine
rate_outs-requires-clause-fine c =
    let there = port_is c.args.graph.now.ports c.args.place c.at-port.result.now c.at-port.ensures.get in
    (fine_port (graph_tree c.args.graph.now) c.args.place (port_tree c.at-port.result.now) c.requires.well_formed there).8

pub rate_outs-requires-clause-start : goal.rate_outs-requires-clause-start
rate_outs-requires-clause-start c =
    let g = graph_tree c.args.graph.now in
    let p = port_tree c.at-port.result.now in
    let there = port_is c.args.graph.now.ports c.args.place c.at-port.result.now c.at-port.ensures.get in
    subst (λ s. s.start ≤ 4000000) (sym c.stream_to-stream.ensures) (coming g c.args.place p c.args.table.now c.requires.well_formed there (c.requires.rated p there)).start

pub returns-in_err-outs-clause-err : goal.returns-in_err-outs-clause-err
returns-in_err-outs-clause-err c =
    let g = graph_tree c.args.graph.now in
    let p = port_tree c.at-port.result.now in
    let number = c.args.place + 1 in
    let fault = c.in_err-outs.field-0.0 in
    let there = port_is c.args.graph.now.ports c.args.place c.at-port.result.now c.at-port.ensures.get in
    let exit = err_from_is_err_and c.from_residual.result c.from_residual.ensures.1 in
    let here = outs_decide g number p c.stream_to-stream.result (Some fault) c.stream_to-stream.ensures c.if-stream-gt-MOST_TICKS.false c.in_err-outs.ensures.err in
    rw (exit.1, exit.2) (λ x is. subst (λ x. port_fault g number x ≡ Some fault) (same_Some p x (sym there ∙ is)) here)

pub returns-clause-rated : goal.returns-clause-rated
returns-clause-rated c x is =
    let g = graph_tree c.args.graph.now in
    let p = port_tree c.at-port.result.now in
    let s = c.stream_to-stream.result in
    let there = port_is c.args.graph.now.ports c.args.place c.at-port.result.now c.at-port.ensures.get in
    let comes = coming g c.args.place p c.args.table.now c.requires.well_formed there (c.requires.rated p there) in
    let rated = rated_port g p c.args.table.now s c.in_ok-outs.outs.items comes c.stream_to-stream.ensures c.if-stream-gt-MOST_TICKS.false c.in_ok-outs.ensures.outs c.in_ok-outs.ensures.limits in
    subst (λ x. IsRated g x (record { stream = s; outs = c.in_ok-outs.outs.items })) (same_Some p x (sym there ∙ is)) rated

pub returns-clause-no_fault : goal.returns-clause-no_fault
returns-clause-no_fault c x is =
    let g = graph_tree c.args.graph.now in
    let p = port_tree c.at-port.result.now in
    let number = c.args.place + 1 in
    let there = port_is c.args.graph.now.ports c.args.place c.at-port.result.now c.at-port.ensures.get in
    subst (λ x. port_fault g number x ≡ None) (same_Some p x (sym there ∙ is)) (outs_decide g number p c.stream_to-stream.result None c.stream_to-stream.ensures c.if-stream-gt-MOST_TICKS.false c.in_ok-outs.ensures.no_fault)
