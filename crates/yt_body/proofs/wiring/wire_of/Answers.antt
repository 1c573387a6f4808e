use Rattle.std.proofs.Common.{refl, sym, subst}
use Rattle.yt_body.proofs.There.{there, inside, head_there, wire_read, code_there, sends_there, rates_there, gaps_there}
use Rattle.yt_cost.specs.Codes.{AreCodesOf}
use Rattle.yt_graph.specs.Picture.{graph_tree}
use Rattle.yt_rates.specs.Tables.{AreRatesOf}
use Rattle.yt_body.proofs.wiring.wire_of.Goals as goal

pub at-head-requires : goal.at-head-requires
at-head-requires c =
    let gr = c.args.accepted.now.graph in
    let o = inside (graph_tree gr) c.args.port c.args.out (there (graph_tree gr) c.args.port c.args.out c.requires) in
    head_there gr c.graph-graph.result.now c.graph-graph.ensures.graph c.args.port o.0 c.at.result.now c.at.ensures.get c.args.out c.requires

pub sends-requires-clause-last : goal.sends-requires-clause-last
sends-requires-clause-last c =
    let g = graph_tree c.args.accepted.now.graph in
    code_there g c.args.port c.args.out (there g c.args.port c.args.out c.requires) c.codes-codes.result.now (subst (AreCodesOf g) (sym c.codes-codes.ensures.codes) c.codes-codes.ensures.accepted.codes)

pub sends-requires-clause-last_out : goal.sends-requires-clause-last_out
sends-requires-clause-last_out c =
    let g = graph_tree c.args.accepted.now.graph in
    sends_there g c.args.port c.args.out (there g c.args.port c.args.out c.requires) c.codes-codes.result.now (subst (AreCodesOf g) (sym c.codes-codes.ensures.codes) c.codes-codes.ensures.accepted.codes)

pub period-requires-clause-last : goal.period-requires-clause-last
period-requires-clause-last c =
    let g = graph_tree c.args.accepted.now.graph in
    rates_there g c.args.port c.args.out (there g c.args.port c.args.out c.requires) c.rates-rates.result.now (subst (AreRatesOf g) (sym c.rates-rates.ensures.rates) c.rates-rates.ensures.accepted.fitting.rates)

pub gap-requires-clause-last : goal.gap-requires-clause-last
gap-requires-clause-last c =
    let g = graph_tree c.args.accepted.now.graph in
    rates_there g c.args.port c.args.out (there g c.args.port c.args.out c.requires) c.rates-rates.result.now (subst (AreRatesOf g) (sym c.rates-rates.ensures.rates) c.rates-rates.ensures.accepted.fitting.rates)

pub gap-requires-clause-last_out : goal.gap-requires-clause-last_out
gap-requires-clause-last_out c =
    let g = graph_tree c.args.accepted.now.graph in
    gaps_there g c.args.port c.args.out (there g c.args.port c.args.out c.requires) c.rates-rates.result.now (subst (AreRatesOf g) (sym c.rates-rates.ensures.rates) c.rates-rates.ensures.accepted.fitting.rates)

pub returns : goal.returns
returns c =
    let gr = c.args.accepted.now.graph in
    let g = graph_tree gr in
    let o = inside g c.args.port c.args.out (there g c.args.port c.args.out c.requires) in
    wire_read gr c.graph-graph.result.now c.graph-graph.ensures.graph c.args.port o.0 c.at.result.now c.at.ensures.get c.args.out c.at-head.result.now c.requires c.at-head.ensures.get c.codes-codes.result.now c.rates-rates.result.now _
    (subst (AreCodesOf g) (sym c.codes-codes.ensures.codes) c.codes-codes.ensures.accepted.codes)
    (subst (AreRatesOf g) (sym c.rates-rates.ensures.rates) c.rates-rates.ensures.accepted.fitting.rates)
    refl refl refl refl c.sends.ensures c.period.ensures.value c.gap.ensures
    (cc c.in_ok-ports.ensures) (cc c.in_ok-outputs.ensures)
