use Rattle.std.proofs.Common.{◌≡◌, ◌≢◌, rules}
use Rattle.std.proofs.lemmas.Iterator.{YieldsList-from_slice, cases_from_any}
use Rattle.yt_graph.specs.declared.port.Feed.TheVariants.{Input}
use Rattle.yt_graph.specs.declared.port.Port.{Port}
use Rattle.yt_runner.proofs.Feeding.{fed_none, fed_some}
use Rattle.yt_runner.proofs.running.feeds_some.Goals as goal

pub returns-clause-some : goal.returns-clause-some
returns-clause-some c =
    let gr = c.args.accepted.now.graph in
    let found =
    cases_from_any _ _ c.any.result (λ (p : Port). p.feed ≡ Input c.args.input) (λ (p : Port). p.feed ≢ Input c.args.input) c.any.ensures.ran (YieldsList-from_slice gr.ports cc)
    (λ x q k. search rules) (λ x q k. search rules) in
    fed_some gr c.args.input c.any.result found

pub returns-clause-none : goal.returns-clause-none
returns-clause-none c =
    let gr = c.args.accepted.now.graph in
    let found =
    cases_from_any _ _ c.any.result (λ (p : Port). p.feed ≡ Input c.args.input) (λ (p : Port). p.feed ≢ Input c.args.input) c.any.ensures.ran (YieldsList-from_slice gr.ports cc)
    (λ x q k. search rules) (λ x q k. search rules) in
    fed_none gr c.args.input c.any.result found
