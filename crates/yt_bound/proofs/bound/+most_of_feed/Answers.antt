use Rattle.std.proofs.Common.{◌-◌, ◌≤◌, ℕ, slice_get, sym, ap, subst, ◌∙◌, arith}
use Rattle.yt_cost.proofs.Lemmas.{port_is}
use Rattle.yt_graph.specs.declared.graph.Graph.{Graph}
use Rattle.yt_graph.specs.Picture.{PortTree, graph_tree, port_tree}
use Rattle.yt_serial.specs.Bounds.{greatest_passed, most_messages_within}
use Rattle.yt_bound.specs.Inside.Feeds.{IsFeed, most_fed}
use Rattle.yt_bound.proofs.Feeds.{same_tree, step_back}
use Rattle.yt_bound.proofs.Limits.{input_most}
use Rattle.yt_bound.proofs.bound.+most_of_feed.Goals as goal

pub most_of_feed-messages-requires : goal.most_of_feed-messages-requires
most_of_feed-messages-requires t c =
    let a = c.graph.ensures.accepted in
    let at = port_is c.args.accepted.now.graph.ports (c.in-Out.port - 1) c.at.result.now (ap (λ (x : Graph). slice_get x.ports (c.in-Out.port - 1)) (sym c.graph.ensures.graph) ∙ c.at.ensures.get) in
    let step = step_back (graph_tree c.args.accepted.now.graph) c.args.counted.now.trace.now a.well_formed a.fitting.limits c.requires.counts.few c.args.ports c.in-Out.port c.in-Out.out (port_tree c.at.result.now)
    (subst (IsFeed (graph_tree c.args.accepted.now.graph) c.args.ports) c.in-Out.is c.requires.feed) at in
    (omega (arith, step.some, c.decreases), (c.requires.counts, step.feed))

pub most_passed-requires-clause-fits : goal.most_passed-requires-clause-fits
most_passed-requires-clause-fits t c =
    let a = c.graph.ensures.accepted in
    let at = port_is c.args.accepted.now.graph.ports (c.in-Out.port - 1) c.at.result.now (ap (λ (x : Graph). slice_get x.ports (c.in-Out.port - 1)) (sym c.graph.ensures.graph) ∙ c.at.ensures.get) in
    let step = step_back (graph_tree c.args.accepted.now.graph) c.args.counted.now.trace.now a.well_formed a.fitting.limits c.requires.counts.few c.args.ports c.in-Out.port c.in-Out.out (port_tree c.at.result.now)
    (subst (IsFeed (graph_tree c.args.accepted.now.graph) c.args.ports) c.in-Out.is c.requires.feed) at in
    λ p here.
    let fits = subst (λ (n : ℕ). greatest_passed (port_tree c.at.result.now) c.in-Out.out n ≤ most_fed) (sym c.most_of_feed-messages.ensures.most) step.fits in
    subst (λ (q : PortTree). greatest_passed q c.in-Out.out c.most_of_feed-messages.result ≤ most_fed) (same_tree (port_tree c.at.result.now) p (sym step.at ∙ here)) fits

pub returns-in-Input-clause-small : goal.returns-in-Input-clause-small
returns-in-Input-clause-small t c =
    subst (λ (n : ℕ). n ≤ most_fed) (sym c.messages_of.ensures) (input_most c.args.counted.now.trace.now c.requires.counts.few c.in-Input.input)

pub returns-in-Out-clause-most : goal.returns-in-Out-clause-most
returns-in-Out-clause-most t c =
    let a = c.graph.ensures.accepted in
    let at = port_is c.args.accepted.now.graph.ports (c.in-Out.port - 1) c.at.result.now (ap (λ (x : Graph). slice_get x.ports (c.in-Out.port - 1)) (sym c.graph.ensures.graph) ∙ c.at.ensures.get) in
    let step = step_back (graph_tree c.args.accepted.now.graph) c.args.counted.now.trace.now a.well_formed a.fitting.limits c.requires.counts.few c.args.ports c.in-Out.port c.in-Out.out (port_tree c.at.result.now)
    (subst (IsFeed (graph_tree c.args.accepted.now.graph) c.args.ports) c.in-Out.is c.requires.feed) at in
    c.most_passed.ensures (port_tree c.at.result.now) step.at
    ∙ ap (greatest_passed (port_tree c.at.result.now) c.in-Out.out) c.most_of_feed-messages.ensures.most
    ∙ sym step.count
    ∙ ap (most_messages_within (graph_tree c.args.accepted.now.graph) c.args.counted.now.trace.now c.args.ports) (sym c.in-Out.is)

pub returns-in-Out-clause-small : goal.returns-in-Out-clause-small
returns-in-Out-clause-small t c =
    let a = c.graph.ensures.accepted in
    let at = port_is c.args.accepted.now.graph.ports (c.in-Out.port - 1) c.at.result.now (ap (λ (x : Graph). slice_get x.ports (c.in-Out.port - 1)) (sym c.graph.ensures.graph) ∙ c.at.ensures.get) in
    let step = step_back (graph_tree c.args.accepted.now.graph) c.args.counted.now.trace.now a.well_formed a.fitting.limits c.requires.counts.few c.args.ports c.in-Out.port c.in-Out.out (port_tree c.at.result.now)
    (subst (IsFeed (graph_tree c.args.accepted.now.graph) c.args.ports) c.in-Out.is c.requires.feed) at in
    subst (λ (n : ℕ). n ≤ most_fed)
    (sym (c.most_passed.ensures (port_tree c.at.result.now) step.at ∙ ap (greatest_passed (port_tree c.at.result.now) c.in-Out.out) c.most_of_feed-messages.ensures.most))
    step.fits
