use Rattle.std.proofs.Common.{◌≡◌, ◌+◌, ℕ, length, slice_get, sym, ap, subst, ◌∙◌, arith}
use Rattle.std.proofs.lemmas.List.{length-map}
use Rattle.yt_cost.proofs.Lemmas.{port_is}
use Rattle.yt_graph.specs.declared.graph.Graph.{Graph}
use Rattle.yt_graph.specs.Picture.{graph_tree, port_tree}
use Rattle.yt_serial.specs.Bounds.{most_messages, most_messages_within}
use Rattle.yt_bound.specs.Inside.Feeds.{IsFeed}
use Rattle.yt_bound.proofs.Feeds.{port_feed, sum_step}
use Rattle.yt_bound.proofs.bound.jobs_of_ports.Goals as goal

pub most_of_feed-jobs-requires-clause-feed : goal.most_of_feed-jobs-requires-clause-feed
most_of_feed-jobs-requires-clause-feed c =
    let gr = c.args.accepted.now.graph in
    let q = c.at.result.now in
    let at = port_is gr.ports c.loop-place.place q (ap (λ (x : Graph). slice_get x.ports c.loop-place.place) (sym c.graph.ensures.graph) ∙ c.at.ensures.get) in
    let long : length (graph_tree gr).ports ≡ c.len.result = length-map gr.ports port_tree ∙ ap (λ (x : Graph). length x.ports) (sym c.graph.ensures.graph) ∙ sym c.len.ensures in
    subst (λ (n : ℕ). IsFeed (graph_tree gr) n q.feed) long (port_feed (graph_tree gr) c.graph.ensures.accepted.well_formed c.loop-place.place (port_tree q) at)

pub loop-place-preserved : goal.loop-place-preserved
loop-place-preserved c =
    let gr = c.args.accepted.now.graph in
    let trace = c.args.counted.now.trace.now in
    let q = c.at.result.now in
    let at = port_is gr.ports c.loop-place.place q (ap (λ (x : Graph). slice_get x.ports c.loop-place.place) (sym c.graph.ensures.graph) ∙ c.at.ensures.get) in
    let long : length (graph_tree gr).ports ≡ c.len.result = length-map gr.ports port_tree ∙ ap (λ (x : Graph). length x.ports) (sym c.graph.ensures.graph) ∙ sym c.len.ensures in
    let most = c.most_of_feed-jobs.ensures.most ∙ ap (λ (n : ℕ). most_messages_within (graph_tree gr) trace n q.feed) (sym long) in
    let small = c.most_of_feed-jobs.ensures.small in
    let before = c.loop-place.invariant.small in
    record {
      summed = sum_step (most_messages (graph_tree gr) trace) (graph_tree gr).ports c.loop-place.place (port_tree q) at c.loop-place.jobs (c.loop-place.jobs + c.most_of_feed-jobs.result) _
          (ap (λ (n : ℕ). c.loop-place.jobs + n) most) c.loop-place.invariant.summed;
      small = omega arith;
    }
