use Rattle.std.proofs.Common.{◌≡◌, ◌+◌, ℕ, suc, length, slice_get, sym, ap, subst, ◌∙◌, arith, add-one}
use Rattle.std.proofs.lemmas.List.{length-map}
use Rattle.yt_graph.specs.declared.graph.Graph.{Graph}
use Rattle.yt_graph.specs.declared.port.Feed.TheVariants.{Out}
use Rattle.yt_graph.specs.Picture.{graph_tree, port_tree}
use Rattle.yt_serial.specs.Bounds.{most_messages_within}
use Rattle.yt_bound.specs.Bounds.{most_shown}
use Rattle.yt_bound.specs.Inside.Feeds.{IsFeed}
use Rattle.yt_bound.proofs.Feeds.{output_feed, sum_step}
use Rattle.yt_bound.proofs.bound.lines_of_outputs.Goals as goal

pub overflow_add-len : goal.overflow_add-len
overflow_add-len c =
    let gr = c.args.accepted.now.graph in
    let long : length (graph_tree gr).ports ≡ c.len.result = length-map gr.ports port_tree ∙ ap (λ (x : Graph). length x.ports) (sym c.graph-graph.ensures.graph) ∙ sym c.len.ensures in
    let few = c.graph-graph.ensures.accepted.well_formed.counts.ports in
    omega (arith, long, few)

pub most_of_feed-lines-requires-clause-feed : goal.most_of_feed-lines-requires-clause-feed
most_of_feed-lines-requires-clause-feed c =
    let gr = c.args.accepted.now.graph in
    let o = c.at-output.result.now in
    let at = ap (λ (x : Graph). slice_get x.outputs c.loop-place.place) (sym c.graph-graph.ensures.graph) ∙ c.at-output.ensures.get in
    let long : suc (length (graph_tree gr).ports) ≡ c.len.result + 1 =
    ap suc (length-map gr.ports port_tree ∙ ap (λ (x : Graph). length x.ports) (sym c.graph-graph.ensures.graph) ∙ sym c.len.ensures) ∙ sym (add-one c.len.result) in
    subst (λ (n : ℕ). IsFeed (graph_tree gr) n (Out o.port o.out)) long (output_feed (graph_tree gr) c.graph-graph.ensures.accepted.well_formed c.loop-place.place o at)

pub loop-place-preserved : goal.loop-place-preserved
loop-place-preserved c =
    let gr = c.args.accepted.now.graph in
    let trace = c.args.counted.now.trace.now in
    let o = c.at-output.result.now in
    let at = ap (λ (x : Graph). slice_get x.outputs c.loop-place.place) (sym c.graph-graph.ensures.graph) ∙ c.at-output.ensures.get in
    let long : suc (length (graph_tree gr).ports) ≡ c.len.result + 1 =
    ap suc (length-map gr.ports port_tree ∙ ap (λ (x : Graph). length x.ports) (sym c.graph-graph.ensures.graph) ∙ sym c.len.ensures) ∙ sym (add-one c.len.result) in
    let most = c.most_of_feed-lines.ensures.most ∙ ap (λ (n : ℕ). most_messages_within (graph_tree gr) trace n (Out o.port o.out)) (sym long) in
    let small = c.most_of_feed-lines.ensures.small in
    let before = c.loop-place.invariant.small in
    record {
      summed = sum_step (most_shown (graph_tree gr) trace) (graph_tree gr).outputs c.loop-place.place o at c.loop-place.lines (c.loop-place.lines + c.most_of_feed-lines.result) _
          (ap (λ (n : ℕ). c.loop-place.lines + n) most) c.loop-place.invariant.summed;
      small = omega arith;
    }
