use Rattle.std.proofs.Common.{◌-◌, length, ap, ◌∙◌}
use Rattle.std.proofs.lemmas.Option.{slice_get_within, get_or_from_slice_get}
use Rattle.yt_graph.specs.Picture.{graph_tree}
use Rattle.yt_rates.specs.Rates.{stream_within}
use Rattle.yt_rates.proofs.Rated.{known_out}
use Rattle.yt_rates.proofs.rating.stream_to.Goals as goal

pub bounds-deref-out : goal.bounds-deref-out
bounds-deref-out c =
    let g = graph_tree c.args.graph.now in
    let s = stream_within g (length g.ports) c.args.feed in
    slice_get_within c.deref.result.now (c.in-Out.out - 1) s (known_out g c.args.table.now c.args.feed s c.in-Out.port c.in-Out.out c.index-table-port.result c.deref.result.now c.in-Out.is c.requires c.index-table-port.is (c.deref.ensures.0 ∙ ap (λ k. k.outs) c.kept.view_is))

pub returns-in-Out : goal.returns-in-Out
returns-in-Out c =
    let g = graph_tree c.args.graph.now in
    let s = stream_within g (length g.ports) c.args.feed in
    get_or_from_slice_get c.deref.result.now (c.in-Out.out - 1) s _ (known_out g c.args.table.now c.args.feed s c.in-Out.port c.in-Out.out c.index-table-port.result c.deref.result.now c.in-Out.is c.requires c.index-table-port.is (c.deref.ensures.0 ∙ ap (λ k. k.outs) c.kept.view_is))
