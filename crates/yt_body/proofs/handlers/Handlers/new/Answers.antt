use Rattle.std.proofs.Common.{◌≡◌, ℕ, List, refl, ap, sym, subst, ◌∙◌}
use Rattle.yt_chan.specs.declared.wire.Wire.{Wire}
use Rattle.yt_chan.specs.Changes.{IsInitial}
use Rattle.yt_chan.specs.Wires.{AreWires}
use Rattle.yt_graph.specs.Picture.{graph_tree}
use Rattle.yt_body.specs.Wiring.{widths_of, wires_of}
use Rattle.yt_body.proofs.Facts.{has_wires}
use Rattle.yt_body.proofs.Fresh.{is_start, runs_made, start_sound, values_made, widths_made}
use Rattle.yt_body.proofs.handlers.Handlers.new.Goals as goal

pub with_room-requires : goal.with_room-requires
with_room-requires c =
    let own = c.args.accepted.now.graph in
    let same = c.graph-graph.ensures.graph in
    let widths : c.deref.result.now ≡ widths_of (graph_tree own) = widths_made c.graph-graph.result.now own c.as_slice.result.now c.deref.result.now same c.as_slice.ensures (c.deref.ensures.value ∙ c.in_ok-widths.ensures) in
    let wires : c.deref-2.result.now ≡ wires_of (graph_tree own) = c.deref-2.ensures.value ∙ c.in_ok-wires.ensures in
    subst (λ (ns : List ℕ). AreWires ns c.deref-2.result.now) (sym widths)
    (subst (λ (ws : List Wire). AreWires (widths_of (graph_tree own)) ws) (sym wires) (has_wires c.args.accepted.now c.graph-graph.ensures.accepted))

pub invariant_of-result : goal.invariant_of-result
invariant_of-result c =
    let own = c.args.accepted.now.graph in
    let same = c.graph-graph.ensures.graph in
    let widths : c.deref.result.now ≡ widths_of (graph_tree own) = widths_made c.graph-graph.result.now own c.as_slice.result.now c.deref.result.now same c.as_slice.ensures (c.deref.ensures.value ∙ c.in_ok-widths.ensures) in
    let wires : c.deref-2.result.now ≡ wires_of (graph_tree own) = c.deref-2.ensures.value ∙ c.in_ok-wires.ensures in
    let initial = subst (λ (ns : List ℕ). IsInitial ns (wires_of (graph_tree own)) c.in_ok-with_room.field-0) widths
    (subst (λ (ws : List Wire). IsInitial c.deref.result.now ws c.in_ok-with_room.field-0) wires c.in_ok-with_room.ensures) in
    let runs = runs_made c.graph-graph.result.now own c.len.result c.in_ok-runs_of.field-0.items same c.len.ensures c.in_ok-runs_of.ensures in
    let values = values_made c.graph-graph.result.now own c.as_slice-2.result.now c.in_ok-start_of.field-0.items same c.as_slice-2.ensures c.in_ok-start_of.ensures in
    (c.graph-graph.ensures.accepted, start_sound c.args.accepted.now c.in_ok-runs_of.field-0.items c.in_ok-start_of.field-0.items c.in_ok-with_room.field-0 runs values initial)

pub returns : goal.returns
returns c =
    let own = c.args.accepted.now.graph in
    let same = c.graph-graph.ensures.graph in
    let widths : c.deref.result.now ≡ widths_of (graph_tree own) = widths_made c.graph-graph.result.now own c.as_slice.result.now c.deref.result.now same c.as_slice.ensures (c.deref.ensures.value ∙ c.in_ok-widths.ensures) in
    let wires : c.deref-2.result.now ≡ wires_of (graph_tree own) = c.deref-2.ensures.value ∙ c.in_ok-wires.ensures in
    let initial = subst (λ (ns : List ℕ). IsInitial ns (wires_of (graph_tree own)) c.in_ok-with_room.field-0) widths
    (subst (λ (ws : List Wire). IsInitial c.deref.result.now ws c.in_ok-with_room.field-0) wires c.in_ok-with_room.ensures) in
    let runs = runs_made c.graph-graph.result.now own c.len.result c.in_ok-runs_of.field-0.items same c.len.ensures c.in_ok-runs_of.ensures in
    let values = values_made c.graph-graph.result.now own c.as_slice-2.result.now c.in_ok-start_of.field-0.items same c.as_slice-2.ensures c.in_ok-start_of.ensures in
    is_start c.args.accepted.now c.in_ok-runs_of.field-0.items c.in_ok-start_of.field-0.items c.in_ok-with_room.field-0 runs values initial
