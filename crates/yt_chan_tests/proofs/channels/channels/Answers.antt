use Rattle.std.proofs.Common.{◌∷◌, [], refl, sym, subst}
use Rattle.yt_chan.specs.declared.wire.Wire.{Wire}
use Rattle.std.specs.Prelude.{IfOk}
use Rattle.std.specs.List.{Contains}
use Rattle.yt_chan.specs.Wires.{AreWires}
use Rattle.yt_chan_tests.specs.Example.{IsKnown, IsPlain, at_start, one_wire, three_ports}
use Rattle.yt_chan_tests.proofs.Examples.{are_one, plain_one, start_ok}
use Rattle.yt_chan_tests.proofs.channels.channels.Goals as goal

pub with_room-requires : goal.with_room-requires
with_room-requires c =
    let w = one_wire c.args.sends c.args.every c.args.gap c.args.ports.now c.args.outputs.now in
    subst (λ (x : Wire). AreWires three_ports (x ∷ [])) (sym c.in_ok-wire.ensures) (are_one w c.requires)

pub returns : goal.returns
returns c =
    let w = one_wire c.args.sends c.args.every c.args.gap c.args.ports.now c.args.outputs.now in
    subst (λ (x : Wire). IfOk c.with_room.result (λ channels. IsKnown channels (at_start (x ∷ [])))) c.in_ok-wire.ensures
    (start_ok c.with_room.result (c.in_ok-wire.wire ∷ []) (subst (λ (x : Wire). (wire : Wire) → Contains (x ∷ []) wire → IsPlain wire) (sym c.in_ok-wire.ensures) (plain_one w (record { out = refl; width = refl; period = refl }))) c.with_room.ensures)
