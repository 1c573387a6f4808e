use Rattle.std.proofs.Common.{List, ℕ, sym, subst, ◌∙◌, arith}
use Rattle.std.specs.Prelude.{IfOk}
use Rattle.yt_chan.specs.Changes.{IsInitial}
use Rattle.yt_chan.specs.declared.wire.Wire.{Wire}
use Rattle.yt_chan.specs.Wires.{AreWires}
use Rattle.yt_chan_tests.proofs.ManyWires.{wide_are_sound}
use Rattle.yt_chan_tests.specs.Wide.{wide_ports, wide_wires}
use Rattle.yt_chan_tests.proofs.wide.wide_channels.Goals as goal

pub with_room-requires : goal.with_room-requires
with_room-requires c =
    let widths = c.deref.ensures.value ∙ c.in_ok-widths.ensures.items_if_clones_equal (λ y h. h) in
    let wires = c.deref-2.ensures.value ∙ c.in_ok-wires.ensures in
    subst (λ (ws : List ℕ). AreWires ws c.deref-2.result.now) (sym widths)
    (subst (AreWires wide_ports) (sym wires) (wide_are_sound 512 (omega arith)))

pub returns : goal.returns
returns c =
    let widths = c.deref.ensures.value ∙ c.in_ok-widths.ensures.items_if_clones_equal (λ y h. h) in
    let wires = c.deref-2.ensures.value ∙ c.in_ok-wires.ensures in
    subst (λ (ws : List ℕ). IfOk c.with_room.result (λ channels. IsInitial ws (wide_wires 512) channels)) widths
    (subst (λ (ws : List Wire). IfOk c.with_room.result (λ channels. IsInitial c.deref.result.now ws channels)) wires c.with_room.ensures)
