use Rattle.std.proofs.Common.{◌∷◌, [], refl, sym, subst}
use Rattle.std.specs.List.{Contains}
use Rattle.std.specs.Prelude.{IfOk}
use Rattle.yt_chan.specs.declared.wire.Wire.{Wire}
use Rattle.yt_chan.specs.Wires.{AreWires}
use Rattle.yt_chan_tests.specs.Example.{IsKnown, IsPlain, at_start, first_of_two, second_of_two, three_ports}
use Rattle.yt_chan_tests.proofs.Examples.{plain_two, start_ok, two_are_sound}
use Rattle.yt_chan_tests.proofs.channels.two_wires.Goals as goal

pub with_room-requires : goal.with_room-requires
with_room-requires c =
    subst (λ (x : Wire). AreWires three_ports (x ∷ c.in_ok-second.second ∷ [])) (sym c.in_ok-first.ensures)
    (subst (λ (x : Wire). AreWires three_ports (first_of_two ∷ x ∷ [])) (sym c.in_ok-second.ensures) two_are_sound)

pub returns : goal.returns
returns c =
    let first = c.in_ok-first.first in
    let second = c.in_ok-second.second in
    let P : Wire → Wire → Type 0 = λ x y. (wire : Wire) → Contains (x ∷ y ∷ []) wire → IsPlain wire in
    let plain : P first second =
    subst (λ (x : Wire). P x second) (sym c.in_ok-first.ensures)
    (subst (P first_of_two) (sym c.in_ok-second.ensures) (plain_two first_of_two second_of_two (record { out = refl; width = refl; period = refl }) (record { out = refl; width = refl; period = refl }))) in
    subst (λ (x : Wire). IfOk c.with_room.result (λ channels. IsKnown channels (at_start (x ∷ second_of_two ∷ [])))) c.in_ok-first.ensures
    (subst (λ (y : Wire). IfOk c.with_room.result (λ channels. IsKnown channels (at_start (first ∷ y ∷ [])))) c.in_ok-second.ensures
    (start_ok c.with_room.result (first ∷ second ∷ []) plain c.with_room.ensures))
