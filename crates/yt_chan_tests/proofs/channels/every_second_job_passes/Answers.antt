use Rattle.std.proofs.Common.{[], ◌∷◌, refl, arith}
use Rattle.std.specs.Prelude.{pos}
use Rattle.yt_chan_tests.specs.Example.{IsKnown, Known, at_start, closed, filled, one_wire}
use Rattle.yt_chan_tests.proofs.Examples.{wire_is_sound}
use Rattle.yt_chan_tests.proofs.channels.every_second_job_passes.Goals as goal

abbrev known : Known
known = at_start (one_wire 4 2 5 ([]) (1 ∷ []) ∷ [])

abbrev known-1 : Known
known-1 = filled known 1 (pos 1 ∷ pos 2 ∷ [])

abbrev known-2 : Known
known-2 = closed known-1 1 1 0

abbrev known-3 : Known
known-3 = filled known-2 1 (pos 3 ∷ pos 4 ∷ [])

abbrev known-4 : Known
known-4 = closed known-3 1 2 10

pub channels-requires : goal.channels-requires
channels-requires g c = wire_is_sound 4 2 5 ([]) (1 ∷ []) (omega arith, omega arith) (omega arith, omega arith) (omega arith, refl) refl refl

pub fill-requires : goal.fill-requires
fill-requires g c = (known, c.in_ok-channels.ensures, (0, record { there = (omega arith, omega arith); wired = omega arith; free = refl; room = omega arith; one = refl }))

pub close-requires : goal.close-requires
close-requires g c =
    let s0 : IsKnown _ known = c.in_ok-channels.ensures in
    let s1 : IsKnown _ known-1 = c.fill.ensures known s0 in
    (known-1, s1, record { there = (omega arith, omega arith); handled = refl; next = refl; early = omega arith; apart = λ some. omega arith })

pub fill-requires-2 : goal.fill-requires-2
fill-requires-2 g c =
    let s0 : IsKnown _ known = c.in_ok-channels.ensures in
    let s1 : IsKnown _ known-1 = c.fill.ensures known s0 in
    let s2 : IsKnown _ known-2 = c.close.ensures known-1 s1 in
    (known-2, s2, (1, record { there = (omega arith, omega arith); wired = omega arith; free = refl; room = omega arith; one = refl }))

pub close-requires-2 : goal.close-requires-2
close-requires-2 g c =
    let s0 : IsKnown _ known = c.in_ok-channels.ensures in
    let s1 : IsKnown _ known-1 = c.fill.ensures known s0 in
    let s2 : IsKnown _ known-2 = c.close.ensures known-1 s1 in
    let s3 : IsKnown _ known-3 = c.fill-2.ensures known-2 s2 in
    (known-3, s3, record { there = (omega arith, omega arith); handled = refl; next = refl; early = omega arith; apart = λ some. omega arith })

pub comes-requires : goal.comes-requires
comes-requires g c =
    let s0 : IsKnown _ known = c.in_ok-channels.ensures in
    let s1 : IsKnown _ known-1 = c.fill.ensures known s0 in
    let s2 : IsKnown _ known-2 = c.close.ensures known-1 s1 in
    let s3 : IsKnown _ known-3 = c.fill-2.ensures known-2 s2 in
    let s4 : IsKnown _ known-4 = c.close-2.ensures known-3 s3 in
    (known-4, s4, record { late = refl; free = refl })
