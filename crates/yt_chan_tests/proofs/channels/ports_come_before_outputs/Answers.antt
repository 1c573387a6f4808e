use Rattle.std.proofs.Common.{[], ◌∷◌, refl, rules, arith}
use Rattle.std.specs.Prelude.{pos}
use Rattle.yt_chan.specs.declared.target.Arrived.TheVariants.{Port, Output}
use Rattle.yt_chan_tests.specs.Example.{IsKnown, Known, at_start, closed, delivered, filled, one_wire}
use Rattle.yt_chan_tests.proofs.Examples.{wire_is_sound}
use Rattle.yt_chan_tests.proofs.channels.ports_come_before_outputs.Goals as goal

abbrev known : Known
known = at_start (one_wire 1 1 10 (3 ∷ 2 ∷ []) (2 ∷ 1 ∷ []) ∷ [])

abbrev known-1 : Known
known-1 = filled known 1 (pos 6 ∷ [])

abbrev known-2 : Known
known-2 = closed known-1 1 1 0

abbrev known-3 : Known
known-3 = delivered known-2 (Port 2)

abbrev known-4 : Known
known-4 = delivered known-3 (Port 3)

abbrev known-5 : Known
known-5 = delivered known-4 (Output 1)

abbrev known-6 : Known
known-6 = delivered known-5 (Output 2)

pub channels-requires : goal.channels-requires
channels-requires g c = wire_is_sound 1 1 10 (3 ∷ 2 ∷ []) (2 ∷ 1 ∷ []) (omega arith, omega arith) (omega arith, omega arith) (omega arith, refl) refl refl

pub fill-requires : goal.fill-requires
fill-requires g c = (known, c.in_ok-channels.ensures, (0, record { there = (omega arith, omega arith); wired = omega arith; free = refl; room = omega arith; one = refl }))

pub close-requires : goal.close-requires
close-requires g c =
    let s0 : IsKnown _ known = c.in_ok-channels.ensures in
    let s1 : IsKnown _ known-1 = c.fill.ensures known s0 in
    (known-1, s1, record { there = (omega arith, omega arith); handled = refl; next = refl; early = omega arith; apart = λ some. omega arith })

pub comes-requires : goal.comes-requires
comes-requires g c =
    let s0 : IsKnown _ known = c.in_ok-channels.ensures in
    let s1 : IsKnown _ known-1 = c.fill.ensures known s0 in
    let s2 : IsKnown _ known-2 = c.close.ensures known-1 s1 in
    (known-2, s2, record { late = refl; free = refl })

pub comes-requires-2 : goal.comes-requires-2
comes-requires-2 g c =
    let s0 : IsKnown _ known = c.in_ok-channels.ensures in
    let s1 : IsKnown _ known-1 = c.fill.ensures known s0 in
    let s2 : IsKnown _ known-2 = c.close.ensures known-1 s1 in
    let s3 : IsKnown _ known-3 = c.comes.ensures (search rules) known-2 s2 in
    (known-3, s3, record { late = refl; free = refl })

pub comes-requires-3 : goal.comes-requires-3
comes-requires-3 g c =
    let s0 : IsKnown _ known = c.in_ok-channels.ensures in
    let s1 : IsKnown _ known-1 = c.fill.ensures known s0 in
    let s2 : IsKnown _ known-2 = c.close.ensures known-1 s1 in
    let s3 : IsKnown _ known-3 = c.comes.ensures (search rules) known-2 s2 in
    let s4 : IsKnown _ known-4 = c.comes-2.ensures (search rules) known-3 s3 in
    (known-4, s4, record { late = refl; free = refl })

pub comes-requires-4 : goal.comes-requires-4
comes-requires-4 g c =
    let s0 : IsKnown _ known = c.in_ok-channels.ensures in
    let s1 : IsKnown _ known-1 = c.fill.ensures known s0 in
    let s2 : IsKnown _ known-2 = c.close.ensures known-1 s1 in
    let s3 : IsKnown _ known-3 = c.comes.ensures (search rules) known-2 s2 in
    let s4 : IsKnown _ known-4 = c.comes-2.ensures (search rules) known-3 s3 in
    let s5 : IsKnown _ known-5 = c.comes-3.ensures (search rules) known-4 s4 in
    (known-5, s5, record { late = refl; free = refl })

pub none_comes-requires : goal.none_comes-requires
none_comes-requires g c =
    let s0 : IsKnown _ known = c.in_ok-channels.ensures in
    let s1 : IsKnown _ known-1 = c.fill.ensures known s0 in
    let s2 : IsKnown _ known-2 = c.close.ensures known-1 s1 in
    let s3 : IsKnown _ known-3 = c.comes.ensures (search rules) known-2 s2 in
    let s4 : IsKnown _ known-4 = c.comes-2.ensures (search rules) known-3 s3 in
    let s5 : IsKnown _ known-5 = c.comes-3.ensures (search rules) known-4 s4 in
    let s6 : IsKnown _ known-6 = c.comes-4.ensures (search rules) known-5 s5 in
    (known-6, s6, record { late = refl; free = refl })
