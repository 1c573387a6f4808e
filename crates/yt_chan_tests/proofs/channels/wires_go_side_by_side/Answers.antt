use Rattle.std.proofs.Common.{[], ◌∷◌, refl, rules, arith}
use Rattle.std.specs.Prelude.{pos}
use Rattle.yt_chan.specs.declared.target.Arrived.TheVariants.{Port, Output}
use Rattle.yt_chan_tests.specs.Example.{IsKnown, Known, at_start, closed, delivered, filled, first_of_two, second_of_two}
use Rattle.yt_chan_tests.proofs.channels.wires_go_side_by_side.Goals as goal

abbrev known : Known
known = at_start (first_of_two ∷ second_of_two ∷ [])

abbrev known-1 : Known
known-1 = filled known 1 (pos 6 ∷ [])

abbrev known-2 : Known
known-2 = filled known-1 2 (pos 7 ∷ [])

abbrev known-3 : Known
known-3 = closed known-2 1 1 0

abbrev known-4 : Known
known-4 = closed known-3 2 1 0

abbrev known-5 : Known
known-5 = delivered known-4 (Port 2)

abbrev known-6 : Known
known-6 = delivered known-5 (Port 3)

abbrev known-7 : Known
known-7 = delivered known-6 (Output 1)

abbrev known-8 : Known
known-8 = delivered known-7 (Output 2)

pub fill-requires : goal.fill-requires
fill-requires g c =
    let s0 : IsKnown _ known = c.in_ok-channels.ensures in
    (known, s0, (0, record { there = (omega arith, omega arith); wired = omega arith; free = refl; room = omega arith; one = refl }))

pub fill-requires-2 : goal.fill-requires-2
fill-requires-2 g c =
    let s0 : IsKnown _ known = c.in_ok-channels.ensures in
    let s1 : IsKnown _ known-1 = c.fill.ensures known s0 in
    (known-1, s1, (0, record { there = (omega arith, omega arith); wired = omega arith; free = refl; room = omega arith; one = refl }))

pub close-requires : goal.close-requires
close-requires g c =
    let s0 : IsKnown _ known = c.in_ok-channels.ensures in
    let s1 : IsKnown _ known-1 = c.fill.ensures known s0 in
    let s2 : IsKnown _ known-2 = c.fill-2.ensures known-1 s1 in
    (known-2, s2, record { there = (omega arith, omega arith); handled = refl; next = refl; early = omega arith; apart = λ some. omega arith })

pub close-requires-2 : goal.close-requires-2
close-requires-2 g c =
    let s0 : IsKnown _ known = c.in_ok-channels.ensures in
    let s1 : IsKnown _ known-1 = c.fill.ensures known s0 in
    let s2 : IsKnown _ known-2 = c.fill-2.ensures known-1 s1 in
    let s3 : IsKnown _ known-3 = c.close.ensures known-2 s2 in
    (known-3, s3, record { there = (omega arith, omega arith); handled = refl; next = refl; early = omega arith; apart = λ some. omega arith })

pub comes-requires : goal.comes-requires
comes-requires g c =
    let s0 : IsKnown _ known = c.in_ok-channels.ensures in
    let s1 : IsKnown _ known-1 = c.fill.ensures known s0 in
    let s2 : IsKnown _ known-2 = c.fill-2.ensures known-1 s1 in
    let s3 : IsKnown _ known-3 = c.close.ensures known-2 s2 in
    let s4 : IsKnown _ known-4 = c.close-2.ensures known-3 s3 in
    (known-4, s4, record { late = refl; free = refl })

pub comes-requires-2 : goal.comes-requires-2
comes-requires-2 g c =
    let s0 : IsKnown _ known = c.in_ok-channels.ensures in
    let s1 : IsKnown _ known-1 = c.fill.ensures known s0 in
    let s2 : IsKnown _ known-2 = c.fill-2.ensures known-1 s1 in
    let s3 : IsKnown _ known-3 = c.close.ensures known-2 s2 in
    let s4 : IsKnown _ known-4 = c.close-2.ensures known-3 s3 in
    let s5 : IsKnown _ known-5 = c.comes.ensures (search rules) known-4 s4 in
    (known-5, s5, record { late = refl; free = refl })

pub comes-requires-3 : goal.comes-requires-3
comes-requires-3 g c =
    let s0 : IsKnown _ known = c.in_ok-channels.ensures in
    let s1 : IsKnown _ known-1 = c.fill.ensures known s0 in
    let s2 : IsKnown _ known-2 = c.fill-2.ensures known-1 s1 in
    let s3 : IsKnown _ known-3 = c.close.ensures known-2 s2 in
    let s4 : IsKnown _ known-4 = c.close-2.ensures known-3 s3 in
    let s5 : IsKnown _ known-5 = c.comes.ensures (search rules) known-4 s4 in
    let s6 : IsKnown _ known-6 = c.comes-2.ensures (search rules) known-5 s5 in
    (known-6, s6, record { late = refl; free = refl })

pub comes-requires-4 : goal.comes-requires-4
comes-requires-4 g c =
    let s0 : IsKnown _ known = c.in_ok-channels.ensures in
    let s1 : IsKnown _ known-1 = c.fill.ensures known s0 in
    let s2 : IsKnown _ known-2 = c.fill-2.ensures known-1 s1 in
    let s3 : IsKnown _ known-3 = c.close.ensures known-2 s2 in
    let s4 : IsKnown _ known-4 = c.close-2.ensures known-3 s3 in
    let s5 : IsKnown _ known-5 = c.comes.ensures (search rules) known-4 s4 in
    let s6 : IsKnown _ known-6 = c.comes-2.ensures (search rules) known-5 s5 in
    let s7 : IsKnown _ known-7 = c.comes-3.ensures (search rules) known-6 s6 in
    (known-7, s7, record { late = refl; free = refl })

pub none_comes-requires : goal.none_comes-requires
none_comes-requires g c =
    let s0 : IsKnown _ known = c.in_ok-channels.ensures in
    let s1 : IsKnown _ known-1 = c.fill.ensures known s0 in
    let s2 : IsKnown _ known-2 = c.fill-2.ensures known-1 s1 in
    let s3 : IsKnown _ known-3 = c.close.ensures known-2 s2 in
    let s4 : IsKnown _ known-4 = c.close-2.ensures known-3 s3 in
    let s5 : IsKnown _ known-5 = c.comes.ensures (search rules) known-4 s4 in
    let s6 : IsKnown _ known-6 = c.comes-2.ensures (search rules) known-5 s5 in
    let s7 : IsKnown _ known-7 = c.comes-3.ensures (search rules) known-6 s6 in
    let s8 : IsKnown _ known-8 = c.comes-4.ensures (search rules) known-7 s7 in
    (known-8, s8, record { late = refl; free = refl })
