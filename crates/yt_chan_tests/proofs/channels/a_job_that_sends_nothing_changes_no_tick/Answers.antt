use Rattle.std.proofs.Common.{[], ◌∷◌, refl, rules, arith}
use Rattle.std.specs.Prelude.{pos}
use Rattle.yt_chan.specs.declared.target.Arrived.TheVariants.{Output}
use Rattle.yt_chan_tests.specs.Example.{IsKnown, Known, at_start, closed, delivered, filled, one_wire}
use Rattle.yt_chan_tests.proofs.Examples.{wire_is_sound}
use Rattle.yt_chan_tests.proofs.channels.a_job_that_sends_nothing_changes_no_tick.Goals as goal

abbrev known : Known
known = at_start (one_wire 3 1 3 ([]) (1 ∷ []) ∷ [])

abbrev known-1 : Known
known-1 = filled known 1 (pos 1 ∷ pos 2 ∷ [])

abbrev known-2 : Known
known-2 = closed known-1 1 1 0

abbrev known-3 : Known
known-3 = delivered known-2 (Output 1)

abbrev known-4 : Known
known-4 = filled known-3 1 ([])

abbrev known-5 : Known
known-5 = closed known-4 1 2 10

pub channels-requires : goal.channels-requires
channels-requires g c = wire_is_sound 3 1 3 ([]) (1 ∷ []) (omega arith, omega arith) (omega arith, omega arith) (omega arith, refl) refl refl

pub fill-requires : goal.fill-requires
fill-requires g c = (known, c.in_ok-channels.ensures, (0, record { there = (omega arith, omega arith); wired = omega arith; free = refl; room = omega arith; one = refl }))

pub close-requires : goal.close-requires
close-requires g c =
    let s0 : IsKnown _ known = c.in_ok-channels.ensures in
    let s1 : IsKnown _ known-1 = c.fill.ensures known s0 in
    (known-1, s1, record { there = (omega arith, omega arith); handled = refl; next = refl; early = omega arith; apart = λ some. omega arith })

pub comes-requires : goal.comes-requires
comes-requires g c =
    let s0 : IsKnown _ known = c.in_ok-channels.ensures in
    let s1 : IsKnown _ known-1 = c.fill.ensures known s0 in
    let s2 : IsKnown _ known-2 = c.close.ensures known-1 s1 in
    (known-2, s2, record { late = refl; free = refl })

pub fill-requires-2 : goal.fill-requires-2
fill-requires-2 g c =
    let s0 : IsKnown _ known = c.in_ok-channels.ensures in
    let s1 : IsKnown _ known-1 = c.fill.ensures known s0 in
    let s2 : IsKnown _ known-2 = c.close.ensures known-1 s1 in
    let s3 : IsKnown _ known-3 = c.comes.ensures (search rules) known-2 s2 in
    (known-3, s3, (1, record { there = (omega arith, omega arith); wired = omega arith; free = refl; room = omega arith; one = refl }))

pub close-requires-2 : goal.close-requires-2
close-requires-2 g c =
    let s0 : IsKnown _ known = c.in_ok-channels.ensures in
    let s1 : IsKnown _ known-1 = c.fill.ensures known s0 in
    let s2 : IsKnown _ known-2 = c.close.ensures known-1 s1 in
    let s3 : IsKnown _ known-3 = c.comes.ensures (search rules) known-2 s2 in
    let s4 : IsKnown _ known-4 = c.fill-2.ensures known-3 s3 in
    (known-4, s4, record { there = (omega arith, omega arith); handled = refl; next = refl; early = omega arith; apart = λ some. omega arith })

pub comes-requires-2 : goal.comes-requires-2
comes-requires-2 g c =
    let s0 : IsKnown _ known = c.in_ok-channels.ensures in
    let s1 : IsKnown _ known-1 = c.fill.ensures known s0 in
    let s2 : IsKnown _ known-2 = c.close.ensures known-1 s1 in
    let s3 : IsKnown _ known-3 = c.comes.ensures (search rules) known-2 s2 in
    let s4 : IsKnown _ known-4 = c.fill-2.ensures known-3 s3 in
    let s5 : IsKnown _ known-5 = c.close-2.ensures known-4 s4 in
    (known-5, s5, record { late = refl; free = refl })
