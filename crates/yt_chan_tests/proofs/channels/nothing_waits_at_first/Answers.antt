use Rattle.std.proofs.Common.{[], ◌∷◌, refl, arith}
use Rattle.yt_chan_tests.specs.Example.{Known, at_start, one_wire}
use Rattle.yt_chan_tests.proofs.Examples.{wire_is_sound}
use Rattle.yt_chan_tests.proofs.channels.nothing_waits_at_first.Goals as goal

abbrev known : Known
known = at_start (one_wire 1 1 10 ([]) (1 ∷ []) ∷ [])

pub channels-requires : goal.channels-requires
channels-requires g c = wire_is_sound 1 1 10 ([]) (1 ∷ []) (omega arith, omega arith) (omega arith, omega arith) (omega arith, refl) refl refl

pub none_comes-requires : goal.none_comes-requires
none_comes-requires g c = (known, c.in_ok-channels.ensures, record { late = refl; free = refl })
