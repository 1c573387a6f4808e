use Rattle.std.proofs.Common.{arith}
use Rattle.std.proofs.lemmas.Grind.{common_steps}
use Rattle.std.proofs.lemmas.List.FromFn.{map-range_with_len_more}
use Rattle.yt_chan_tests.specs.Wide.{wide_wire, wide_wires}
use Rattle.yt_chan_tests.proofs.wide.wide_wires.Goals as goal

pub loop-place-init : goal.loop-place-init
unfolding wide_wires
loop-place-init c = grind (arith, common_steps)

pub loop-place-preserved : goal.loop-place-preserved
unfolding wide_wires
loop-place-preserved c =
    let more = map-range_with_len_more wide_wire 0 c.loop-place.place c.loop-place.place (omega arith) in
    rw more (grind (arith, common_steps))
