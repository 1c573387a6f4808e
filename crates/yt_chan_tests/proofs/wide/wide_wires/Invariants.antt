use Rattle.std.proofs.Common.{◌≡◌}
use Rattle.yt_chan_tests.specs.Wide.{wide_wires}
use Rattle.yt_chan_tests.proofs.wide.wide_wires.Given as goal

abbrev pub invariant-loop-place : goal.invariant-loop-place
invariant-loop-place l = l.wires.items ≡ wide_wires l.place
