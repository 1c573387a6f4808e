use Rattle.std.proofs.Common.{take}
use Rattle.yt_chan_tests.specs.Example.{IsKnown, Known, sent}
use Rattle.yt_chan_tests.proofs.channels.send.Given as goal

abbrev pub invariant-loop-value : goal.invariant-loop-value
invariant-loop-value l = (known : Known) → IsKnown l.fn.channels known → IsKnown l.channels (sent known l.port (take l.value-index l.values))
