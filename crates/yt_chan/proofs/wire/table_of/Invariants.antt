use Rattle.yt_chan.proofs.Table.{AreFilled}
use Rattle.yt_chan.proofs.wire.table_of.Given as goal

abbrev pub invariant-loop-place : goal.invariant-loop-place
invariant-loop-place l = AreFilled l.wires l.ports l.place l.table.items
