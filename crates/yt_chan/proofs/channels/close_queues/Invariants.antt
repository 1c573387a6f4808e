use Rattle.yt_chan.proofs.Closes.{AreClosed}
use Rattle.yt_chan.proofs.channels.close_queues.Given as goal

abbrev pub invariant-loop-out : goal.invariant-loop-out
invariant-loop-out l = AreClosed l.wires l.initial.queues l.queues l.job l.arrival l.out
