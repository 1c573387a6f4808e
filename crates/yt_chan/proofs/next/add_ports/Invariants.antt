use Rattle.yt_chan.specs.Inside.Next.{Adds, AmongPorts, targets_of}
use Rattle.yt_chan.proofs.next.add_ports.Given as goal

abbrev pub invariant-loop-number : goal.invariant-loop-number
invariant-loop-number l = Adds (targets_of l.kept.wires.now l.kept.queues.now l.kept.ports.now l.kept.outputs.now) l.initial.heads l.heads (AmongPorts l.numbers l.number-index)
