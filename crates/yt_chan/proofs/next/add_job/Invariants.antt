use Rattle.yt_chan.specs.Inside.Next.{Adds, AmongOuts, targets_of}
use Rattle.yt_chan.proofs.next.add_job.Given as goal

abbrev pub invariant-loop-out : goal.invariant-loop-out
invariant-loop-out l = Adds (targets_of l.kept.wires.now l.kept.queues.now l.kept.ports.now l.kept.outputs.now) l.initial.heads l.heads (AmongOuts l.kept.wires.now l.task l.out)
