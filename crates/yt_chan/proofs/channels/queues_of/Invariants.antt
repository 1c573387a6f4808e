use Rattle.std.proofs.Common.{◌≡◌, ℕ, ◌<◌, length}
use Rattle.yt_chan.specs.Inside.Banks.{no_batch}
use Rattle.yt_chan.specs.Inside.Queues.{queue_at, no_queue}
use Rattle.yt_chan.specs.Wires.{wire_at}
use Rattle.yt_chan.proofs.channels.queues_of.Given as goal

abbrev pub invariant-loop-wire : goal.invariant-loop-wire
invariant-loop-wire l = record {
  long : length l.queues.items ≡ l.wire-index;
  each : (k : ℕ) → k < l.wire-index → queue_at l.queues.items k
      ≡ record no_queue { older = record no_batch { room = (wire_at l.wires k).sends }; newer = record no_batch { room = (wire_at l.wires k).sends } };
}
