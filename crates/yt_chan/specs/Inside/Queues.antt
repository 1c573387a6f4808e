-- How a wire's messages are kept: two banks, of which one waits while the other fills.
use Rattle.std.specs.Prelude.{ℕ, ◌+◌, ◌-◌, ◌*◌, ◌%◌, ◌==◌, nat_lt, map, ℤ, Bool, true, false, List, [], ◌∷◌, ◌++◌, length, drop, Some, None, slice_index_or, if◌then◌else◌}
use Rattle.yt_log.specs.declared.job.Job.{Job}
use Rattle.yt_chan.specs.declared.wire.Wire.{Wire}
use Rattle.yt_chan.specs.declared.queue.WireQueue.{WireQueue}
use Rattle.yt_chan.specs.declared.inbox.Inbox.{Inbox}
use Rattle.yt_chan.specs.declared.port.PortJob.{PortJob}
use Rattle.yt_chan.specs.Inside.Banks.{Batch, no_batch, due_messages}
use Rattle.yt_chan.specs.Pending.{Pending}
use Rattle.yt_chan.specs.Wires.{wire_at}
use Rattle.yt_chan.specs.State.{TargetState, ChannelState}

-- what stands for the queue of a wire that isn't there
abbrev pub no_queue : WireQueue
no_queue = record { older = no_batch; newer = no_batch; closed = false; first = 0 }

-- the queue of the wire at a place
abbrev pub queue_at : List WireQueue → ℕ → WireQueue
queue_at queues k = slice_index_or queues k no_queue

-- the messages of a queue that wait, or did until all targets had them
unfoldable pub pending_of : ℕ → WireQueue → List Pending
pending_of gap queue = due_messages gap queue.older ++ (if queue.closed then due_messages gap queue.newer else [])

-- how many they are
unfoldable pub count : WireQueue → ℕ
count queue = length queue.older.messages + (if queue.closed then length queue.newer.messages else 0)

-- the numbers of the message at a place
unfoldable pub message_at : WireQueue → ℕ → List ℤ
message_at queue n =
    if nat_lt n (length queue.older.messages) then slice_index_or queue.older.messages n [] else slice_index_or queue.newer.messages (n - length queue.older.messages) []

-- the tick at which the message at a place is due
unfoldable pub time_at : ℕ → WireQueue → ℕ → ℕ
time_at gap queue n =
    if nat_lt n (length queue.older.messages) then queue.older.base + n * gap else queue.newer.base + (n - length queue.older.messages) * gap

-- the open messages of a queue
unfoldable pub opened : WireQueue → List (List ℤ)
opened queue = if queue.closed then [] else queue.newer.messages

-- the messages that wait for a target that is fed by the wire at a place and had so many of the wire's messages
unfoldable pub waits_for : List Wire → List WireQueue → ℕ → ℕ → List Pending
waits_for wires queues wire next = drop (next - (queue_at queues wire).first) (pending_of (wire_at wires wire).gap (queue_at queues wire))

-- what an inbox shows
unfoldable pub target_state : List Wire → List WireQueue → Inbox → TargetState
target_state wires queues inbox = record {
  placed = if inbox.filled then Some inbox.values else None;
  waits = waits_for wires queues inbox.wire inbox.next;
}

-- the queue after a message was sent: where the newer bank waits, the banks change places, and the older one's messages are forgotten
unfoldable pub sent : List ℤ → WireQueue → WireQueue
sent values queue =
    if queue.closed
    then record { older = queue.newer; newer = record queue.older { messages = values ∷ [] }; closed = false; first = queue.first + length queue.older.messages }
    else record queue { newer = record queue.newer { messages = queue.newer.messages ++ values ∷ [] } }

-- a bank of a closed job
abbrev pub stamped : ℕ → ℕ → Batch → Batch
stamped number base batch = record batch { number = number; base = base }

-- a bank without its messages
abbrev pub emptied : Batch → Batch
emptied batch = record batch { messages = [] }

-- the queue after a job was closed, which passes its messages on or doesn't
unfoldable pub closed_by : Bool → ℕ → ℕ → WireQueue → WireQueue
closed_by passes number base queue =
    if queue.closed then queue
    else if passes then (if length queue.newer.messages == 0 then queue else record queue { newer = stamped number base queue.newer; closed = true })
    else record queue { newer = emptied queue.newer }

-- the queue of a wire after a job was closed, be it of the wire's port or of another
unfoldable pub after_job : Wire → Job → ℕ → WireQueue → WireQueue
after_job wire job arrival queue =
    if wire.port == job.task then closed_by (job.number % wire.every == 0) job.number (arrival + wire.period) queue else queue

-- what the parts of a `Channels` mean
abbrev pub state_of : List ℕ → List Wire → List WireQueue → List PortJob → List Inbox → List Inbox → ChannelState
state_of widths wires queues jobs ports outputs = record {
  widths = widths;
  wires = wires;
  jobs = jobs;
  ports = map (target_state wires queues) ports;
  outputs = map (target_state wires queues) outputs;
  opens = map opened queues;
}
