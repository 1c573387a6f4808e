-- What stays true of the queues and places of a `Channels`.
use Rattle.std.specs.Prelude.{◌≡◌, ℕ, ◌+◌, ◌-◌, ◌*◌, ◌%◌, ◌^◌, ◌≤◌, ◌<◌, ◌==◌, if◌then◌else◌, true, false, List, [], length, slice_index_or}
use Rattle.yt_log.specs.Limits.{most_arrival}
use Rattle.yt_chan.specs.Limits.{most_base, most_gap, most_outputs, most_outs, most_ports, most_sends}
use Rattle.yt_chan.specs.declared.wire.Wire.{Wire}
use Rattle.yt_chan.specs.declared.queue.WireQueue.{WireQueue}
use Rattle.yt_chan.specs.declared.target.Arrived.{Arrived}
use Rattle.yt_chan.specs.declared.target.Arrived.TheVariants.{Port, Output}
use Rattle.yt_chan.specs.declared.inbox.Inbox.{Inbox}
use Rattle.yt_chan.specs.declared.port.PortJob.{PortJob}
use Rattle.yt_chan.specs.Inside.Banks.{Batch}
use Rattle.yt_chan.specs.Inside.Queues.{count, queue_at, message_at}
use Rattle.yt_chan.specs.State.{no_job}
use Rattle.yt_chan.specs.Wires.{AreWires, wire_of_out, wire_to, wire_at}

-- the messages of a bank are of a closed job that passed them on, and no later than the port's last closed job of a number and arrival allows
pub record IsBatchOf (wire : Wire) (number arrival : ℕ) (batch : Batch) : Type 0 where
  pub passes : batch.number % wire.every ≡ 0
  pub past : batch.number ≤ number
  pub early : batch.base + (number - batch.number) * wire.period ≤ arrival + wire.period

-- the queue of a wire, of whose port the job of a number and arrival was closed last
pub record IsQueue (wire : Wire) (number arrival : ℕ) (queue : WireQueue) : Type 0 where
  pub rooms : (queue.older.room ≡ wire.sends) × (queue.newer.room ≡ wire.sends)
  pub few : (length queue.older.messages ≤ wire.sends) × (length queue.newer.messages ≤ wire.sends)
  pub bases : (queue.older.base ≤ most_base) × (queue.newer.base ≤ most_base)
  pub some : queue.closed ≡ true → 1 ≤ length queue.newer.messages
  pub counted : queue.first + count queue ≤ most_sends * number
  pub older : 1 ≤ length queue.older.messages → IsBatchOf wire number arrival queue.older
  pub newer : queue.closed ≡ true → IsBatchOf wire number arrival queue.newer
  pub apart : queue.closed ≡ true → 1 ≤ length queue.older.messages → (queue.older.number < queue.newer.number) × (queue.older.base + wire.every * wire.period ≤ queue.newer.base)

-- an inbox has had what came before the banks of its queue, and no more than waited there
pub record IsCursor (queue : WireQueue) (next : ℕ) : Type 0 where
  pub least : queue.first ≤ next
  pub most : next ≤ queue.first + count queue

-- what stands for a target that isn't there, beside so many wires
abbrev pub no_inbox : ℕ → Inbox
no_inbox wires = record { wire = wires; next = 0; filled = false; values = [] }

-- the inbox of a target
abbrev pub inbox_of : ℕ → List Inbox → List Inbox → Arrived → Inbox
inbox_of wires ports outputs (Port port) = slice_index_or ports port (no_inbox wires)
inbox_of wires ports outputs (Output output) = slice_index_or outputs output (no_inbox wires)

-- the last closed job of a port
abbrev pub closed_at : List PortJob → ℕ → PortJob
closed_at jobs port = slice_index_or jobs port no_job

-- what stays true of the queues, the ports' jobs and the inboxes
pub record IsSound (widths : List ℕ) (wires : List Wire) (queues : List WireQueue) (jobs : List PortJob) (ports outputs : List Inbox) : Type 0 where
  pub wired : AreWires widths wires
  pub long : length queues ≡ length wires
  pub jobs_long : length jobs ≡ length widths + 1
  pub ports_long : length ports ≡ length widths + 1
  pub outputs_long : length outputs ≡ most_outputs + 1
  pub early : (port : ℕ) → (closed_at jobs port).arrival ≤ most_arrival
  pub numbers : (port : ℕ) → (closed_at jobs port).number < 2 ^ 32
  pub feeds : (target : Arrived) → (inbox_of (length wires) ports outputs target).wire ≡ wire_to wires target
  pub each : (k : ℕ) → k < length wires → IsQueue (wire_at wires k) (closed_at jobs (wire_at wires k).port).number (closed_at jobs (wire_at wires k).port).arrival (queue_at queues k)
  pub at : (target : Arrived) → IsCursor (queue_at queues (inbox_of (length wires) ports outputs target).wire) (inbox_of (length wires) ports outputs target).next

-- a target has an inbox
abbrev pub IsThere : List Inbox → List Inbox → Arrived → Type 0
IsThere ports outputs (Port port) = port < length ports
IsThere ports outputs (Output output) = output < length outputs

-- what reading the waiting messages of targets needs
pub record AreReadable (wires : List Wire) (queues : List WireQueue) (ports outputs : List Inbox) : Type 0 where
  pub long : length queues ≡ length wires
  pub bases : (k : ℕ) → k < length queues → ((queue_at queues k).older.base ≤ most_base) × ((queue_at queues k).newer.base ≤ most_base)
  pub few : (k : ℕ) → k < length queues → (length (queue_at queues k).older.messages ≤ most_sends) × (length (queue_at queues k).newer.messages ≤ most_sends)
  pub gaps : (k : ℕ) → k < length queues → (wire_at wires k).gap ≤ most_gap
  pub at : (target : Arrived) → IsCursor (queue_at queues (inbox_of (length wires) ports outputs target).wire) (inbox_of (length wires) ports outputs target).next
  pub few_ports : length ports ≤ most_ports + 1
  pub few_outputs : length outputs ≤ most_outputs + 1
  pub ports_there : (k j : ℕ) → k < length wires → j < length (wire_at wires k).ports → slice_index_or (wire_at wires k).ports j 0 < length ports
  pub outputs_there : (k j : ℕ) → k < length wires → j < length (wire_at wires k).outputs → slice_index_or (wire_at wires k).outputs j 0 < length outputs

-- how many entries the table of wires has for a port: one for each number of an out, with 0
abbrev pub table_row : ℕ
table_row = most_outs + 1

-- the place of an out of a port in the table of wires
abbrev pub table_place : ℕ → ℕ → ℕ
table_place port out = table_row * port + out

-- the table of wires: the place of each out of each port has its wire
pub record IsTable (wires : List Wire) (table : List ℕ) : Type 0 where
  pub each : (port out : ℕ) → table_place port most_outs < length table → out ≤ most_outs → slice_index_or table (table_place port out) (length wires) ≡ wire_of_out wires port out
  pub outs : (k : ℕ) → k < length wires → (1 ≤ (wire_at wires k).out) × ((wire_at wires k).out ≤ most_outs)
  pub own : (k : ℕ) → k < length wires → wire_of_out wires (wire_at wires k).port (wire_at wires k).out ≡ k

-- what placing the next message of an inbox needs
pub record CanArrive (queues : List WireQueue) (inbox : Inbox) : Type 0 where
  pub there : inbox.wire < length queues
  pub few : (length (queue_at queues inbox.wire).older.messages ≤ most_sends) × (length (queue_at queues inbox.wire).newer.messages ≤ most_sends)
  pub at : IsCursor (queue_at queues inbox.wire) inbox.next
  pub counted : (queue_at queues inbox.wire).first + count (queue_at queues inbox.wire) < 2 ^ 64
  pub waits : inbox.next < (queue_at queues inbox.wire).first + count (queue_at queues inbox.wire)

-- an inbox after its next message came
abbrev pub arrived : List WireQueue → Inbox → Inbox
arrived queues inbox = record inbox {
  next = inbox.next + 1;
  filled = true;
  values = message_at (queue_at queues inbox.wire) (inbox.next - (queue_at queues inbox.wire).first);
}

-- the inbox of a target, and no other, has changed
pub record IsPut (before after : Arrived → Inbox) (target : Arrived) (inbox : Inbox) : Type 0 where
  pub here : after target ≡ inbox
  pub others : (other : Arrived) → (other ≡ target → ⊥) → after other ≡ before other

-- a port's message is in handling, and all else as before
abbrev pub StartsHandlingIn : List PortJob → List PortJob → Arrived → Type 0
StartsHandlingIn jobs new (Port port) = (p : ℕ) → closed_at new p ≡ (if p == port then record (closed_at jobs p) { in_handling = true } else closed_at jobs p)
StartsHandlingIn jobs new (Output output) = (p : ℕ) → closed_at new p ≡ closed_at jobs p
