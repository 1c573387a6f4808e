-- When the next message of each target is due, and which heads say so.
use Rattle.std.specs.Prelude.{◌≡◌, ℕ, ◌+◌, ◌*◌, ◌<◌, ◌≤◌, true, List, [], ◌∷◌, length, Option, Some, None, slice_index_or}
use Rattle.std.specs.List.{Contains}
use Rattle.yt_chan.specs.declared.wire.Wire.{Wire}
use Rattle.yt_chan.specs.declared.queue.WireQueue.{WireQueue}
use Rattle.yt_chan.specs.declared.heads.Head.{Head}
use Rattle.yt_chan.specs.declared.inbox.Inbox.{Inbox}
use Rattle.yt_chan.specs.declared.port.PortJob.{PortJob}
use Rattle.yt_chan.specs.declared.target.Arrived.{Arrived}
use Rattle.yt_chan.specs.declared.target.Arrived.TheVariants.{Port, Output}
use Rattle.yt_chan.specs.Inside.Queues.{state_of}
use Rattle.yt_chan.specs.Inside.Sound.{IsTable, IsSound, table_row}
use Rattle.yt_chan.specs.State.{ChannelState, waits_at}
use Rattle.yt_chan.specs.Pending.{Pending}
use Rattle.yt_chan.specs.Wires.{wire_of_out, feeds, wire_at}

-- the tick at which the first of these is due
abbrev pub due_of : List Pending → Option ℕ
due_of [] = None
due_of (m ∷ messages) = Some m.time

-- the tick at which the first of the messages that wait for a target is due
abbrev pub next_at : ChannelState → Arrived → Option ℕ
next_at state target = due_of (waits_at state target)

-- what wires, queues and places mean, with no job in any port
abbrev pub targets_of : List Wire → List WireQueue → List Inbox → List Inbox → ChannelState
targets_of wires queues ports outputs = state_of [] wires queues [] ports outputs

-- each head is of a target for which a message waits, with the tick of the first
abbrev pub AreNext : ChannelState → List Head → Type 0
AreNext state heads = (head : Head) → Contains heads head → next_at state head.target ≡ Some head.time

-- a target has its head where a message waits for it
abbrev pub HasNext : ChannelState → List Head → Arrived → Type 0
HasNext state heads target = (time : ℕ) → next_at state target ≡ Some time → Contains heads (record { time = time; target = target })

-- the heads are those of all targets for which a message waits
pub record AreHeads (state : ChannelState) (heads : List Head) : Type 0 where
  pub next : AreNext state heads
  pub all : (target : Arrived) → HasNext state heads target

-- the heads of some targets are added
pub record Adds (state : ChannelState) (old new : List Head) (P : Arrived → Type 0) : Type 0 where
  pub next : AreNext state new
  pub kept : (head : Head) → Contains old head → Contains new head
  pub added : (target : Arrived) → P target → HasNext state new target

-- a target is among the first n of these ports
abbrev pub AmongPorts : List ℕ → ℕ → Arrived → Type 0
AmongPorts numbers n target = (k : ℕ) × (k < n) × (target ≡ Port (slice_index_or numbers k 0))

-- a target is among the first n of these outputs
abbrev pub AmongOutputs : List ℕ → ℕ → Arrived → Type 0
AmongOutputs numbers n target = (k : ℕ) × (k < n) × (target ≡ Output (slice_index_or numbers k 0))

-- a target is fed by a wire of one of a port's outs from 1 to n - 1
abbrev pub AmongOuts : List Wire → ℕ → ℕ → Arrived → Type 0
AmongOuts wires port n target =
    (out : ℕ) × (1 ≤ out) × (out < n) × (wire_of_out wires port out < length wires) × (feeds (wire_at wires (wire_of_out wires port out)) target ≡ true)

-- what stays true of a `Channels`
pub record IsKept (widths : List ℕ) (wires : List Wire) (table : List ℕ) (queues : List WireQueue) (jobs : List PortJob) (ports outputs : List Inbox) (list : List Head) : Type 0 where
  pub sound : IsSound widths wires queues jobs ports outputs
  pub entries : IsTable wires table
  pub entries_long : length table ≡ table_row * (length widths + 1)
  pub heads : AreHeads (state_of widths wires queues jobs ports outputs) list
