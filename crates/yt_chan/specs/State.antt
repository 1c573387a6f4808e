-- What a `Channels` means: its wires, what was placed and is in handling, what is open and what waits.
use Rattle.std.specs.Prelude.{◌≡◌, ℕ, ◌+◌, ◌%◌, ◌≤◌, ◌<◌, ◌==◌, ℤ, false, List, [], Option, None, slice_index_or, if◌then◌else◌, ⊤}
use Rattle.std.specs.List.{Contains}
use Rattle.yt_log.specs.declared.job.Job.{Job}
use Rattle.yt_chan.specs.declared.wire.Wire.{Wire}
use Rattle.yt_chan.specs.declared.port.PortJob.{PortJob}
use Rattle.yt_chan.specs.declared.target.Arrived.{Arrived}
use Rattle.yt_chan.specs.declared.target.Arrived.TheVariants.{Port, Output}
use Rattle.yt_chan.specs.Pending.{Pending, with_ticks}
use Rattle.yt_chan.specs.Wires.{wire_at, wire_of_out, wire_to}

-- a port or an output: the last placed message, and the messages that wait for it, in order
pub record TargetState : Type 0 where
  pub placed : Option (List ℤ)
  pub waits : List Pending

-- the widths and wires; by the numbers of ports and of outputs, where number 0 stands for none, what is there; by the places of the wires, what is open
pub record ChannelState : Type 0 where
  pub widths : List ℕ
  pub wires : List Wire
  pub jobs : List PortJob
  pub ports : List TargetState
  pub outputs : List TargetState
  pub opens : List (List (List ℤ))

-- what stands for a target that isn't there
abbrev pub no_target : TargetState
no_target = record { placed = None; waits = [] }

-- the job of a port where none came
abbrev pub no_job : PortJob
no_job = record { in_handling = false; number = 0; arrival = 0 }

-- whether a port's message is in handling, and its last closed job
abbrev pub job_at : ChannelState → ℕ → PortJob
job_at state port = slice_index_or state.jobs port no_job

-- a target
abbrev pub target_at : ChannelState → Arrived → TargetState
target_at state (Port port) = slice_index_or state.ports port no_target
target_at state (Output output) = slice_index_or state.outputs output no_target

-- the message last placed at a target
abbrev pub placed_at : ChannelState → Arrived → Option (List ℤ)
placed_at state target = (target_at state target).placed

-- the messages that wait for a target, in order
abbrev pub waits_at : ChannelState → Arrived → List Pending
waits_at state target = (target_at state target).waits

-- the open messages of the wire at a place, in order
abbrev pub open_at : ChannelState → ℕ → List (List ℤ)
open_at state k = slice_index_or state.opens k []

-- the open messages of an out of a port
abbrev pub open_on : ChannelState → ℕ → ℕ → List (List ℤ)
open_on state port out = open_at state (wire_of_out state.wires port out)

-- what a job passes on over a wire where these messages are open: nothing where it is no job of the wire's port or its number is
-- no multiple of the wire's `every`; else the first is due a period after the job's arrival, each later one a gap after the one before
abbrev pub passed_over : Wire → List (List ℤ) → Job → ℕ → List Pending
passed_over wire messages job arrival =
    if wire.port == job.task then (if job.number % wire.every == 0 then with_ticks job.number (arrival + wire.period) wire.gap messages else []) else []

-- what a job passes on to a target
abbrev pub passed_to : ChannelState → Arrived → Job → ℕ → List Pending
passed_to state target job arrival =
    passed_over (wire_at state.wires (wire_to state.wires target)) (open_at state (wire_to state.wires target)) job arrival

-- the messages that wait on the wire at a place come from one job at most
abbrev pub IsOfOneJob : ChannelState → ℕ → Type 0
IsOfOneJob state k =
    (number : ℕ) × ((target : Arrived) → wire_to state.wires target ≡ k → (m : Pending) → Contains (waits_at state target) m → m.number ≡ number)

-- a message waits somewhere
abbrev pub Waits : ChannelState → Pending → Type 0
Waits state m = (target : Arrived) × Contains (waits_at state target) m

-- a message that waits for a target arrives there at a tick
abbrev pub IsArriving : ChannelState → ℕ → Arrived → Type 0
IsArriving state now target = (m : Pending) × Contains (waits_at state target) m × (m.time ≡ now)

-- the order of targets: ports by number, then outputs by number
abbrev pub ComesBefore : Arrived → Arrived → Type 0
ComesBefore (Port a) (Port b) = a < b
ComesBefore (Port a) (Output b) = ⊤
ComesBefore (Output a) (Port b) = ⊥
ComesBefore (Output a) (Output b) = a < b

-- a target is the first at which a message arrives at a tick
pub record IsNext (state : ChannelState) (now : ℕ) (target : Arrived) : Type 0 where
  pub arrives : IsArriving state now target
  pub first : (other : Arrived) → ComesBefore other target → IsArriving state now other → ⊥

-- a job of a port arrives at least a period after the port's last closed one
abbrev pub IsApart : ChannelState → ℕ → ℕ → Type 0
IsApart state port arrival =
    0 < (job_at state port).number → (wire : Wire) → Contains state.wires wire → wire.port ≡ port → (job_at state port).arrival + wire.period ≤ arrival

-- no message that waits is due before a tick
abbrev pub NoneIsLate : ChannelState → ℕ → Type 0
NoneIsLate state now = (m : Pending) → Waits state m → now ≤ m.time
