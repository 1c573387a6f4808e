-- What the handlers of a graph carry of an interleaved run.
use Rattle.std.specs.Prelude.{◌≡◌, ℕ, suc, ◌+◌, ◌*◌, ◌%◌, ◌<◌, ◌≤◌, List, [], ◌∷◌, map, length, Some}
use Rattle.std.specs.List.{Contains}
use Rattle.yt_list.specs.Numbered.{numbered}
use Rattle.yt_graph.specs.declared.port.Feed as feed
use Rattle.yt_graph.specs.declared.port.Feed.{Feed}
use Rattle.yt_graph.specs.Picture.{GraphTree, graph_tree}
use Rattle.yt_graph.specs.Sends.{messages_on}
use Rattle.yt_cost.specs.CodeAlone.{Progress}
use Rattle.yt_rates.specs.Acceptance.{Parts}
use Rattle.yt_log.specs.Ticks.{done}
use Rattle.yt_chan.specs.declared.target.Arrived.{Arrived}
use Rattle.yt_chan.specs.declared.target.Arrived.TheVariants.{Port, Output}
use Rattle.yt_chan.specs.declared.wire.Wire.{Wire}
use Rattle.yt_chan.specs.Pending.{Pending}
use Rattle.yt_chan.specs.State.{ChannelState, job_at, open_on, placed_at, waits_at}
use Rattle.yt_chan.specs.Wires.{wire_at, wire_to}
use Rattle.yt_serial.specs.PortMessages.{PortMessage}
use Rattle.yt_serial.specs.SerialHandling.{Serial, handled_of}
use Rattle.yt_interleave.specs.Carrying.{as_message}
use Rattle.yt_interleave.specs.Interleaved.{ActiveJob, RunState, known_at, port_at}
use Rattle.yt_interleave.specs.Lines.{messages_to}
use Rattle.yt_interleave.specs.Machines.{IsAloneAt}
use Rattle.yt_interleave.specs.Waits.{wait_from}
use Rattle.yt_body.specs.declared.port_run.PortStage.{PortStage}
use Rattle.yt_body.specs.declared.port_run.PortStage.TheVariants.{Idle, Placed, Begun}
use Rattle.yt_body.specs.Sound.{IsSound}
use Rattle.yt_body.specs.State.{HandlersState, code_at, run_at}
use Rattle.yt_body.specs.Wiring.{wires_of}

-- of the messages of a feed those that come over a wire: all of an out's, and none of an input's
abbrev pub over_wire : Feed → List PortMessage → List PortMessage
over_wire (feed.TheVariants.Input input) messages = []
over_wire (feed.TheVariants.Out port out) messages = messages

-- the known messages that come to a target over a wire
abbrev pub known_for : GraphTree → RunState → Arrived → List PortMessage
known_for g r (Port port) = over_wire (port_at g port).feed (known_at r port)
known_for g r (Output output) = messages_to r.outputs output

-- how many messages have come to a port that has handled so many: one more where its message waits for its job to begin
abbrev pub come_to : PortStage → ℕ → ℕ
come_to Idle handled = handled
come_to Placed handled = suc handled
come_to Begun handled = handled

-- a port's run is that of its active job: the machine is where it would be alone after the job's ticks, and what it sent is open
pub record RunsJob (parts : Parts) (r : RunState) (b : HandlersState) (port : ℕ) (a : ActiveJob) : Type 0 where
  pub stage : (run_at b port).stage ≡ Begun
  pub number : (run_at b port).number ≡ a.job.number
  pub arrival : (run_at b port).arrival ≡ a.message.time
  pub progress : Progress
  pub alone : IsAloneAt (code_at parts port) a.message.values a.vars (done r.log a.job (length r.log)) progress
  pub machine : progress.machine ≡ (run_at b port).machine
  pub sent : (out : ℕ) → open_on b.channels port out ≡ messages_on out progress.so_far.sends

-- the message of a port's run is the known one of its number, and came before `due`
pub record HoldsMessage (r : RunState) (due : ℕ) (b : HandlersState) (port : ℕ) : Type 0 where
  pub message : PortMessage
  pub there : numbered (known_at r port) (run_at b port).number ≡ Some message
  pub arrival : (run_at b port).arrival ≡ message.time
  pub values : placed_at b.channels (Port port) ≡ Some message.values
  pub early : message.time < due

-- the last closed job of a port arrived with the known message of its number
pub record HasClosed (r : RunState) (channels : ChannelState) (port : ℕ) : Type 0 where
  pub message : PortMessage
  pub there : numbered (known_at r port) (job_at channels port).number ≡ Some message
  pub arrival : (job_at channels port).arrival ≡ message.time

-- messages that come one after another
abbrev pub AreRising : List Pending → Type 0
AreRising [] = Unit {0}
AreRising (m ∷ rest) = ((later : Pending) → Contains rest later → m.time < later.time) × AreRising rest

-- a message that waits on a wire was sent by a closed job of the wire's port that passes on, one of as many as a job sends at most
pub record IsSentBy (r : RunState) (channels : ChannelState) (wire : Wire) (m : Pending) : Type 0 where
  pub closed : m.number ≤ (job_at channels wire.port).number
  pub passes : m.number % wire.every ≡ 0
  pub sender : PortMessage
  pub there : numbered (known_at r wire.port) m.number ≡ Some sender
  pub place : ℕ
  pub few : place < wire.sends
  pub time : m.time ≡ sender.time + wire.period + place * wire.gap

-- the handlers carry a run, of which at each target all messages that come before `due` have come
pub record Carries (parts : Parts) (s : Serial) (r : RunState) (due : Arrived → ℕ) (b : HandlersState) : Type 0 where
  pub graph : b.parts ≡ parts
  pub sound : IsSound b
  pub vars : b.vars ≡ r.vars
  -- the jobs that have begun are the active ones
  pub begun : (port : ℕ) (a : ActiveJob) → r.active port ≡ Some a → RunsJob parts r b port a
  pub only : (port : ℕ) → (run_at b port).stage ≡ Begun → (a : ActiveJob) × (r.active port ≡ Some a)
  -- messages come to each port by their numbers
  pub placed : (port : ℕ) → (run_at b port).stage ≡ Placed → HoldsMessage r (due (Port port)) b port
  pub came : (port : ℕ) → (run_at b port).number ≡ come_to (run_at b port).stage (handled_of s port)
  pub arrived : (port n : ℕ) (m : PortMessage) → numbered (known_at r port) n ≡ Some m → m.time < due (Port port) → n ≤ (run_at b port).number
  pub closed : (port : ℕ) → 0 < (job_at b.channels port).number → HasClosed r b.channels port
  -- what waits are the known messages that come over wires, from `due` on, each sent by a closed job
  pub waits : (target : Arrived) → map as_message (waits_at b.channels target) ≡ wait_from (due target) (known_for (graph_tree parts.graph) r target)
  pub rise : (target : Arrived) → AreRising (waits_at b.channels target)
  pub sent : (target : Arrived) (m : Pending) → Contains (waits_at b.channels target) m →
      IsSentBy r b.channels (wire_at (wires_of (graph_tree parts.graph)) (wire_to (wires_of (graph_tree parts.graph)) target)) m
