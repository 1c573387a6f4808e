-- What stays true of the handlers of a graph.
use Rattle.std.specs.Prelude.{◌≡◌, ◌≢◌, ℕ, suc, ◌+◌, ◌<◌, ◌≤◌, ◌^◌, ℤ, true, false, List, [], length, Some}
use Rattle.std.specs.List.{Contains}
use Rattle.yt_graph.specs.Picture.{GraphTree, graph_tree}
use Rattle.yt_code.specs.Ready.{IsReady}
use Rattle.yt_log.specs.Limits.{most_arrival}
use Rattle.yt_chan.specs.declared.target.Arrived.{Arrived}
use Rattle.yt_chan.specs.declared.target.Arrived.TheVariants.{Port}
use Rattle.yt_chan.specs.Pending.{Pending}
use Rattle.yt_chan.specs.State.{ChannelState, IsApart, IsOfOneJob, job_at, open_on, placed_at, waits_at}
use Rattle.yt_chan.specs.Wires.{wire_at, wire_of_out, wire_to}
use Rattle.yt_rates.specs.Acceptance.{Parts}
use Rattle.yt_interleave.specs.Interleaved.{group_at, port_at}
use Rattle.yt_interleave.specs.MidHandling.{IsMidHandling}
use Rattle.yt_body.specs.declared.port_run.PortRun.{PortRun}
use Rattle.yt_body.specs.declared.port_run.PortStage.{PortStage}
use Rattle.yt_body.specs.declared.port_run.PortStage.TheVariants.{Idle, Placed, Begun}
use Rattle.yt_body.specs.Sends.{AreOpenWide}
use Rattle.yt_body.specs.State.{HandlersState, code_at, graph_of, run_at}
use Rattle.yt_body.specs.Wiring.{widths_of, wires_of}

-- a port of a graph
abbrev pub IsPortOf : GraphTree → ℕ → Type 0
IsPortOf g port = (1 ≤ port) × (port ≤ length g.ports)

-- what waits on each of a port's wires comes of one job at most
abbrev pub IsClearOf : ChannelState → ℕ → Type 0
IsClearOf channels port =
    (out : ℕ) → wire_of_out channels.wires port out < length channels.wires → IsOfOneJob channels (wire_of_out channels.wires port out)

-- nothing is open on the outs of a port
abbrev pub HasNoneOpen : ChannelState → ℕ → Type 0
HasNoneOpen channels port = (out : ℕ) → open_on channels port out ≡ []

-- no message of a port is in handling
pub record IsIdle (channels : ChannelState) (port : ℕ) (run : PortRun) : Type 0 where
  pub free : (job_at channels port).in_handling ≡ false
  pub number : run.number ≡ (job_at channels port).number
  pub none : HasNoneOpen channels port

-- a port's message is in handling: it is the one after the last closed job's, a period or more after that one, and what waits on each of the port's wires comes of one job at most
pub record IsHeld (channels : ChannelState) (port : ℕ) (run : PortRun) : Type 0 where
  pub handled : (job_at channels port).in_handling ≡ true
  pub number : run.number ≡ (job_at channels port).number + 1
  pub early : run.arrival ≤ most_arrival
  pub apart : IsApart channels port run.arrival
  pub clear : IsClearOf channels port

-- a port's message has come, and its job has not begun
pub record IsPlaced (parts : Parts) (channels : ChannelState) (port : ℕ) (run : PortRun) : Type 0 where
  pub held : IsHeld channels port run
  pub none : HasNoneOpen channels port
  pub message : List ℤ
  pub placed : placed_at channels (Port port) ≡ Some message
  pub wide : length message ≡ (port_at (graph_tree parts.graph) port).params

-- a port's job has begun and not ended
pub record IsBegun (parts : Parts) (channels : ChannelState) (vars : List ℤ) (port : ℕ) (run : PortRun) : Type 0 where
  pub held : IsHeld channels port run
  pub ready : IsReady (code_at parts port) run.machine
  pub mid : IsMidHandling (graph_tree parts.graph) (code_at parts port) (port_at (graph_tree parts.graph) port) run.machine (open_on channels port) vars

-- a port's run is as its stage says
abbrev pub IsAsStage : Parts → ChannelState → List ℤ → ℕ → PortRun → PortStage → Type 0
IsAsStage parts channels vars port run Idle = IsIdle channels port run
IsAsStage parts channels vars port run Placed = IsPlaced parts channels port run
IsAsStage parts channels vars port run Begun = IsBegun parts channels vars port run

-- each message that waits does so for a target that a wire feeds, and is as wide as the wire
abbrev pub AreWaitingWide : ChannelState → Type 0
AreWaitingWide channels =
    (target : Arrived) (m : Pending) → Contains (waits_at channels target) m →
    (wire_to channels.wires target < length channels.wires) × (length m.values ≡ (wire_at channels.wires (wire_to channels.wires target)).width)

-- no two ports whose jobs have begun are under one resource
abbrev pub AreExclusive : HandlersState → Type 0
AreExclusive s =
    (m n : ℕ) → m ≢ n → (run_at s m).stage ≡ Begun → (run_at s n).stage ≡ Begun → 0 < group_at (graph_of s) m → group_at (graph_of s) m ≡ group_at (graph_of s) n → ⊥

-- what stays true of handlers of an accepted graph
pub record IsSound (s : HandlersState) : Type 0 where
  pub long : length s.runs ≡ length (graph_of s).ports + 1
  pub count : length s.vars ≡ length (graph_of s).vars
  pub widths : s.channels.widths ≡ widths_of (graph_of s)
  pub wires : s.channels.wires ≡ wires_of (graph_of s)
  pub inside : (port : ℕ) → (run_at s port).stage ≢ Idle → IsPortOf (graph_of s) port
  pub each : (port : ℕ) → IsPortOf (graph_of s) port → IsAsStage s.parts s.channels s.vars port (run_at s port) (run_at s port).stage
  pub exclusive : AreExclusive s
  pub open_wide : AreOpenWide s.channels
  pub waiting_wide : AreWaitingWide s.channels

-- a message may come to a port at a tick: none of the port is in handling, it comes a period or more after the last one's, and what waits on each of the port's wires comes of one job at most
pub record MayCome (s : HandlersState) (port now : ℕ) : Type 0 where
  pub idle : (run_at s port).stage ≡ Idle
  pub few : (run_at s port).number + 1 < 2 ^ 32
  pub early : now ≤ most_arrival
  pub apart : IsApart s.channels port now
  pub clear : IsClearOf s.channels port
