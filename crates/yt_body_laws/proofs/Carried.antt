-- What handlers carry of a run, whether they are sound or not.
use Rattle.std.proofs.Common.{◌≡◌, ℕ, ◌<◌, ◌≤◌, length, map, Some, sym, ap, subst, ◌∙◌, arith}
use Rattle.std.specs.List.{Contains}
use Rattle.yt_list.specs.Numbered.{numbered}
use Rattle.yt_graph.specs.Picture.{graph_tree}
use Rattle.yt_log.specs.Ticks.{done}
use Rattle.yt_chan.specs.declared.target.Arrived.{Arrived}
use Rattle.yt_chan.specs.declared.target.Arrived.TheVariants.{Port}
use Rattle.yt_chan.specs.declared.wire.Wire.{Wire}
use Rattle.yt_chan.specs.Pending.{Pending}
use Rattle.yt_chan.specs.State.{ChannelState, job_at, open_on, placed_at, waits_at}
use Rattle.yt_chan.specs.Wires.{wire_at, wire_to}
use Rattle.yt_rates.specs.Acceptance.{Parts}
use Rattle.yt_serial.specs.PortMessages.{PortMessage}
use Rattle.yt_serial.specs.SerialHandling.{Serial, handled_of}
use Rattle.yt_interleave.specs.Carrying.{as_message}
use Rattle.yt_interleave.specs.Interleaved.{ActiveJob, RunState, known_at}
use Rattle.yt_interleave.specs.Machines.{IsAloneAt}
use Rattle.yt_interleave.specs.Waits.{wait_from}
use Rattle.yt_body.specs.declared.port_run.PortRun.{PortRun}
use Rattle.yt_body.specs.declared.port_run.PortStage.TheVariants.{Placed, Begun}
use Rattle.yt_body.specs.Sound.{IsSound}
use Rattle.yt_body.specs.State.{HandlersState, code_at, run_at}
use Rattle.yt_body.specs.Wiring.{wires_of}
use Rattle.yt_body_laws.specs.Carrying.{AreRising, Carries, HasClosed, HoldsMessage, IsSentBy, RunsJob, come_to, known_for}

-- all that handlers carry of a run but that they are sound; and their wires
pub record Carried (parts : Parts) (s : Serial) (r : RunState) (due : Arrived → ℕ) (b : HandlersState) : Type 0 where
  pub graph : b.parts ≡ parts
  pub wires : b.channels.wires ≡ wires_of (graph_tree parts.graph)
  pub vars : b.vars ≡ r.vars
  pub begun : (port : ℕ) (a : ActiveJob) → r.active port ≡ Some a → RunsJob parts r b port a
  pub only : (port : ℕ) → (run_at b port).stage ≡ Begun → (a : ActiveJob) × (r.active port ≡ Some a)
  pub placed : (port : ℕ) → (run_at b port).stage ≡ Placed → HoldsMessage r (due (Port port)) b port
  pub came : (port : ℕ) → (run_at b port).number ≡ come_to (run_at b port).stage (handled_of s port)
  pub arrived : (port n : ℕ) (m : PortMessage) → numbered (known_at r port) n ≡ Some m → m.time < due (Port port) → n ≤ (run_at b port).number
  pub closed : (port : ℕ) → 0 < (job_at b.channels port).number → HasClosed r b.channels port
  pub waits : (target : Arrived) → map as_message (waits_at b.channels target) ≡ wait_from (due target) (known_for (graph_tree parts.graph) r target)
  pub rise : (target : Arrived) → AreRising (waits_at b.channels target)
  pub sent : (target : Arrived) (m : Pending) → Contains (waits_at b.channels target) m →
      IsSentBy r b.channels (wire_at (wires_of (graph_tree parts.graph)) (wire_to (wires_of (graph_tree parts.graph)) target)) m

pub wires_are : (parts : Parts) (b : HandlersState) → b.parts ≡ parts → IsSound b → b.channels.wires ≡ wires_of (graph_tree parts.graph)
wires_are parts b graph sound = sound.wires ∙ ap (λ (p : Parts). wires_of (graph_tree p.graph)) graph

pub carried : (parts : Parts) (s : Serial) (r : RunState) (due : Arrived → ℕ) (b : HandlersState) → Carries parts s r due b → Carried parts s r due b
carried parts s r due b c = record {
  graph = c.graph;
  wires = wires_are parts b c.graph c.sound;
  vars = c.vars;
  begun = c.begun;
  only = c.only;
  placed = c.placed;
  came = c.came;
  arrived = c.arrived;
  closed = c.closed;
  waits = c.waits;
  rise = c.rise;
  sent = c.sent;
}

pub carries : (parts : Parts) (s : Serial) (r : RunState) (due : Arrived → ℕ) (b : HandlersState) → IsSound b → Carried parts s r due b → Carries parts s r due b
carries parts s r due b sound c = record {
  graph = c.graph;
  sound = sound;
  vars = c.vars;
  begun = c.begun;
  only = c.only;
  placed = c.placed;
  came = c.came;
  arrived = c.arrived;
  closed = c.closed;
  waits = c.waits;
  rise = c.rise;
  sent = c.sent;
}

-- each message keeps its number
abbrev pub KeepsKnown : RunState → RunState → Type 0
KeepsKnown r q = (port n : ℕ) (m : PortMessage) → numbered (known_at r port) n ≡ Some m → numbered (known_at q port) n ≡ Some m

-- what is said of one port or wire stays where nothing there changes
pub runs_on : (parts : Parts) (r q : RunState) (b c : HandlersState) (port : ℕ) (a : ActiveJob) → run_at c port ≡ run_at b port →
    done q.log a.job (length q.log) ≡ done r.log a.job (length r.log) → ((out : ℕ) → open_on c.channels port out ≡ open_on b.channels port out) →
    RunsJob parts r b port a → RunsJob parts q c port a
runs_on parts r q b c port a same as_much opens run = record {
  stage = ap (λ (x : PortRun). x.stage) same ∙ run.stage;
  number = ap (λ (x : PortRun). x.number) same ∙ run.number;
  arrival = ap (λ (x : PortRun). x.arrival) same ∙ run.arrival;
  progress = run.progress;
  alone = subst (λ (n : ℕ). IsAloneAt (code_at parts port) a.message.values a.vars n run.progress) (sym as_much) run.alone;
  machine = run.machine ∙ sym (ap (λ (x : PortRun). x.machine) same);
  sent = λ out. opens out ∙ run.sent out;
}

pub holds_on : (r q : RunState) (due later : ℕ) (b c : HandlersState) (port : ℕ) → run_at c port ≡ run_at b port → placed_at c.channels (Port port) ≡ placed_at b.channels (Port port) →
    KeepsKnown r q → due ≤ later → HoldsMessage r due b port → HoldsMessage q later c port
holds_on r q due later b c port same placed keeps le h =
    let before = h.early in
    record {
      message = h.message;
      there = ap (λ (x : PortRun). numbered (known_at q port) x.number) same ∙ keeps port (run_at b port).number h.message h.there;
      arrival = ap (λ (x : PortRun). x.arrival) same ∙ h.arrival;
      values = placed ∙ h.values;
      early = omega arith;
    }

pub closed_on : (r q : RunState) (b c : ChannelState) (port : ℕ) → (job_at c port).number ≡ (job_at b port).number → (job_at c port).arrival ≡ (job_at b port).arrival → KeepsKnown r q → HasClosed r b port → HasClosed q c port
closed_on r q b c port number arrival keeps h = record {
  message = h.message;
  there = ap (numbered (known_at q port)) number ∙ keeps port (job_at b port).number h.message h.there;
  arrival = arrival ∙ h.arrival;
}

pub sent_on : (r q : RunState) (b c : ChannelState) (w : Wire) (m : Pending) → (job_at b w.port).number ≤ (job_at c w.port).number → KeepsKnown r q → IsSentBy r b w m → IsSentBy q c w m
sent_on r q b c w m grows keeps h =
    let before = h.closed in
    record {
      closed = omega arith;
      passes = h.passes;
      sender = h.sender;
      there = keeps w.port m.number h.sender h.there;
      place = h.place;
      few = h.few;
      time = h.time;
    }
