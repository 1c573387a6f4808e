-- How the messages of a tick come to the ports and outputs of handlers, one after another.
use Rattle.std.specs.Prelude.{◌≡◌, ℕ, suc, ◌+◌, ◌<◌, ◌≤◌, ◌==◌, ℤ, Bool, false, List, [], ◌∷◌, ◌++◌, length, slice_get, Some, if◌then◌else◌}
use Rattle.yt_list.specs.Numbered.{numbered}
use Rattle.yt_graph.specs.declared.port.Feed.TheVariants.{Input}
use Rattle.yt_graph.specs.Picture.{GraphTree, PortTree, graph_tree}
use Rattle.yt_chan.specs.declared.target.Arrived.{Arrived}
use Rattle.yt_chan.specs.declared.target.Arrived.TheVariants.{Port, Output}
use Rattle.yt_chan.specs.State.{IsArriving, IsNext, NoneIsLate, Waits, placed_at}
use Rattle.yt_chan.specs.Pending.{Pending}
use Rattle.yt_log.specs.declared.plan.PlanItem.{PlanItem}
use Rattle.yt_log.specs.Tasks.{Has}
use Rattle.yt_exec.specs.StandsFor.{item_at}
use Rattle.yt_rates.specs.Acceptance.{IsAccepted, Parts}
use Rattle.yt_trace.specs.declared.message.Message.{Message}
use Rattle.yt_serial.specs.Premises.{CanRun, IsSchedulable}
use Rattle.yt_serial.specs.Beginnings.{nth_job}
use Rattle.yt_serial.specs.Lines.{AreInLineOrder, lines_of}
use Rattle.yt_serial.specs.declared.shown.OutLine.{OutLine}
use Rattle.yt_serial.specs.PortMessages.{PortMessage}
use Rattle.yt_serial.specs.SerialHandling.{Serial, shown}
use Rattle.yt_interleave.specs.Interleaved.{RunState, known_at}
use Rattle.yt_interleave.specs.Lines.{come_at, come_before, messages_to}
use Rattle.yt_interleave.specs.Moves.{AllKnownHandled, Interleaves}
use Rattle.yt_interleave.specs.Executives.{AllReleased}
use Rattle.yt_interleave.specs.Runs.{AllShown, AreReleased, AreShownNow}
use Rattle.yt_interleave.specs.Waits.{NoneComesBefore}
use Rattle.yt_interleave.specs.Timing.{IsOnTime}
use Rattle.yt_body.specs.declared.port_run.PortStage.TheVariants.{Idle}
use Rattle.yt_body.specs.Sound.{IsSound, MayCome}
use Rattle.yt_body.specs.State.{HandlersState, run_at}
use Rattle.yt_body.specs.Steps.{Comes, Puts}
use Rattle.yt_body_laws.specs.Carrying.{Carries}

-- whether two targets are the same
abbrev pub same_target : Arrived → Arrived → Bool
same_target (Port a) (Port b) = a == b
same_target (Port a) (Output b) = false
same_target (Output a) (Port b) = false
same_target (Output a) (Output b) = a == b

-- a tick for each target, and another one for one of them
abbrev pub with_tick_at : Arrived → ℕ → (Arrived → ℕ) → Arrived → ℕ
with_tick_at target tick ticks other = if same_target other target then tick else ticks other

-- in the middle of placing what comes now: at some targets it has come, and at the others it is still to come
pub record IsPlacing (parts : Parts) (trace : List Message) (s : Serial) (r : RunState) (due : Arrived → ℕ) (b : HandlersState) : Type 0 where
  pub accepted : IsAccepted parts
  pub can : IsSchedulable (graph_tree parts.graph) trace
  pub interleaves : Interleaves (graph_tree parts.graph) trace s r
  pub on_time : IsOnTime (graph_tree parts.graph) s r
  pub carries : Carries parts s r due b
  pub from : (target : Arrived) → length r.log ≤ due target
  pub to : (target : Arrived) → due target ≤ suc (length r.log)

-- the known message of a port of a number is to come now, and has room
pub record MayComeNow (r : RunState) (b : HandlersState) (port n : ℕ) : Type 0 where
  pub may : MayCome b port (length r.log)
  pub number : (run_at b port).number + 1 ≡ n

-- the message that has come to a target is the known one that comes now: at a port that of the run's number, at an output the only one
abbrev pub HasComeTo : RunState → HandlersState → Arrived → Type 0
HasComeTo r new (Port port) = (m : PortMessage) × (numbered (known_at r port) (run_at new port).number ≡ Some m) × (m.time ≡ length r.log)
HasComeTo r new (Output output) = (m : PortMessage) × (come_at (length r.log) (messages_to r.outputs output) ≡ m ∷ []) × (placed_at new.channels (Output output) ≡ Some m.values)

-- the next message has come to a target, where none had come yet in this tick
pub record HasPlaced (parts : Parts) (trace : List Message) (s : Serial) (r : RunState) (due : Arrived → ℕ) (target : Arrived) (new : HandlersState) : Type 0 where
  pub waited : due target ≡ length r.log
  pub placing : IsPlacing parts trace s r (with_tick_at target (suc (length r.log)) due) new
  pub come : HasComeTo r new target

-- at each port that an input feeds what comes now has come
abbrev pub AllPut : Parts → RunState → (Arrived → ℕ) → Type 0
AllPut parts r due =
    (port : ℕ) (p : PortTree) (input n : ℕ) (m : PortMessage) → numbered (graph_tree parts.graph).ports port ≡ Some p → p.feed ≡ Input input →
    numbered (known_at r port) n ≡ Some m → m.time ≡ length r.log → due (Port port) ≡ suc (length r.log)

-- how messages come
pub record BodiesPlace : Type 0 where
  -- a known message that comes now may come to its port
  pub may_come :
      (parts : Parts) (trace : List Message) (s : Serial) (r : RunState) (due : Arrived → ℕ) (b : HandlersState) → IsPlacing parts trace s r due b →
      (port n : ℕ) (m : PortMessage) → numbered (known_at r port) n ≡ Some m → m.time ≡ length r.log → due (Port port) ≡ length r.log → MayComeNow r b port n
  -- so the next message that waits may
  pub may_deliver :
      (parts : Parts) (trace : List Message) (s : Serial) (r : RunState) (due : Arrived → ℕ) (b : HandlersState) → IsPlacing parts trace s r due b →
      NoneIsLate b.channels (length r.log) × ((port : ℕ) → IsNext b.channels (length r.log) (Port port) → MayCome b port (length r.log))
  -- a message of the trace comes to a port that its input feeds
  pub puts :
      (parts : Parts) (trace : List Message) (s : Serial) (r : RunState) (due : Arrived → ℕ) (b : HandlersState) → IsPlacing parts trace s r due b →
      (port : ℕ) (p : PortTree) (input n : ℕ) (m : PortMessage) → numbered (graph_tree parts.graph).ports port ≡ Some p → p.feed ≡ Input input →
      numbered (known_at r port) n ≡ Some m → m.time ≡ length r.log → due (Port port) ≡ length r.log →
      (new : HandlersState) → Puts b port m.values (length r.log) new → IsSound new → HasPlaced parts trace s r due (Port port) new
  -- a message that waited comes
  pub comes :
      (parts : Parts) (trace : List Message) (s : Serial) (r : RunState) (due : Arrived → ℕ) (b : HandlersState) → IsPlacing parts trace s r due b →
      (target : Arrived) (new : HandlersState) → Comes b (length r.log) target new → IsSound new → HasPlaced parts trace s r due target new
  -- where none is left, all have come
  pub ends :
      (parts : Parts) (trace : List Message) (s : Serial) (r : RunState) (due : Arrived → ℕ) (b : HandlersState) → IsPlacing parts trace s r due b →
      AllPut parts r due → ((target : Arrived) → IsArriving b.channels (length r.log) target → ⊥) → Carries parts s r (λ target. suc (length r.log)) b

-- the items of the jobs whose messages have come in this tick, and the lines of what has come to outputs, in order and before all that is still to come
pub record HasTold (r : RunState) (due : Arrived → ℕ) (b : HandlersState) (new : List PlanItem) (more : List OutLine) : Type 0 where
  pub known : (z : PlanItem) → Has new z → (m : PortMessage) × (numbered (known_at r z.job.task) z.job.number ≡ Some m) × (m.time ≡ z.arrival)
  pub now : (z : PlanItem) → Has new z → z.arrival ≡ length r.log
  pub come : (z : PlanItem) → Has new z → length r.log < due (Port z.job.task)
  pub all :
      (port n : ℕ) (m : PortMessage) → numbered (known_at r port) n ≡ Some m → m.time ≡ length r.log → length r.log < due (Port port) →
      (z : PlanItem) × (Has new z) × (z.job ≡ nth_job port n)
  pub order : AreInLineOrder more
  pub times : (l : OutLine) → Has more l → l.time ≡ length r.log
  pub each : (n : ℕ) → lines_of n more ≡ shown n (come_before (due (Output n)) (come_at (length r.log) (messages_to r.outputs n)))
  pub ahead : (l : OutLine) → Has more l → (n : ℕ) → IsArriving b.channels (length r.log) (Output n) → l.output < n

-- what is released and shown of the messages that come
pub record BodiesTell : Type 0 where
  pub starts :
      (parts : Parts) (trace : List Message) (s : Serial) (r : RunState) (due : Arrived → ℕ) (b : HandlersState) → IsPlacing parts trace s r due b →
      ((target : Arrived) → due target ≡ length r.log) → HasTold r due b [] []
  -- the job of a message that has come to a port is released
  pub releases :
      (parts : Parts) (trace : List Message) (s : Serial) (r : RunState) (due : Arrived → ℕ) (b : HandlersState) → IsPlacing parts trace s r due b →
      (new : List PlanItem) (more : List OutLine) → HasTold r due b new more → (port : ℕ) (after : HandlersState) → HasPlaced parts trace s r due (Port port) after →
      (cost : ℕ) → HasTold r (with_tick_at (Port port) (suc (length r.log)) due) after (new ++ item_at (length r.log) (nth_job port (run_at after port).number) cost ∷ []) more
  -- one that has come to an output is shown
  pub shows :
      (parts : Parts) (trace : List Message) (s : Serial) (r : RunState) (due : Arrived → ℕ) (b : HandlersState) → IsPlacing parts trace s r due b →
      (new : List PlanItem) (more : List OutLine) → HasTold r due b new more → (output : ℕ) (after : HandlersState) → Comes b (length r.log) (Output output) after →
      HasPlaced parts trace s r due (Output output) after → (values : List ℤ) → placed_at after.channels (Output output) ≡ Some values →
      HasTold r (with_tick_at (Output output) (suc (length r.log)) due) after new (more ++ (record { time = length r.log; output = output; values = values }) ∷ [])
  -- where none is left, these are all
  pub ends :
      (parts : Parts) (trace : List Message) (s : Serial) (r : RunState) (due : Arrived → ℕ) (b : HandlersState) → IsPlacing parts trace s r due b →
      (new : List PlanItem) (more : List OutLine) → HasTold r due b new more → AllPut parts r due → ((target : Arrived) → IsArriving b.channels (length r.log) target → ⊥) →
      AreReleased r new × AreShownNow r more

-- a port is fed by an input
abbrev pub IsFedBy : GraphTree → ℕ → ℕ → Type 0
IsFedBy g port input = (p : PortTree) × (numbered g.ports port ≡ Some p) × (p.feed ≡ Input input)

-- an input feeds a port at least
abbrev pub FeedsSome : GraphTree → ℕ → Type 0
FeedsSome g input = (port : ℕ) × IsFedBy g port input

-- each message of a trace that comes at a tick or later comes at another one or later. Messages that feed no port don't matter
abbrev pub TraceIsFrom : GraphTree → List Message → ℕ → ℕ → Type 0
TraceIsFrom g trace due t = (k : ℕ) (x : Message) → slice_get trace k ≡ Some x → FeedsSome g x.input → due ≤ x.time → t ≤ x.time

-- what is to come
pub record BodiesRest : Type 0 where
  -- none of the run's messages comes before a tick where none that waits does, nor any of the trace
  pub next_comes :
      (parts : Parts) (trace : List Message) → CanRun (graph_tree parts.graph) trace → (s : Serial) (r : RunState) → Interleaves (graph_tree parts.graph) trace s r →
      (due t : ℕ) (b : HandlersState) → Carries parts s r (λ target. due) b → NoneIsLate b.channels t → TraceIsFrom (graph_tree parts.graph) trace due t → NoneComesBefore r due t
  -- where nothing waits and all messages of the trace have come, all known messages have
  pub all_come :
      (parts : Parts) (trace : List Message) → CanRun (graph_tree parts.graph) trace → (s : Serial) (r : RunState) → Interleaves (graph_tree parts.graph) trace s r →
      (due : ℕ) (b : HandlersState) → Carries parts s r (λ target. due) b → ((m : Pending) → Waits b.channels m → ⊥) →
      ((k : ℕ) (x : Message) → slice_get trace k ≡ Some x → FeedsSome (graph_tree parts.graph) x.input → x.time < due) → AllReleased r due × AllShown r due
  -- and where no job is to begin or to go on besides, all are handled
  pub over :
      (parts : Parts) (trace : List Message) → CanRun (graph_tree parts.graph) trace → (s : Serial) (r : RunState) → Interleaves (graph_tree parts.graph) trace s r →
      (due : ℕ) (b : HandlersState) → Carries parts s r (λ target. due) b → AllReleased r due → ((port : ℕ) → (run_at b port).stage ≡ Idle) → AllKnownHandled (graph_tree parts.graph) s r
