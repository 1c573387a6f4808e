-- The known messages that wait for their time, as channels keep them: those of each port and of each output apart.
use Rattle.std.specs.Prelude.{◌≡◌, ℕ, suc, ◌+◌, ◌*◌, ◌%◌, ◌≤◌, nat_le, List, [], ◌∷◌, ◌++◌, length, slice_get, Some, if◌then◌else◌, ◌<◌}
use Rattle.yt_graph.specs.declared.graph.Output.{Output}
use Rattle.yt_graph.specs.declared.port.Feed.{Feed}
use Rattle.yt_graph.specs.declared.port.Feed.TheVariants.{Input, Out}
use Rattle.yt_graph.specs.Cost.{greatest_sends}
use Rattle.yt_graph.specs.Picture.{GraphTree, PortTree}
use Rattle.yt_rates.specs.Rates.{every_of, gap_of, period_of, within_of}
use Rattle.yt_trace.specs.declared.message.Message.{Message}
use Rattle.yt_serial.specs.PortMessages.{PortMessage, messages_of}
use Rattle.yt_list.specs.Numbered.{numbered}
use Rattle.yt_serial.specs.SerialHandling.{Serial, messages_at, handled_of, brought}
use Rattle.yt_interleave.specs.Interleaved.{ActiveJob, RunState, port_at, known_at, passes_of, with_end}
use Rattle.yt_serial.specs.Premises.{CanRun}
use Rattle.yt_interleave.specs.Lines.{messages_to, come_at}
use Rattle.yt_interleave.specs.Moves.{Interleaves}

-- the messages that come at a tick or later
abbrev pub wait_from : ℕ → List PortMessage → List PortMessage
wait_from due [] = []
wait_from due (m ∷ messages) = if nat_le due m.time then m ∷ wait_from due messages else wait_from due messages

-- each message of a list comes at a tick or later
abbrev pub AreFrom : ℕ → List PortMessage → Type 0
AreFrom t messages = (k : ℕ) (m : PortMessage) → slice_get messages k ≡ Some m → t ≤ m.time

-- of the known messages that come at `due` or later, none comes before a tick
pub record NoneComesBefore (r : RunState) (due t : ℕ) : Type 0 where
  pub ports : (port : ℕ) → AreFrom t (wait_from due (known_at r port))
  pub outputs : (n : ℕ) → AreFrom t (wait_from due (messages_to r.outputs n))

-- a message that waits from a tick on is known and has a number at its port, where serial handling has it too
pub record IsThere (s : Serial) (r : RunState) (port t : ℕ) (m : PortMessage) : Type 0 where
  pub number : ℕ
  pub known : numbered (known_at r port) number ≡ Some m
  pub serial : numbered (messages_at s port) number ≡ Some m
  pub late : t ≤ m.time

-- a job of a port that has begun passes a message on through an out: its number is a multiple of the out's `every`, and the out's gap
-- after the message is over by the deadline of the port's next job that passes on
pub record IsPassedOn (g : GraphTree) (s : Serial) (port : ℕ) (p : PortTree) (out : ℕ) (m : PortMessage) : Type 0 where
  pub number : ℕ
  pub sender : PortMessage
  pub handled : number ≤ handled_of s port
  pub there : numbered (messages_at s port) number ≡ Some sender
  pub passes : number % every_of p out ≡ 0
  pub ends : m.time + gap_of g p out ≤ sender.time + within_of g p + every_of p out * period_of g p

-- where a feed's message comes from: the trace, or a job
abbrev pub ComesFrom : GraphTree → List Message → Serial → Feed → PortMessage → Type 0
ComesFrom g trace s (Input i) m = (k : ℕ) × (slice_get (messages_of i trace) k ≡ Some m)
ComesFrom g trace s (Out port out) m = (p : PortTree) → numbered g.ports port ≡ Some p → IsPassedOn g s port p out m

-- how the messages that wait change
pub record MessagesWait : Type 0 where
  -- a port that an input feeds knows the trace's messages, and no others
  pub input :
      (g : GraphTree) (trace : List Message) → CanRun g trace → (s : Serial) (r : RunState) → Interleaves g trace s r →
      (port : ℕ) (p : PortTree) (i : ℕ) → numbered g.ports port ≡ Some p → p.feed ≡ Input i → known_at r port ≡ messages_of i trace
  -- what waits for a port is known there, in serial handling too
  pub there :
      (g : GraphTree) (trace : List Message) → CanRun g trace → (s : Serial) (r : RunState) → Interleaves g trace s r →
      (port t k : ℕ) (m : PortMessage) → slice_get (wait_from t (known_at r port)) k ≡ Some m → IsThere s r port t m
  -- and comes from outside or from a job
  pub from :
      (g : GraphTree) (trace : List Message) → CanRun g trace → (s : Serial) (r : RunState) → Interleaves g trace s r →
      (port t k : ℕ) (p : PortTree) (m : PortMessage) → numbered g.ports port ≡ Some p → slice_get (wait_from t (known_at r port)) k ≡ Some m →
      ComesFrom g trace s p.feed m
  -- the messages of a port are its period apart
  pub apart :
      (g : GraphTree) (trace : List Message) → CanRun g trace → (s : Serial) (r : RunState) → Interleaves g trace s r →
      (port k n : ℕ) (p : PortTree) (x m : PortMessage) → numbered g.ports port ≡ Some p →
      numbered (known_at r port) k ≡ Some x → numbered (known_at r port) n ≡ Some m → k < n → x.time + period_of g p ≤ m.time
  -- where none of those that wait comes before a later tick, the same wait from it on
  pub later :
      (r : RunState) (due t : ℕ) → due ≤ t → NoneComesBefore r due t →
      ((port : ℕ) → wait_from t (known_at r port) ≡ wait_from due (known_at r port)) × ((n : ℕ) → wait_from t (messages_to r.outputs n) ≡ wait_from due (messages_to r.outputs n))
  -- where a job ends before its deadline, its messages wait behind those that waited, at each port and at each output
  pub at_port :
      (g : GraphTree) (trace : List Message) → CanRun g trace → (s : Serial) (r : RunState) → Interleaves g trace s r →
      (b : ActiveJob) (due : ℕ) → due ≤ b.message.time + within_of g (port_at g b.job.task) → (port : ℕ) (p : PortTree) → numbered g.ports port ≡ Some p →
      wait_from due (known_at (with_end g b r) port) ≡ wait_from due (known_at r port) ++ brought b.job.task (passes_of g b) p.feed
  pub at_output :
      (g : GraphTree) (trace : List Message) → CanRun g trace → (s : Serial) (r : RunState) → Interleaves g trace s r →
      (b : ActiveJob) (due : ℕ) → due ≤ b.message.time + within_of g (port_at g b.job.task) → (n : ℕ) (o : Output) → numbered g.outputs n ≡ Some o →
      wait_from due (messages_to (with_end g b r).outputs n) ≡ wait_from due (messages_to r.outputs n) ++ brought b.job.task (passes_of g b) (Out o.port o.out)
  -- of the messages that wait from a tick on, those of the tick come first
  pub port_comes :
      (g : GraphTree) (trace : List Message) → CanRun g trace → (s : Serial) (r : RunState) → Interleaves g trace s r →
      (port t : ℕ) → wait_from t (known_at r port) ≡ come_at t (known_at r port) ++ wait_from (suc t) (known_at r port)
  -- at a port at most one comes at a tick
  pub port_one :
      (g : GraphTree) (trace : List Message) → CanRun g trace → (s : Serial) (r : RunState) → Interleaves g trace s r →
      (port t : ℕ) → length (come_at t (known_at r port)) ≤ 1
  pub output_comes :
      (g : GraphTree) (trace : List Message) → CanRun g trace → (s : Serial) (r : RunState) → Interleaves g trace s r →
      (n t : ℕ) → wait_from t (messages_to r.outputs n) ≡ come_at t (messages_to r.outputs n) ++ wait_from (suc t) (messages_to r.outputs n)
  -- when a later job's message has come, what a job passed on before the last one that passed has come too: so the messages of an out
  -- that wait while a job of its port is active come of one job at most
  pub old_come :
      (g : GraphTree) (trace : List Message) → CanRun g trace → (s : Serial) (r : RunState) → Interleaves g trace s r →
      (port n earlier last j : ℕ) (p : PortTree) (m first : PortMessage) (out : ℕ) → numbered g.ports port ≡ Some p →
      numbered (messages_at s port) n ≡ Some m → numbered (messages_at s port) earlier ≡ Some first → 1 ≤ out → out ≤ length p.outs →
      earlier % every_of p out ≡ 0 → last % every_of p out ≡ 0 → earlier < last → last < n → j < greatest_sends p out →
      first.time + within_of g p + j * gap_of g p out < m.time
