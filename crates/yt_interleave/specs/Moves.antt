-- When a job may begin, what a tick leaves, and when all messages are handled.
use Rattle.std.specs.Prelude.{◌≡◌, ℕ, suc, ◌+◌, ◌<◌, ◌≤◌, ◌==◌, List, length, Some, None, if◌then◌else◌}
use Rattle.yt_graph.specs.Picture.{GraphTree}
use Rattle.yt_log.specs.declared.job.Job.{Job}
use Rattle.yt_log.specs.Ticks.{done}
use Rattle.yt_trace.specs.declared.message.Message.{Message}
use Rattle.yt_serial.specs.Beginnings.{order_of}
use Rattle.yt_serial.specs.PortMessages.{PortMessage}
use Rattle.yt_list.specs.Numbered.{numbered}
use Rattle.yt_serial.specs.SerialHandling.{Serial, handled_of}
use Rattle.yt_interleave.specs.Interleaved.{ActiveJob, RunState, group_at, whole_of, known_at, with_tick, with_end, MatchesSerial}
use Rattle.yt_interleave.specs.Lines.{KnowsLines}

-- no active job is under the resource of a port, where the port is under one
abbrev pub IsResourceFree : GraphTree → RunState → ℕ → Type 0
IsResourceFree g r task = (port : ℕ) (b : ActiveJob) → r.active port ≡ Some b → 0 < group_at g task → group_at g port ≡ group_at g task → ⊥

-- a job may begin with a message: it is its port's next one, which has come; the port's job before has ended; and the port's resource is free
pub record MayBegin (g : GraphTree) (s : Serial) (r : RunState) (job : Job) (m : PortMessage) : Type 0 where
  pub number : job.number ≡ suc (handled_of s job.task)
  pub there : numbered (known_at r job.task) job.number ≡ Some m
  pub arrived : m.time ≤ length r.log
  pub idle : r.active job.task ≡ None
  pub free : IsResourceFree g r job.task

-- after a tick of a job: where it was the last, the job ends
abbrev pub after_tick : GraphTree → ActiveJob → RunState → RunState
after_tick g b r =
    if done r.log b.job (length r.log) + 1 == (whole_of g b).ticks then with_end g b (with_tick g b r) else with_tick g b r

-- a job at its beginning, with its message and serial handling's variables
abbrev pub active_job : Job → PortMessage → Serial → ActiveJob
active_job job m s = record { job = job; message = m; vars = s.vars }

-- between two ticks: the interleaved run matches serial handling along the log's order of beginning, each active job has had a tick and
-- has one left, and serial handling shows what is known and what the active jobs will pass on
pub record Interleaves (g : GraphTree) (trace : List Message) (s : Serial) (r : RunState) : Type 0 where
  pub stands : MatchesSerial g trace (order_of r.log) s r
  pub begun : (port : ℕ) (b : ActiveJob) → r.active port ≡ Some b → 0 < done r.log b.job (length r.log)
  pub unfinished : (port : ℕ) (b : ActiveJob) → r.active port ≡ Some b → done r.log b.job (length r.log) < (whole_of g b).ticks
  pub lines : KnowsLines g s r

-- no job is active, and each port has handled all known messages. Lines may be left to show
pub record AllKnownHandled (g : GraphTree) (s : Serial) (r : RunState) : Type 0 where
  pub none : (port : ℕ) → r.active port ≡ None
  pub all : (port : ℕ) → 1 ≤ port → port ≤ length g.ports → handled_of s port ≡ length (known_at r port)
