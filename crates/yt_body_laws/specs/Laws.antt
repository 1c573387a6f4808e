-- What is proved of handlers that carry a run.
use Rattle.std.specs.Prelude.{◌≡◌, ℕ, ◌+◌, ◌<◌, ◌≤◌, List, length, Some}
use Rattle.yt_graph.specs.Picture.{graph_tree}
use Rattle.yt_log.specs.declared.job.Job.{Job}
use Rattle.yt_log.specs.Ticks.{done}
use Rattle.yt_chan.specs.declared.target.Arrived.{Arrived}
use Rattle.yt_chan.specs.declared.target.Arrived.TheVariants.{Port}
use Rattle.yt_rates.specs.Acceptance.{IsAccepted, Parts}
use Rattle.yt_rates.specs.Rates.{within_of}
use Rattle.yt_trace.specs.declared.message.Message.{Message}
use Rattle.yt_serial.specs.Premises.{CanRun}
use Rattle.yt_serial.specs.PortMessages.{PortMessage}
use Rattle.yt_serial.specs.SerialHandling.{Serial, handle_message, start}
use Rattle.yt_interleave.specs.Executives.{HasLeft}
use Rattle.yt_interleave.specs.Interleaved.{ActiveJob, RunState, first_state, port_at, with_begun, with_idle, with_idles}
use Rattle.yt_interleave.specs.Moves.{Interleaves, MayBegin, active_job, after_tick}
use Rattle.yt_interleave.specs.Waits.{NoneComesBefore}
use Rattle.yt_body.specs.Sound.{IsSound}
use Rattle.yt_body.specs.State.{HandlersState, IsStart, left_at}
use Rattle.yt_body.specs.Steps.{BeginsJob, StepsJob}
use Rattle.yt_body_laws.specs.Carrying.{Carries}

-- before the first message
abbrev pub BodiesStart : Type 0
BodiesStart =
    (parts : Parts) (trace : List Message) (b : HandlersState) → IsStart parts b → IsSound b →
    Carries parts (start (graph_tree parts.graph) trace) (first_state (graph_tree parts.graph) trace) (λ target. 0) b

-- so many ticks are left of the jobs as the run says
abbrev pub BodiesHaveLeft : Type 0
BodiesHaveLeft =
    (parts : Parts) → IsAccepted parts → (trace : List Message) → CanRun (graph_tree parts.graph) trace → (s : Serial) (r : RunState) →
    Interleaves (graph_tree parts.graph) trace s r → (due : Arrived → ℕ) (b : HandlersState) → Carries parts s r due b → HasLeft (graph_tree parts.graph) r (left_at b)

-- idle ticks change nothing
pub record BodiesIdle : Type 0 where
  pub idles :
      (parts : Parts) (s : Serial) (r : RunState) (due : Arrived → ℕ) (b : HandlersState) → Carries parts s r due b → Carries parts s (with_idle r) due b
  -- many at once, up to a tick before which no known message comes
  pub idles_on :
      (parts : Parts) (s : Serial) (r : RunState) (due t count : ℕ) (b : HandlersState) → Carries parts s r (λ target. due) b → due ≤ t → NoneComesBefore r due t →
      Carries parts s (with_idles count r) (λ target. t) b

-- a tick of a job is one of the run
pub record BodiesTick : Type 0 where
  -- a job that has begun goes on
  pub goes_on :
      (parts : Parts) → IsAccepted parts → (trace : List Message) → CanRun (graph_tree parts.graph) trace → (s : Serial) (r : RunState) →
      Interleaves (graph_tree parts.graph) trace s r → (due : Arrived → ℕ) (b : HandlersState) → Carries parts s r due b →
      (port : ℕ) (a : ActiveJob) → r.active port ≡ Some a → ((target : Arrived) → due target ≤ a.message.time + within_of (graph_tree parts.graph) (port_at (graph_tree parts.graph) port)) →
      (new : HandlersState) → StepsJob b a.job new → IsSound new → Carries parts s (after_tick (graph_tree parts.graph) a r) due new
  -- a job begins with its message, which has come, and has its first tick
  pub begins :
      (parts : Parts) → IsAccepted parts → (trace : List Message) → CanRun (graph_tree parts.graph) trace → (s : Serial) (r : RunState) →
      Interleaves (graph_tree parts.graph) trace s r → (due : Arrived → ℕ) (b : HandlersState) → Carries parts s r due b →
      (job : Job) (m : PortMessage) → MayBegin (graph_tree parts.graph) s r job m → done r.log job (length r.log) ≡ 0 → m.time < due (Port job.task) →
      ((target : Arrived) → due target ≤ m.time + within_of (graph_tree parts.graph) (port_at (graph_tree parts.graph) job.task)) →
      (mid new : HandlersState) → BeginsJob b job mid → StepsJob mid job new → IsSound new →
      Carries parts (handle_message (graph_tree parts.graph) job m s)
      (after_tick (graph_tree parts.graph) (active_job job m s) (with_begun job m s.vars r)) due new
