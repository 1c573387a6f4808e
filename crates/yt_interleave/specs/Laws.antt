-- What is proved of interleaved handling.
use Rattle.std.specs.Prelude.{◌≡◌, ℕ, ◌++◌, List, length, Some}
use Rattle.yt_graph.specs.Picture.{GraphTree}
use Rattle.yt_log.specs.declared.job.Job.{Job}
use Rattle.yt_log.specs.declared.plan.PlanItem.{PlanItem}
use Rattle.yt_log.specs.Tasks.{Has}
use Rattle.yt_log.specs.Ticks.{Ticks, done, IsLawful}
use Rattle.yt_trace.specs.declared.message.Message.{Message}
use Rattle.yt_serial.specs.Premises.{CanRun}
use Rattle.yt_serial.specs.PortMessages.{PortMessage}
use Rattle.yt_serial.specs.SerialHandling.{Serial, handle_message, handled_along, plan_of_log, start}
use Rattle.yt_serial.specs.Told.{AllHandled, BeginsInOrder}
use Rattle.yt_interleave.specs.Interleaved.{ActiveJob, RunState, first_state, with_begun, with_idle}
use Rattle.yt_serial.specs.Variables.{variables_at}
use Rattle.yt_interleave.specs.Moves.{MayBegin, after_tick, active_job, Interleaves, AllKnownHandled}

-- before the first tick nothing is handled
abbrev pub StartsSerial : Type 0
StartsSerial = (g : GraphTree) (trace : List Message) → CanRun g trace → Interleaves g trace (start g trace) (first_state g trace)

-- in a tick in which a job begins, serial handling goes on by the job's step
abbrev pub BeginsKeepSerial : Type 0
BeginsKeepSerial =
    (g : GraphTree) (trace : List Message) → CanRun g trace → (s : Serial) (r : RunState) → Interleaves g trace s r →
    (job : Job) (m : PortMessage) → MayBegin g s r job m →
    Interleaves g trace (handle_message g job m s) (after_tick g (active_job job m s) (with_begun job m s.vars r))

-- in a further tick of a job serial handling doesn't change
abbrev pub TicksKeepSerial : Type 0
TicksKeepSerial =
    (g : GraphTree) (trace : List Message) → CanRun g trace → (s : Serial) (r : RunState) → Interleaves g trace s r →
    (port : ℕ) (b : ActiveJob) → r.active port ≡ Some b → Interleaves g trace s (after_tick g b r)

-- nor in an idle tick
abbrev pub IdlingKeepsSerial : Type 0
IdlingKeepsSerial =
    (g : GraphTree) (trace : List Message) → CanRun g trace → (s : Serial) (r : RunState) → Interleaves g trace s r → Interleaves g trace s (with_idle r)

-- when all messages are handled: handling them one at a time in the order in which the log's jobs begin is defined, and handles all; the
-- log runs just these jobs, each to its end and each port's in order; and the variables are those of serial handling
pub record HasHandledAll (g : GraphTree) (trace : List Message) (s : Serial) (r : RunState) : Type 0 where
  pub along : handled_along g trace r.log ≡ Some s
  pub all : AllHandled g s
  pub lawful : IsLawful (plan_of_log g trace r.log) r.log
  pub finished : (item : PlanItem) → Has (plan_of_log g trace r.log) item → done r.log item.job (length r.log) ≡ item.cost
  pub in_order : BeginsInOrder (plan_of_log g trace r.log) r.log
  pub vars : r.vars ≡ s.vars

abbrev pub EndsAreSerial : Type 0
EndsAreSerial =
    (g : GraphTree) (trace : List Message) → CanRun g trace → (s : Serial) (r : RunState) → Interleaves g trace s r → AllKnownHandled g s r → HasHandledAll g trace s r

-- however the log goes on, and whatever serial handling along it comes to: the variables now are those at the start after all writes of the ticks so far
abbrev pub VariablesAreWritten : Type 0
VariablesAreWritten =
    (g : GraphTree) (trace : List Message) → CanRun g trace → (s : Serial) (r : RunState) → Interleaves g trace s r →
    (more : Ticks) (whole : Serial) → handled_along g trace (r.log ++ more) ≡ Some whole →
    variables_at (start g trace).vars whole.handled (r.log ++ more) (length r.log) ≡ r.vars
