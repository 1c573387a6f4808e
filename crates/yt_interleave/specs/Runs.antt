-- A run as far as it has come, with the plan of its executive and the lines that it has shown; and how it goes on.
use Rattle.std.specs.Prelude.{◌≡◌, ℕ, suc, ◌+◌, ◌-◌, ◌<◌, ◌≤◌, max, replicate, List, [], ◌∷◌, ◌++◌, length, slice_get, Some, None}
use Rattle.yt_graph.specs.Picture.{GraphTree, PortTree}
use Rattle.yt_log.specs.declared.job.Job.{Job}
use Rattle.yt_log.specs.declared.plan.PlanItem.{PlanItem}
use Rattle.yt_log.specs.Tasks.{Has}
use Rattle.yt_log.specs.Ticks.{Ticks}
use Rattle.yt_exec.specs.StandsFor.{with_cost}
use Rattle.yt_rates.specs.Rates.{within_of}
use Rattle.yt_serial.specs.declared.shown.OutLine.{OutLine}
use Rattle.yt_trace.specs.declared.message.Message.{Message}
use Rattle.yt_serial.specs.Beginnings.{busy_until, nth_job}
use Rattle.yt_serial.specs.PortMessages.{PortMessage}
use Rattle.yt_list.specs.Numbered.{numbered}
use Rattle.yt_serial.specs.SerialHandling.{Serial, messages_at, handled_of, shown, start, handle_message, handled_along}
use Rattle.yt_serial.specs.Told.{latest, IsPromisedRun}
use Rattle.yt_interleave.specs.Interleaved.{ActiveJob, RunState, known_at, whole_of, first_state, with_begun, with_idle, with_idles}
use Rattle.yt_serial.specs.Variables.{variables_at}
use Rattle.yt_serial.specs.Lines.{lines_of, AreInLineOrder}
use Rattle.yt_interleave.specs.Lines.{messages_to, come_at, HasShown}
use Rattle.yt_interleave.specs.Moves.{MayBegin, after_tick, active_job, Interleaves, AllKnownHandled, IsResourceFree}
use Rattle.yt_interleave.specs.Timing.{HasEnded, IsOnTime, WaitsToBegin, IsPlanOfRun, IsRuleLog}
use Rattle.yt_interleave.specs.Waits.{NoneComesBefore}
use Rattle.yt_serial.specs.Premises.{IsSchedulable}

-- a run between two ticks: what came before `due` is placed, released and shown
pub record IsRunning (g : GraphTree) (trace : List Message) (s : Serial) (r : RunState) (due : ℕ) (plan : List PlanItem) (lines : List OutLine) : Type 0 where
  pub interleaves : Interleaves g trace s r
  pub goes : IsPlanOfRun s r due plan
  pub by : IsRuleLog g plan r.log
  pub shown : HasShown r due lines

-- items of all the known messages that come now, and of no others
pub record AreReleased (r : RunState) (new : List PlanItem) : Type 0 where
  pub known : (z : PlanItem) → Has new z → (m : PortMessage) × (numbered (known_at r z.job.task) z.job.number ≡ Some m) × (m.time ≡ z.arrival)
  pub now : (z : PlanItem) → Has new z → z.arrival ≡ length r.log
  pub all : (port n : ℕ) (m : PortMessage) → numbered (known_at r port) n ≡ Some m → m.time ≡ length r.log → (z : PlanItem) × (Has new z) × (z.job ≡ nth_job port n)

-- lines of the known messages that come now, in order
pub record AreShownNow (r : RunState) (more : List OutLine) : Type 0 where
  pub order : AreInLineOrder more
  pub times : (l : OutLine) → Has more l → l.time ≡ length r.log
  pub each : (n : ℕ) → lines_of n more ≡ shown n (come_at (length r.log) (messages_to r.outputs n))

-- all known messages of outputs have come
abbrev pub AllShown : RunState → ℕ → Type 0
AllShown r due = (n k : ℕ) (x : PortMessage) → slice_get (messages_to r.outputs n) k ≡ Some x → x.time < due

-- how a run goes on, and what is promised of it where it has come to its end
pub record RunsGoOn : Type 0 where
  pub starts : (g : GraphTree) (trace : List Message) → IsSchedulable g trace → IsRunning g trace (start g trace) (first_state g trace) 0 [] []
  -- what comes at a tick is placed, released and shown
  pub places :
      (g : GraphTree) (trace : List Message) → IsSchedulable g trace → (s : Serial) (r : RunState) (plan : List PlanItem) (lines : List OutLine) →
      IsRunning g trace s r (length r.log) plan lines → (new : List PlanItem) (more : List OutLine) → AreReleased r new → AreShownNow r more →
      IsRuleLog g (plan ++ new) r.log → IsRunning g trace s r (suc (length r.log)) (plan ++ new) (lines ++ more)
  -- a job begins and has its first tick
  pub begins :
      (g : GraphTree) (trace : List Message) → IsSchedulable g trace → (s : Serial) (r : RunState) (plan : List PlanItem) (lines : List OutLine) →
      IsRunning g trace s r (suc (length r.log)) plan lines → (job : Job) (m : PortMessage) → WaitsToBegin r job m →
      IsRuleLog g (with_cost job (whole_of g (active_job job m s)).ticks plan) (r.log ++ Some job ∷ []) →
      IsRunning g trace (handle_message g job m s) (after_tick g (active_job job m s) (with_begun job m s.vars r)) (suc (length r.log))
      (with_cost job (whole_of g (active_job job m s)).ticks plan) lines
  -- an active job has a tick
  pub ticks :
      (g : GraphTree) (trace : List Message) → IsSchedulable g trace → (s : Serial) (r : RunState) (plan : List PlanItem) (lines : List OutLine) →
      IsRunning g trace s r (suc (length r.log)) plan lines → (port : ℕ) (b : ActiveJob) → r.active port ≡ Some b →
      IsRuleLog g plan (r.log ++ Some b.job ∷ []) → IsRunning g trace s (after_tick g b r) (suc (length r.log)) plan lines
  pub idles :
      (g : GraphTree) (trace : List Message) → IsSchedulable g trace → (s : Serial) (r : RunState) (plan : List PlanItem) (lines : List OutLine) →
      IsRunning g trace s r (suc (length r.log)) plan lines →
      IsRuleLog g plan (r.log ++ None ∷ []) → IsRunning g trace s (with_idle r) (suc (length r.log)) plan lines
  -- where no known message comes before a later tick, the run idles up to it
  pub idles_on :
      (g : GraphTree) (trace : List Message) → IsSchedulable g trace → (s : Serial) (r : RunState) (due : ℕ) (plan : List PlanItem) (lines : List OutLine) →
      IsRunning g trace s r due plan lines → (count : ℕ) → due ≤ length r.log + count → NoneComesBefore r due (length r.log + count) →
      IsRuleLog g plan (r.log ++ replicate count None) → IsRunning g trace s (with_idles count r) (length r.log + count) plan lines
  pub grows : (g : GraphTree) (b : ActiveJob) (r : RunState) → (after_tick g b r).log ≡ r.log ++ Some b.job ∷ []
  pub ends :
      (g : GraphTree) (trace : List Message) → IsSchedulable g trace → (s : Serial) (r : RunState) (due : ℕ) (plan : List PlanItem) (lines : List OutLine) →
      IsRunning g trace s r due plan lines → AllKnownHandled g s r → AllShown r due → length r.log ≡ max (busy_until r.log (length r.log)) (latest lines) → IsPromisedRun g trace r.log lines

-- when the log ends with the last job and the last line: where its last tick went to a job, where a line is shown at its end, and where
-- it is empty
pub record RunsEnd : Type 0 where
  pub busy :
      (g : GraphTree) (trace : List Message) (s : Serial) (r : RunState) (due : ℕ) (plan : List PlanItem) (lines : List OutLine) →
      IsRunning g trace s r due plan lines → due ≤ suc (length r.log) → (log : Ticks) (job : Job) → r.log ≡ log ++ Some job ∷ [] →
      length r.log ≡ max (busy_until r.log (length r.log)) (latest lines)
  pub shown :
      (g : GraphTree) (trace : List Message) (s : Serial) (r : RunState) (due : ℕ) (plan : List PlanItem) (lines : List OutLine) →
      IsRunning g trace s r due plan lines → due ≤ suc (length r.log) → (l : OutLine) → Has lines l → l.time ≡ length r.log →
      length r.log ≡ max (busy_until r.log (length r.log)) (latest lines)
  pub none :
      (g : GraphTree) (trace : List Message) (s : Serial) (r : RunState) (due : ℕ) (plan : List PlanItem) (lines : List OutLine) →
      IsRunning g trace s r due plan lines → due ≤ suc (length r.log) → r.log ≡ [] → length r.log ≡ max (busy_until r.log (length r.log)) (latest lines)

-- what kept deadlines give at each moment
pub record RunsAreOnTime : Type 0 where
  pub on_time :
      (g : GraphTree) (trace : List Message) → IsSchedulable g trace → (s : Serial) (r : RunState) (due : ℕ) (plan : List PlanItem) (lines : List OutLine) →
      IsRunning g trace s r due plan lines → length r.log ≤ due → IsOnTime g s r
  -- a job whose message has come and that had no tick may begin where its resource is free
  pub may_begin :
      (g : GraphTree) (trace : List Message) → IsSchedulable g trace → (s : Serial) (r : RunState) → Interleaves g trace s r → IsOnTime g s r →
      (job : Job) (m : PortMessage) → WaitsToBegin r job m → IsResourceFree g r job.task → MayBegin g s r job m
  -- a job's resource is free where the rule gives it the next tick
  pub free :
      (g : GraphTree) (trace : List Message) → IsSchedulable g trace → (s : Serial) (r : RunState) (due : ℕ) (plan : List PlanItem) (lines : List OutLine) →
      IsRunning g trace s r due plan lines → (job : Job) (m : PortMessage) → WaitsToBegin r job m →
      (cost : ℕ) → IsRuleLog g (with_cost job cost plan) (r.log ++ Some job ∷ []) → IsResourceFree g r job.task
  -- a message that comes now is its port's next, and no job of the port is active
  pub port_free :
      (g : GraphTree) (trace : List Message) → IsSchedulable g trace → (s : Serial) (r : RunState) → Interleaves g trace s r → IsOnTime g s r →
      (port n : ℕ) (m : PortMessage) → numbered (known_at r port) n ≡ Some m → m.time ≡ length r.log → (n ≡ suc (handled_of s port)) × (r.active port ≡ None)
  -- the message of a job that has not ended is the last that came to its port
  pub held :
      (g : GraphTree) (trace : List Message) → IsSchedulable g trace → (s : Serial) (r : RunState) → Interleaves g trace s r → IsOnTime g s r →
      (port n k : ℕ) (m x : PortMessage) → numbered (known_at r port) n ≡ Some m → (HasEnded s r port n → ⊥) →
      numbered (messages_at s port) k ≡ Some x → x.time ≤ length r.log → k ≤ n
  -- a job's last tick is before its deadline, so what it passes on is not due before
  pub before_deadline :
      (g : GraphTree) (trace : List Message) → IsSchedulable g trace → (s : Serial) (r : RunState) → Interleaves g trace s r → IsOnTime g s r →
      (port n : ℕ) (p : PortTree) (m : PortMessage) → numbered g.ports port ≡ Some p → numbered (known_at r port) n ≡ Some m → (HasEnded s r port n → ⊥) →
      length r.log < m.time + within_of g p

-- a run as far as it has come agrees with a whole run: where the whole run is no shorter it goes on from the run's log, and where it is
-- shorter the run's log goes on from it with idle ticks; and the variables now are those of the whole run at this tick
pub record AgreesWith (g : GraphTree) (trace : List Message) (r : RunState) (whole : Ticks) : Type 0 where
  pub goes_on : length r.log ≤ length whole → (rest : Ticks) × (whole ≡ r.log ++ rest)
  pub idles_on : length whole ≤ length r.log → r.log ≡ whole ++ replicate (length r.log - length whole) None
  pub variables : (s : Serial) → handled_along g trace whole ≡ Some s → variables_at (start g trace).vars s.handled whole (length r.log) ≡ r.vars

-- a run as far as it has come agrees with each promised run
abbrev pub RunsAgree : Type 0
RunsAgree =
    (g : GraphTree) (trace : List Message) → IsSchedulable g trace → (s : Serial) (r : RunState) (due : ℕ) (plan : List PlanItem) (lines : List OutLine) →
    IsRunning g trace s r due plan lines → length r.log ≤ due → (whole : Ticks) (all : List OutLine) → IsPromisedRun g trace whole all → AgreesWith g trace r whole
