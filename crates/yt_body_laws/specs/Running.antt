-- A run of an accepted graph with all that carries it: an executive, and handlers as its body.
use Rattle.std.specs.Prelude.{◌≡◌, ◌⊎◌, ℕ, suc, ◌-◌, ◌<◌, ◌≤◌, ℤ, List, [], ◌∷◌, ◌++◌, length, slice_get, Some}
use Rattle.std.specs.List.{Contains}
use Rattle.yt_graph.specs.Picture.{graph_tree}
use Rattle.yt_list.specs.Numbered.{numbered}
use Rattle.yt_log.specs.declared.job.Job.{Job}
use Rattle.yt_log.specs.declared.plan.PlanItem.{PlanItem}
use Rattle.yt_log.specs.Limits.{most_arrival, most_deadline}
use Rattle.yt_log.specs.Ticks.{Ticks}
use Rattle.yt_ready.specs.declared.entry.Entry.{Entry}
use Rattle.yt_exec.specs.declared.executive.Ticked.{Ticked}
use Rattle.yt_exec.specs.Bodies.{IsKnown}
use Rattle.yt_exec.specs.Moments.{IsNextJob, Moment, at_tick}
use Rattle.yt_exec.specs.StandsFor.{GoesOnTo, GoesOnWith, IdlesTo, IsBodyOf, IsTick, StandsFor, item_at, job_run}
use Rattle.yt_chan.specs.declared.target.Arrived.{Arrived}
use Rattle.yt_chan.specs.declared.target.Arrived.TheVariants.{Port, Output}
use Rattle.yt_chan.specs.Pending.{Pending}
use Rattle.yt_chan.specs.State.{IsArriving, NoneIsLate, Waits, placed_at}
use Rattle.yt_rates.specs.Acceptance.{IsAccepted, Parts}
use Rattle.yt_rates.specs.Tables.{tasks_of}
use Rattle.yt_trace.specs.declared.message.Message.{Message}
use Rattle.yt_trace.specs.Traces.{KeepsPeriods}
use Rattle.yt_serial.specs.declared.shown.OutLine.{OutLine}
use Rattle.yt_serial.specs.Beginnings.{nth_job}
use Rattle.yt_serial.specs.PortMessages.{PortMessage}
use Rattle.yt_serial.specs.Premises.{IsSchedulable}
use Rattle.yt_serial.specs.SerialHandling.{Serial, start}
use Rattle.yt_serial.specs.Told.{IsPromisedRun}
use Rattle.yt_interleave.specs.Executives.{Executes}
use Rattle.yt_interleave.specs.Interleaved.{RunState, first_state, known_at, with_idles}
use Rattle.yt_interleave.specs.Lines.{messages_to}
use Rattle.yt_interleave.specs.Runs.{IsRunning}
use Rattle.yt_interleave.specs.Timing.{IsRuleLog}
use Rattle.yt_body.specs.Sound.{IsSound}
use Rattle.yt_body.specs.State.{HandlersState, IsStart, MayBegin, left_at, run_at, set_of}
use Rattle.yt_body.specs.Steps.{BeginsJob, Comes, StepsJob}
use Rattle.yt_body_laws.specs.Carrying.{Carries}
use Rattle.yt_body_laws.specs.Placing.{AllPut, FeedsSome, HasPlaced, HasTold, IsPlacing, with_tick_at}
use Rattle.yt_body_laws.specs.Reading.{IsReadTo, NextIsFrom}

-- between two ticks: the executive and the handlers stand for one run, of which what comes before `due` has come, is released and is told in these lines
pub record IsInStep (parts : Parts) (trace : List Message) (s : Serial) (r : RunState) (plan : List PlanItem) (lines : List OutLine) (due : ℕ) (b : HandlersState) (moment : Moment) : Type 0 where
  pub accepted : IsAccepted parts
  pub can : IsSchedulable (graph_tree parts.graph) trace
  pub running : IsRunning (graph_tree parts.graph) trace s r due plan lines
  pub executes : Executes (graph_tree parts.graph) r plan moment (left_at b)
  pub carries : Carries parts s r (λ target. due) b
  pub from : length r.log ≤ due
  pub to : due ≤ suc (length r.log)

-- in the middle of placing what comes now: besides what came before, the jobs of what has come to ports are released, and the lines of what has come to outputs are told
pub record IsTelling (parts : Parts) (trace : List Message) (s : Serial) (r : RunState) (plan : List PlanItem) (lines : List OutLine) (due : Arrived → ℕ) (b : HandlersState) (moment : Moment)
    (new : List PlanItem) (more : List OutLine) : Type 0 where
  pub placing : IsPlacing parts trace s r due b
  pub running : IsRunning (graph_tree parts.graph) trace s r (length r.log) plan lines
  pub told : HasTold r due b new more
  pub executes : Executes (graph_tree parts.graph) r (plan ++ new) moment (left_at b)
  pub by : IsRuleLog (graph_tree parts.graph) (plan ++ new) r.log

-- a job may be released now: its task is in the set, and it is its task's next
pub record MayRelease (moment : Moment) (job : Job) : Type 0 where
  pub known : IsKnown moment.tasks job
  pub next : IsNextJob moment job

-- the run after a tick: its log is that before with the tick, and nothing else has come
pub record HasTicked (parts : Parts) (trace : List Message) (before : Ticks) (lines : List OutLine) (ticked : Ticked) (b : HandlersState) (moment : Moment) : Type 0 where
  pub serial : Serial
  pub run : RunState
  pub plan : List PlanItem
  pub log : run.log ≡ before ++ job_run ticked ∷ []
  pub in_step : IsInStep parts trace serial run plan lines (length run.log) b moment

-- the run after idle ticks up to tick t, with the trace read as far as before
pub record HasIdled (parts : Parts) (trace : List Message) (s : Serial) (r : RunState) (plan : List PlanItem) (lines : List OutLine) (taken t : ℕ) (b : HandlersState) (moment : Moment) : Type 0 where
  pub in_step : IsInStep parts trace s (with_idles (t - length r.log) r) plan lines t b moment
  pub read : IsReadTo (graph_tree parts.graph) trace t taken
  pub long : length (with_idles (t - length r.log) r).log ≡ t

-- a known message comes at a tick, to a port or to an output
abbrev pub ComesAt : RunState → ℕ → Type 0
ComesAt r t =
    ((port n : ℕ) × (m : PortMessage) × (numbered (known_at r port) n ≡ Some m) × (m.time ≡ t))
    ⊎ ((n k : ℕ) × (m : PortMessage) × (slice_get (messages_to r.outputs n) k ≡ Some m) × (m.time ≡ t))

-- the log's last tick went to a job
abbrev pub EndsWithJob : Ticks → Type 0
EndsWithJob log = (before : Ticks) × (job : Job) × (log ≡ before ++ Some job ∷ [])

-- the run has come to its tick for a cause: it is the first tick, or the one before went to a job, or a message comes
abbrev pub HasCause : RunState → Type 0
HasCause r = (r.log ≡ []) ⊎ EndsWithJob r.log ⊎ ComesAt r (length r.log)

-- how a run goes on with its executive and its handlers
pub record BodiesRun : Type 0 where
  -- an accepted graph can be run on each trace that keeps its periods, with all deadlines kept
  pub schedulable : (parts : Parts) (trace : List Message) → IsAccepted parts → KeepsPeriods (graph_tree parts.graph) trace → IsSchedulable (graph_tree parts.graph) trace
  -- a new executive of the graph's tasks, and new handlers
  pub starts :
      (parts : Parts) (trace : List Message) → IsAccepted parts → IsSchedulable (graph_tree parts.graph) trace → (b : HandlersState) → IsStart parts b → IsSound b →
      (moment : Moment) → moment.tasks ≡ tasks_of (graph_tree parts.graph) → StandsFor moment (left_at b) [] [] →
      IsInStep parts trace (start (graph_tree parts.graph) trace) (first_state (graph_tree parts.graph) trace) [] [] 0 b moment
  -- what comes now is placed
  pub placing :
      (parts : Parts) (trace : List Message) (s : Serial) (r : RunState) (plan : List PlanItem) (lines : List OutLine) (b : HandlersState) (moment : Moment) →
      IsInStep parts trace s r plan lines (length r.log) b moment → IsTelling parts trace s r plan lines (λ target. length r.log) b moment [] []
  -- the job of a message that has come to a port may be released
  pub may_release :
      (parts : Parts) (trace : List Message) (s : Serial) (r : RunState) (plan : List PlanItem) (lines : List OutLine) (due : Arrived → ℕ) (b : HandlersState) (moment : Moment)
      (new : List PlanItem) (more : List OutLine) → IsTelling parts trace s r plan lines due b moment new more →
      (port : ℕ) (after : HandlersState) → HasPlaced parts trace s r due (Port port) after → MayRelease moment (nth_job port (run_at after port).number)
  -- and is released
  pub releases :
      (parts : Parts) (trace : List Message) (s : Serial) (r : RunState) (plan : List PlanItem) (lines : List OutLine) (due : Arrived → ℕ) (b : HandlersState) (moment : Moment)
      (new : List PlanItem) (more : List OutLine) → IsTelling parts trace s r plan lines due b moment new more →
      (port : ℕ) (after : HandlersState) → HasPlaced parts trace s r due (Port port) after →
      (next : Moment) → next.tasks ≡ moment.tasks → GoesOnWith moment next (nth_job port (run_at after port).number) →
      IsTelling parts trace s r plan lines (with_tick_at (Port port) (suc (length r.log)) due) after next
      (new ++ item_at (length r.log) (nth_job port (run_at after port).number) 1 ∷ []) more
  -- a message that has come to an output is told
  pub tells :
      (parts : Parts) (trace : List Message) (s : Serial) (r : RunState) (plan : List PlanItem) (lines : List OutLine) (due : Arrived → ℕ) (b : HandlersState) (moment : Moment)
      (new : List PlanItem) (more : List OutLine) → IsTelling parts trace s r plan lines due b moment new more →
      (output : ℕ) (after : HandlersState) → Comes b (length r.log) (Output output) after → HasPlaced parts trace s r due (Output output) after →
      (values : List ℤ) → placed_at after.channels (Output output) ≡ Some values →
      IsTelling parts trace s r plan lines (with_tick_at (Output output) (suc (length r.log)) due) after moment
      new (more ++ (record { time = length r.log; output = output; values = values }) ∷ [])
  -- where nothing is left, all that comes now has come
  pub places :
      (parts : Parts) (trace : List Message) (s : Serial) (r : RunState) (plan : List PlanItem) (lines : List OutLine) (due : Arrived → ℕ) (b : HandlersState) (moment : Moment)
      (new : List PlanItem) (more : List OutLine) → IsTelling parts trace s r plan lines due b moment new more →
      AllPut parts r due → ((target : Arrived) → IsArriving b.channels (length r.log) target → ⊥) →
      IsInStep parts trace s r (plan ++ new) (lines ++ more) (suc (length r.log)) b moment
  -- then the handlers are a body of the executive
  pub body :
      (parts : Parts) (trace : List Message) (s : Serial) (r : RunState) (plan : List PlanItem) (lines : List OutLine) (b : HandlersState) (moment : Moment) →
      IsInStep parts trace s r plan lines (suc (length r.log)) b moment → IsBodyOf moment (set_of b) (left_at b) (MayBegin b)
  -- and its tick is one of the run
  pub ticks :
      (parts : Parts) (trace : List Message) (s : Serial) (r : RunState) (plan : List PlanItem) (lines : List OutLine) (b : HandlersState) (moment : Moment) →
      IsInStep parts trace s r plan lines (suc (length r.log)) b moment →
      (after : HandlersState) → IsSound after → (next : Moment) → next.tasks ≡ moment.tasks → (ticked : Ticked) → IsTick BeginsJob StepsJob (left_at after) moment next b after ticked →
      GoesOnTo moment next (left_at b) (left_at after) ticked → HasTicked parts trace r.log lines ticked after next
  -- with no job waiting it idles up to a tick before which nothing comes
  pub idles_on :
      (parts : Parts) (trace : List Message) (s : Serial) (r : RunState) (plan : List PlanItem) (lines : List OutLine) (due : ℕ) (b : HandlersState) (moment : Moment) →
      IsInStep parts trace s r plan lines due b moment → (taken : ℕ) → IsReadTo (graph_tree parts.graph) trace due taken →
      (t : ℕ) → due ≤ t → NoneIsLate b.channels t → NextIsFrom trace taken t → (next : Moment) → next ≡ at_tick t moment → IdlesTo moment next →
      HasIdled parts trace s r plan lines taken t b next
  -- what waits comes in the run, and each message of the trace that feeds a port
  pub waiting_comes :
      (parts : Parts) (trace : List Message) (s : Serial) (r : RunState) (plan : List PlanItem) (lines : List OutLine) (due : ℕ) (b : HandlersState) (moment : Moment) →
      IsInStep parts trace s r plan lines due b moment → (m : Pending) → Waits b.channels m → ComesAt r m.time
  pub read_comes :
      (parts : Parts) (trace : List Message) (s : Serial) (r : RunState) (plan : List PlanItem) (lines : List OutLine) (due : ℕ) (b : HandlersState) (moment : Moment) →
      IsInStep parts trace s r plan lines due b moment → (k : ℕ) (x : Message) → slice_get trace k ≡ Some x → FeedsSome (graph_tree parts.graph) x.input → ComesAt r x.time
  -- no tick of it is far off: neither that of a message that waits, nor the next one where a job waits
  pub comes_early :
      (parts : Parts) (trace : List Message) (s : Serial) (r : RunState) (plan : List PlanItem) (lines : List OutLine) (due : ℕ) (b : HandlersState) (moment : Moment) →
      IsInStep parts trace s r plan lines due b moment → (m : Pending) → Waits b.channels m → m.time ≤ most_arrival
  pub runs_early :
      (parts : Parts) (trace : List Message) (s : Serial) (r : RunState) (plan : List PlanItem) (lines : List OutLine) (due : ℕ) (b : HandlersState) (moment : Moment) →
      IsInStep parts trace s r plan lines due b moment → (entry : Entry) → Contains moment.entries entry → moment.clock < most_deadline
  -- where no job and no message waits, and all of the trace is read, the run is over, and is the one that is promised
  pub ends :
      (parts : Parts) (trace : List Message) (s : Serial) (r : RunState) (plan : List PlanItem) (lines : List OutLine) (due : ℕ) (b : HandlersState) (moment : Moment) →
      IsInStep parts trace s r plan lines due b moment → moment.entries ≡ [] → ((m : Pending) → Waits b.channels m → ⊥) →
      (taken : ℕ) → IsReadTo (graph_tree parts.graph) trace due taken → length trace ≤ taken → HasCause r → IsPromisedRun (graph_tree parts.graph) trace r.log lines
