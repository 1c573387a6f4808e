-- What an executive's entries and its body's ticks left say of an interleaved run.
use Rattle.std.specs.Prelude.{◌≡◌, ℕ, suc, ◌+◌, ◌-◌, ◌<◌, ◌≤◌, Bool, true, false, List, [], ◌∷◌, ◌++◌, length, Some}
use Rattle.std.specs.List.{Contains}
use Rattle.yt_graph.specs.Picture.{GraphTree}
use Rattle.yt_set.specs.Tasks.{within}
use Rattle.yt_log.specs.declared.job.Job.{Job}
use Rattle.yt_log.specs.declared.plan.PlanItem.{PlanItem}
use Rattle.yt_log.specs.Plan.{IsLegal}
use Rattle.yt_log.specs.Tasks.{Has}
use Rattle.yt_log.specs.Ticks.{done}
use Rattle.yt_ready.specs.declared.entry.Entry.{Entry}
use Rattle.yt_exec.specs.Bodies.{task_in}
use Rattle.yt_exec.specs.Moments.{Moment, job_in, IsNextJob}
use Rattle.yt_exec.specs.StandsFor.{StandsFor, GoesOnTo, GoesOnWith, IdlesTo, item_at, plan_after}
use Rattle.yt_exec.specs.declared.executive.Ticked.TheVariants.{Idle, Ran}
use Rattle.yt_rates.specs.Tables.{tasks_of}
use Rattle.yt_serial.specs.declared.shown.OutLine.{OutLine}
use Rattle.yt_trace.specs.declared.message.Message.{Message}
use Rattle.yt_serial.specs.PortMessages.{PortMessage}
use Rattle.yt_list.specs.Numbered.{numbered}
use Rattle.yt_serial.specs.SerialHandling.{Serial, handle_message}
use Rattle.yt_interleave.specs.Interleaved as own
use Rattle.yt_interleave.specs.Interleaved.{ActiveJob, known_at, whole_of, with_begun, with_idle, with_idles}
use Rattle.yt_interleave.specs.Moves.{MayBegin, after_tick, active_job, AllKnownHandled}
use Rattle.yt_serial.specs.Premises.{IsSchedulable}
use Rattle.yt_interleave.specs.Runs.{IsRunning}
use Rattle.yt_interleave.specs.Timing.{WaitsToBegin, IsRuleLog}
use Rattle.yt_interleave.specs.Waits.{NoneComesBefore}
use Rattle.yt_serial.specs.Beginnings.{nth_job}

-- so many ticks are left of each job: of an active one what its handling has left, of another none
pub record HasLeft (g : GraphTree) (r : own.RunState) (left : Job → ℕ) : Type 0 where
  pub active : (port : ℕ) (b : ActiveJob) → r.active port ≡ Some b → done r.log b.job (length r.log) + left b.job ≡ (whole_of g b).ticks
  pub only : (job : Job) → 0 < left job → (b : ActiveJob) × (r.active job.task ≡ Some b) × (b.job ≡ job)

-- all known messages of ports have come
abbrev pub AllReleased : own.RunState → ℕ → Type 0
AllReleased r due = (port n : ℕ) (m : PortMessage) → numbered (known_at r port) n ≡ Some m → m.time < due

-- an executive and a body that stand for the plan and the log of a run
pub record Executes (g : GraphTree) (r : own.RunState) (plan : List PlanItem) (moment : Moment) (left : Job → ℕ) : Type 0 where
  pub tasks : moment.tasks ≡ tasks_of g
  pub stands : StandsFor moment left plan r.log

-- each job that waits is due after the ticks so far, so none is late
abbrev pub AllDue : Moment → Type 0
AllDue moment = (entry : Entry) → Contains moment.entries entry → moment.clock < entry.arrival + within (task_in moment.tasks (job_in entry))

-- an executive that stands for the plan and the log of a run
pub record ExecutivesFollow : Type 0 where
  -- a waiting job that has not begun is one whose message has come
  pub pending :
      (g : GraphTree) (trace : List Message) → IsSchedulable g trace → (s : Serial) (r : own.RunState) (due : ℕ) (plan : List PlanItem) (lines : List OutLine) →
      IsRunning g trace s r due plan lines → (moment : Moment) (left : Job → ℕ) → StandsFor moment left plan r.log →
      (entry : Entry) → Contains moment.entries entry → entry.begun ≡ false → (m : PortMessage) × WaitsToBegin r (job_in entry) m
  -- one that has begun is active
  pub under_way :
      (g : GraphTree) (trace : List Message) → IsSchedulable g trace → (s : Serial) (r : own.RunState) (due : ℕ) (plan : List PlanItem) (lines : List OutLine) →
      IsRunning g trace s r due plan lines → (moment : Moment) (left : Job → ℕ) → StandsFor moment left plan r.log →
      (entry : Entry) → Contains moment.entries entry → entry.begun ≡ true → (b : ActiveJob) × (r.active entry.task ≡ Some b) × (b.job ≡ job_in entry)
  -- where no job waits and all known messages have come, all messages are handled
  pub over :
      (g : GraphTree) (trace : List Message) → IsSchedulable g trace → (s : Serial) (r : own.RunState) (due : ℕ) (plan : List PlanItem) (lines : List OutLine) →
      IsRunning g trace s r due plan lines → length r.log ≤ due → due ≤ suc (length r.log) → AllReleased r due →
      (moment : Moment) (left : Job → ℕ) → StandsFor moment left plan r.log → moment.entries ≡ [] → AllKnownHandled g s r
  -- and no job that waits is late
  pub in_time :
      (g : GraphTree) (trace : List Message) → IsSchedulable g trace → (s : Serial) (r : own.RunState) (due : ℕ) (plan : List PlanItem) (lines : List OutLine) →
      IsRunning g trace s r due plan lines → (moment : Moment) (left : Job → ℕ) → Executes g r plan moment left → AllDue moment
  -- a job that begins costs its first tick and what its body has left after it
  pub cost :
      (g : GraphTree) (trace : List Message) → IsSchedulable g trace → (s : Serial) (r : own.RunState) (job : Job) (m : PortMessage) → MayBegin g s r job m →
      done r.log job (length r.log) ≡ 0 → (left : Job → ℕ) → HasLeft g (after_tick g (active_job job m s) (with_begun job m s.vars r)) left →
      left job + 1 ≡ (whole_of g (active_job job m s)).ticks

-- a run after a tick, and an executive and a body that stand for it
pub record StillStandsFor (g : GraphTree) (trace : List Message) (s : Serial) (r : own.RunState) (due : ℕ) (plan : List PlanItem) (lines : List OutLine) (moment : Moment) (left : Job → ℕ) : Type 0 where
  pub running : IsRunning g trace s r due plan lines
  pub stands : StandsFor moment left plan r.log

-- the executive of a run gives a tick to a job of an entry that had not begun, whose message has come
pub record GivesFirstTick (g : GraphTree) (trace : List Message) (s : Serial) (r : own.RunState) (plan : List PlanItem) (lines : List OutLine) (old new : Moment) (left left' : Job → ℕ) (entry : Entry) (ended : Bool) (m : PortMessage) : Type 0 where
  pub running : IsRunning g trace s r (suc (length r.log)) plan lines
  pub executes : Executes g r plan old left
  pub kept : new.tasks ≡ old.tasks
  pub left_of : HasLeft g r left
  pub there : Contains old.entries entry
  pub fresh : entry.begun ≡ false
  pub goes : GoesOnTo old new left left' (Ran (job_in entry) ended)
  pub waits : WaitsToBegin r (job_in entry) m

-- a tick of an executive is one of the run that it stands for
pub record ExecutivesTick : Type 0 where
  -- a job of an entry that had not begun may begin
  pub may_begin :
      (g : GraphTree) (trace : List Message) → IsSchedulable g trace → (s : Serial) (r : own.RunState) (plan : List PlanItem) (lines : List OutLine) →
      (old new : Moment) (left left' : Job → ℕ) (entry : Entry) (ended : Bool) (m : PortMessage) → GivesFirstTick g trace s r plan lines old new left left' entry ended m →
      MayBegin g s r (job_in entry) m
  -- and it begins with its port's next message
  pub begins :
      (g : GraphTree) (trace : List Message) → IsSchedulable g trace → (s : Serial) (r : own.RunState) (plan : List PlanItem) (lines : List OutLine) →
      (old new : Moment) (left left' : Job → ℕ) (entry : Entry) (ended : Bool) (m : PortMessage) → GivesFirstTick g trace s r plan lines old new left left' entry ended m →
      HasLeft g (after_tick g (active_job (job_in entry) m s) (with_begun (job_in entry) m s.vars r)) left' →
      StillStandsFor g trace (handle_message g (job_in entry) m s) (after_tick g (active_job (job_in entry) m s) (with_begun (job_in entry) m s.vars r)) (suc (length r.log))
      (plan_after left left' (Ran (job_in entry) ended) plan) lines new left'
  -- the active job of an entry that had begun goes on
  pub goes_on :
      (g : GraphTree) (trace : List Message) → IsSchedulable g trace → (s : Serial) (r : own.RunState) (plan : List PlanItem) (lines : List OutLine) →
      IsRunning g trace s r (suc (length r.log)) plan lines → (old new : Moment) (left left' : Job → ℕ) → Executes g r plan old left → new.tasks ≡ old.tasks → HasLeft g r left →
      (entry : Entry) → Contains old.entries entry → entry.begun ≡ true → (ended : Bool) → GoesOnTo old new left left' (Ran (job_in entry) ended) →
      (b : ActiveJob) → r.active entry.task ≡ Some b → b.job ≡ job_in entry →
      StillStandsFor g trace s (after_tick g b r) (suc (length r.log)) plan lines new left'
  -- an idle tick
  pub idles :
      (g : GraphTree) (trace : List Message) → IsSchedulable g trace → (s : Serial) (r : own.RunState) (plan : List PlanItem) (lines : List OutLine) →
      IsRunning g trace s r (suc (length r.log)) plan lines → (old new : Moment) (left left' : Job → ℕ) → Executes g r plan old left → new.tasks ≡ old.tasks →
      GoesOnTo old new left left' Idle → StillStandsFor g trace s (with_idle r) (suc (length r.log)) plan lines new left'
  -- many idle ticks at once, up to a tick before which no known message comes
  pub idles_on :
      (g : GraphTree) (trace : List Message) → IsSchedulable g trace → (s : Serial) (r : own.RunState) (due : ℕ) (plan : List PlanItem) (lines : List OutLine) →
      IsRunning g trace s r due plan lines → (old new : Moment) (left : Job → ℕ) → Executes g r plan old left → new.tasks ≡ old.tasks →
      due ≤ new.clock → old.clock ≤ new.clock → NoneComesBefore r due new.clock → IdlesTo old new →
      StillStandsFor g trace s (with_idles (new.clock - old.clock) r) new.clock plan lines new left
  -- a job whose message comes now is released
  pub releases :
      (g : GraphTree) (r : own.RunState) (plan : List PlanItem) (old new : Moment) (left : Job → ℕ) → Executes g r plan old left → new.tasks ≡ old.tasks → IsRuleLog g plan r.log →
      (job : Job) → GoesOnWith old new job → 1 ≤ (task_in old.tasks job).cost →
      StandsFor new left (plan ++ item_at old.clock job 1 ∷ []) r.log × IsRuleLog g (plan ++ item_at old.clock job 1 ∷ []) r.log
  -- it may be released: its number comes after that of the port's last release, which was a period ago or more. The plan may have more
  -- items by now, of other ports
  pub next :
      (g : GraphTree) (trace : List Message) → IsSchedulable g trace → (s : Serial) (r : own.RunState) (plan : List PlanItem) (lines : List OutLine) →
      IsRunning g trace s r (length r.log) plan lines → (moment : Moment) (left : Job → ℕ) (wider : List PlanItem) → Executes g r wider moment left →
      IsLegal (tasks_of g) wider → (port n : ℕ) (m : PortMessage) → numbered (known_at r port) n ≡ Some m → m.time ≡ length r.log →
      ((z : PlanItem) → Has plan z → Has wider z) → ((z : PlanItem) → Has wider z → z.job.task ≡ port → Has plan z) → IsNextJob moment (nth_job port n)
