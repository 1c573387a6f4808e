-- What kept deadlines give an interleaved run, and the plan of its executive.
use Rattle.std.specs.Prelude.{◌≡◌, ℕ, ◌+◌, ◌<◌, ◌≤◌, List, length, Some}
use Rattle.yt_graph.specs.Picture.{GraphTree, PortTree}
use Rattle.yt_log.specs.declared.job.Job.{Job}
use Rattle.yt_log.specs.declared.plan.PlanItem.{PlanItem}
use Rattle.yt_log.specs.EdfDdm.{IsEdfDdm}
use Rattle.yt_log.specs.Plan.{IsLegal}
use Rattle.yt_log.specs.Tasks.{Has}
use Rattle.yt_log.specs.Ticks.{Ticks, done}
use Rattle.yt_rates.specs.Rates.{within_of}
use Rattle.yt_rates.specs.Tables.{tasks_of}
use Rattle.yt_serial.specs.Beginnings.{nth_job}
use Rattle.yt_serial.specs.PortMessages.{PortMessage}
use Rattle.yt_list.specs.Numbered.{numbered}
use Rattle.yt_serial.specs.SerialHandling.{Serial, items_of, handled_of}
use Rattle.yt_interleave.specs.Interleaved.{ActiveJob, RunState, known_at}

-- the handling of a port's message of a number has ended
pub record HasEnded (s : Serial) (r : RunState) (port n : ℕ) : Type 0 where
  pub handled : n ≤ handled_of s port
  pub not_active : (b : ActiveJob) → r.active port ≡ Some b → b.job.number ≡ n → ⊥

-- each known message whose deadline has come has been handled to its end
abbrev pub IsOnTime : GraphTree → Serial → RunState → Type 0
IsOnTime g s r =
    (port n : ℕ) (p : PortTree) (m : PortMessage) → numbered g.ports port ≡ Some p → numbered (known_at r port) n ≡ Some m →
    m.time + within_of g p ≤ length r.log → HasEnded s r port n

-- a message of a port has come, and its handling has not begun
pub record WaitsToBegin (r : RunState) (job : Job) (m : PortMessage) : Type 0 where
  pub there : numbered (known_at r job.task) job.number ≡ Some m
  pub arrived : m.time ≤ length r.log
  pub fresh : done r.log job (length r.log) ≡ 0

-- a plan goes with a run: it has the items of all jobs that have begun; each of its items is of a known message, which came before `due`; and each known message that came before `due` has an item
pub record IsPlanOfRun (s : Serial) (r : RunState) (due : ℕ) (plan : List PlanItem) : Type 0 where
  pub begun : (z : PlanItem) → Has (items_of s) z → Has plan z
  pub known : (z : PlanItem) → Has plan z → (m : PortMessage) × (numbered (known_at r z.job.task) z.job.number ≡ Some m) × (m.time ≡ z.arrival)
  pub early : (z : PlanItem) → Has plan z → z.arrival < due
  pub all : (port n : ℕ) (m : PortMessage) → numbered (known_at r port) n ≡ Some m → m.time < due → (z : PlanItem) × (Has plan z) × (z.job ≡ nth_job port n)

-- a plan is legal for the graph's tasks, and each tick of the log went where the rule gives it
pub record IsRuleLog (g : GraphTree) (plan : List PlanItem) (log : Ticks) : Type 0 where
  pub legal : IsLegal (tasks_of g) plan
  pub rule : IsEdfDdm (tasks_of g) plan log
