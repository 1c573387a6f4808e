-- When a log and output lines tell the run of a graph on a trace, and what is promised of it.
use Rattle.std.specs.Prelude.{◌≡◌, ℕ, ◌+◌, ◌<◌, ◌≤◌, max, Bool, List, [], ◌∷◌, Some, length}
use Rattle.yt_graph.specs.Picture.{GraphTree}
use Rattle.yt_log.specs.declared.plan.PlanItem.{PlanItem}
use Rattle.yt_log.specs.EdfDdm.{IsEdfDdm}
use Rattle.yt_order.specs.Sorting.{before_by, sort_by}
use Rattle.yt_log.specs.Plan.{IsLegal}
use Rattle.yt_log.specs.Tasks.{Has}
use Rattle.yt_log.specs.Ticks.{Ticks, done, first_tick, IsLawful, IsWorkConserving, IsExclusive, KeepsDeadlines}
use Rattle.yt_rates.specs.Tables.{tasks_of}
use Rattle.yt_serial.specs.declared.shown.OutLine.{OutLine}
use Rattle.yt_trace.specs.declared.message.Message.{Message}
use Rattle.yt_serial.specs.Beginnings.{busy_until}
use Rattle.yt_serial.specs.SerialHandling.{Serial, messages_at, handled_of, handled_along, plan_of_log}

-- a line comes before another by time, and then by output
abbrev pub line_before : OutLine → OutLine → Bool
line_before = before_by (λ (line : OutLine). line.time) (λ (line : OutLine). line.output)

-- the latest time of the lines, 0 where there is none
abbrev pub latest : List OutLine → ℕ
latest [] = 0
latest (line ∷ lines) = max line.time (latest lines)

-- each port has handled all its messages
abbrev pub AllHandled : GraphTree → Serial → Type 0
AllHandled graph s = (port : ℕ) → 1 ≤ port → port ≤ length graph.ports → handled_of s port ≡ length (messages_at s port)

-- each task's jobs arrive and begin in the order of their numbers
abbrev pub BeginsInOrder : List PlanItem → Ticks → Type 0
BeginsInOrder plan log =
    (a b : PlanItem) → Has plan a → Has plan b → a.job.task ≡ b.job.task → a.job.number < b.job.number →
    (a.arrival ≤ b.arrival) × (first_tick log a.job (length log) < first_tick log b.job (length log))

-- a log and output lines tell the run of a graph on a trace
pub record TellsRun (graph : GraphTree) (trace : List Message) (log : Ticks) (lines : List OutLine) : Type 0 where
  -- handling the messages one at a time in the order in which the log's jobs begin is defined, and handles all
  pub serial : Serial
  pub along : handled_along graph trace log ≡ Some serial
  pub all : AllHandled graph serial
  -- the log runs just these jobs, each to its end
  pub lawful : IsLawful (plan_of_log graph trace log) log
  pub finished : (item : PlanItem) → Has (plan_of_log graph trace log) item → done log item.job (length log) ≡ item.cost
  pub in_order : BeginsInOrder (plan_of_log graph trace log) log
  -- the lines are those of serial handling, and the log ends with the last job and the last line
  pub shown : lines ≡ sort_by line_before serial.lines
  pub ends : length log ≡ max (busy_until log (length log)) (latest lines)

-- no message is replaced before its handling ends: the job before is done when the next one of its task arrives
abbrev pub NoneReplaced : List PlanItem → Ticks → Type 0
NoneReplaced plan log =
    (a b : PlanItem) → Has plan a → Has plan b → a.job.task ≡ b.job.task → b.job.number ≡ a.job.number + 1 → done log a.job b.arrival ≡ a.cost

-- what is promised of a run
pub record IsPromisedRun (graph : GraphTree) (trace : List Message) (log : Ticks) (lines : List OutLine) : Type 0 where
  -- the outputs are those of serial handling
  pub tells : TellsRun graph trace log lines
  -- the schedule is that of the rule, for a legal plan
  pub legal : IsLegal (tasks_of graph) (plan_of_log graph trace log)
  pub edf_ddm : IsEdfDdm (tasks_of graph) (plan_of_log graph trace log) log
  pub work_conserving : IsWorkConserving (plan_of_log graph trace log) log
  -- no two active jobs share a resource, every job ends by its deadline, and no message is replaced before its handling ends
  pub exclusive : IsExclusive (tasks_of graph) (plan_of_log graph trace log) log
  pub deadlines : (h : ℕ) → KeepsDeadlines (tasks_of graph) (plan_of_log graph trace log) log h
  pub none_replaced : NoneReplaced (plan_of_log graph trace log) log
