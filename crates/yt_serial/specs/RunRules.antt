-- What a log and output lines have to satisfy to be the run of a graph on a trace, as it can be judged without an executive: by handling
-- the messages one at a time.
use Rattle.std.specs.Prelude.{◌≡◌, ◌↔◌, max, List, Some, length}
use Rattle.yt_graph.specs.Picture.{GraphTree}
use Rattle.yt_log.specs.declared.plan.PlanItem.{PlanItem}
use Rattle.yt_log.specs.EdfDdm.{IsEdfDdm}
use Rattle.yt_order.specs.Sorting.{sort_by}
use Rattle.yt_log.specs.Tasks.{Has}
use Rattle.yt_log.specs.Ticks.{Ticks, done}
use Rattle.yt_rates.specs.Tables.{tasks_of}
use Rattle.yt_serial.specs.declared.shown.OutLine.{OutLine}
use Rattle.yt_trace.specs.declared.message.Message.{Message}
use Rattle.yt_serial.specs.Beginnings.{busy_until}
use Rattle.yt_serial.specs.Premises.{CanRun, IsSchedulable}
use Rattle.yt_serial.specs.SerialHandling.{Serial, handled_along, plan_of_log}
use Rattle.yt_serial.specs.Told.{line_before, latest, AllHandled, IsPromisedRun}

-- handling the messages one at a time in the order in which the log's jobs begin is defined, and handles all; of the plan that it makes,
-- each tick went where the rule gives it, and each job is done; the lines are those of serial handling, in order of time and then of
-- output; and the log ends with the last job and the last line
pub record MeetsRunRules (graph : GraphTree) (trace : List Message) (log : Ticks) (lines : List OutLine) : Type 0 where
  pub serial : Serial
  pub along : handled_along graph trace log ≡ Some serial
  pub all : AllHandled graph serial
  pub rule : IsEdfDdm (tasks_of graph) (plan_of_log graph trace log) log
  pub finished : (item : PlanItem) → Has (plan_of_log graph trace log) item → done log item.job (length log) ≡ item.cost
  pub shown : lines ≡ sort_by line_before serial.lines
  pub ends : length log ≡ max (busy_until log (length log)) (latest lines)

-- where the rule's logs keep the deadlines of the graph's tasks this is all that is promised of a run; and at most one log, with its
-- lines, keeps every promise
pub record RunRulesAreExact : Type 0 where
  pub exact :
      (g : GraphTree) (trace : List Message) → IsSchedulable g trace → (log : Ticks) (lines : List OutLine) →
      MeetsRunRules g trace log lines ↔ IsPromisedRun g trace log lines
  pub one :
      (g : GraphTree) (trace : List Message) → CanRun g trace → (a b : Ticks) (lines more : List OutLine) →
      IsPromisedRun g trace a lines → IsPromisedRun g trace b more → (a ≡ b) × (lines ≡ more)
