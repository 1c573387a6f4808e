-- What laws of runs ask of a graph and a trace.
use Rattle.std.specs.Prelude.{◌≡◌, List, All, Some}
use Rattle.yt_graph.specs.Picture.{GraphTree}
use Rattle.yt_graph.specs.WellFormed.{IsWellFormed}
use Rattle.yt_log.specs.declared.job.Job.{Job}
use Rattle.yt_log.specs.Laws.{RuleKeeps}
use Rattle.yt_rates.specs.Faults.{IsWithinRates}
use Rattle.yt_rates.specs.Tables.{tasks_of}
use Rattle.yt_trace.specs.declared.message.Message.{Message}
use Rattle.yt_serial.specs.SerialHandling.{Serial, serial_run, start}
use Rattle.yt_trace.specs.Traces.{KeepsPeriods}

-- a graph and a trace that can be run: the graph is well formed, its rates are within their limits, and the trace keeps its periods
pub record CanRun (g : GraphTree) (trace : List Message) : Type 0 where
  pub well_formed : IsWellFormed g
  pub rates : All (IsWithinRates g) g.ports
  pub keeps : KeepsPeriods g trace

-- serial handling comes this far on a trace
pub record IsHandling (g : GraphTree) (trace : List Message) (order : List Job) (s : Serial) : Type 0 where
  pub can : CanRun g trace
  pub along : serial_run g order (start g trace) ≡ Some s

-- besides, the rule's logs keep the deadlines of the graph's tasks, as they do where these fit
pub record IsSchedulable (g : GraphTree) (trace : List Message) : Type 0 where
  pub can : CanRun g trace
  pub keeps : RuleKeeps (tasks_of g)
