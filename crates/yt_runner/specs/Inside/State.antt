-- What a contract sees of a run as far as it has come.
use Rattle.std.specs.Prelude.{◌≡◌, ℕ, List}
use Rattle.yt_graph.specs.Picture.{GraphTree, graph_tree}
use Rattle.yt_log.specs.Ticks.{Ticks}
use Rattle.yt_exec.specs.Moments.{Moment}
use Rattle.yt_body.specs.State.{HandlersState}
use Rattle.yt_rates.specs.Acceptance.{Parts}
use Rattle.yt_trace.specs.declared.message.Message.{Message}
use Rattle.yt_serial.specs.declared.shown.OutLine.{OutLine}

-- the accepted graph and the trace; the executive and the handlers; the log and the lines that are told; and how many messages of the trace are taken
pub record RunnerState : Type 0 where
  pub parts : Parts
  pub trace : List Message
  pub moment : Moment
  pub body : HandlersState
  pub log : Ticks
  pub lines : List OutLine
  pub taken : ℕ

-- the graph of a run
abbrev pub graph_of : RunnerState → GraphTree
graph_of state = graph_tree state.parts.graph

-- a run of the same graph on the same trace
pub record IsSameRun (old new : RunnerState) : Type 0 where
  pub parts : new.parts ≡ old.parts
  pub trace : new.trace ≡ old.trace
