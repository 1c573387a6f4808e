-- Handlers make values of values, and so does serial handling.
use Rattle.std.specs.Prelude.{ℤ, List}
use Rattle.std.specs.List.{All}
use Rattle.yt_graph.specs.Meaning.{Handling, handling}
use Rattle.yt_graph.specs.Picture.{GraphTree, PortTree}
use Rattle.yt_log.specs.declared.job.Job.{Job}
use Rattle.yt_run_laws.specs.Values.{AreValues, BlockWritesValues, CanRunOnValues}
use Rattle.yt_trace.specs.declared.message.Message.{Message}
use Rattle.yt_serial.specs.Premises.{IsHandling}
use Rattle.yt_serial.specs.SerialHandling.{Serial}

-- the variables that a handling leaves are values, and so are the numbers that it sends
pub record LeavesValues (h : Handling) : Type 0 where
  pub vars : AreValues h.vars
  pub sends : All (λ sent. AreValues sent.values) h.sends

-- where a port's text has values alone, handling a message of values leaves values
abbrev pub HandlersKeepValues : Type 0
HandlersKeepValues =
    (g : GraphTree) (port : PortTree) → BlockWritesValues port.body → (message vars : List ℤ) → AreValues message → AreValues vars → LeavesValues (handling g port message vars)

-- along each order on which serial handling is defined the variables are values, and so are the numbers that outputs show
pub record SerialHandlingKeepsValues : Type 0 where
  pub vars : (g : GraphTree) (trace : List Message) → CanRunOnValues g trace → (order : List Job) (s : Serial) → IsHandling g trace order s → AreValues s.vars
  pub lines :
      (g : GraphTree) (trace : List Message) → CanRunOnValues g trace → (order : List Job) (s : Serial) → IsHandling g trace order s →
      All (λ line. AreValues line.values) s.lines
