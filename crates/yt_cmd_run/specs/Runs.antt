-- What the text of a run tells, and that of one that is stopped at a tick.
use Rattle.std.specs.Prelude.{◌≡◌, ℕ, ℤ, List, [], ◌∷◌, ◌++◌, codes}
use Rattle.std.specs.Fmt.{decimal, signed_decimal}
use Rattle.yt_graph.specs.declared.graph.Var.{Var}
use Rattle.yt_graph.specs.Picture.{GraphTree}
use Rattle.yt_trace.specs.declared.message.Message.{Message}
use Rattle.yt_serial.specs.declared.shown.OutLine.{OutLine}
use Rattle.yt_log.specs.Ticks.{Ticks}
use Rattle.yt_serial.specs.Told.{IsPromisedRun}
use Rattle.yt_run.specs.RunText.{run_text, read_back}
use Rattle.yt_runner.specs.Variables.{AreVariablesAt}

-- the text is that of a run of the graph on these messages, and what is read back from it keeps every promise
pub record IsRun (graph : GraphTree) (messages : List Message) (text : List ℕ) : Type 0 where
  pub log : Ticks
  pub lines : List OutLine
  pub told : read_back graph text ≡ record { log = log; lines = lines }
  pub printed : text ≡ run_text graph log lines
  pub promised : IsPromisedRun graph messages log lines

-- `var PROCESS.NAME VALUE`
abbrev pub var_line : Var → ℤ → List ℕ
var_line var value = codes "var " ++ (var.process ++ (46 ∷ var.name ++ (32 ∷ signed_decimal value ++ 10 ∷ [])))

-- a line for each variable
abbrev pub var_lines : List Var → List ℤ → List ℕ
var_lines [] values = []
var_lines (var ∷ vars) [] = []
var_lines (var ∷ vars) (value ∷ values) = var_line var value ++ var_lines vars values

-- `at TICK`
abbrev pub at_line : ℕ → List ℕ
at_line tick = codes "at " ++ (decimal tick ++ 10 ∷ [])

-- the text of variables at a tick
abbrev pub stop_text : GraphTree → ℕ → List ℤ → List ℕ
stop_text graph tick values = var_lines graph.vars values ++ at_line tick

-- the text is that of the variables at a tick of the run of the graph on these messages
pub record IsStop (graph : GraphTree) (messages : List Message) (tick : ℕ) (text : List ℕ) : Type 0 where
  pub values : List ℤ
  pub are : AreVariablesAt graph messages tick values
  pub printed : text ≡ stop_text graph tick values
