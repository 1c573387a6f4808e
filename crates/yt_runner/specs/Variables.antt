-- The variables at a tick of a run.
use Rattle.std.specs.Prelude.{◌≡◌, ℕ, ℤ, List, Some}
use Rattle.yt_graph.specs.Picture.{GraphTree}
use Rattle.yt_log.specs.Ticks.{Ticks}
use Rattle.yt_trace.specs.declared.message.Message.{Message}
use Rattle.yt_serial.specs.declared.shown.OutLine.{OutLine}
use Rattle.yt_serial.specs.SerialHandling.{Serial, handled_along, start}
use Rattle.yt_serial.specs.Told.{IsPromisedRun}
use Rattle.yt_serial.specs.Variables.{variables_at}

-- these are the variables before a tick of the promised run: those at the start, with all that the handlers have written in the ticks before it
abbrev pub AreVariablesAt : GraphTree → List Message → ℕ → List ℤ → Type 0
AreVariablesAt g trace tick values =
    (log : Ticks) (lines : List OutLine) → IsPromisedRun g trace log lines → (s : Serial) → handled_along g trace log ≡ Some s →
    values ≡ variables_at (start g trace).vars s.handled log tick
