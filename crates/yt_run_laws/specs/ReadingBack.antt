-- The texts of runs are read back.
use Rattle.std.specs.Prelude.{◌≡◌, List}
use Rattle.std.specs.List.{All}
use Rattle.yt_graph.specs.Picture.{GraphTree}
use Rattle.yt_log.specs.Ticks.{Ticks}
use Rattle.yt_run.specs.Laws.{IsFaithful}
use Rattle.yt_run.specs.RunText.{read_back, run_text}
use Rattle.yt_run_laws.specs.Values.{AreValues, CanRunOnValues}
use Rattle.yt_serial.specs.declared.shown.OutLine.{OutLine}
use Rattle.yt_trace.specs.declared.message.Message.{Message}
use Rattle.yt_serial.specs.Premises.{CanRun}
use Rattle.yt_serial.specs.Told.{IsPromisedRun}

-- the text of each promised run is read back as its log and lines, and is faithful
pub record RunsReadBack : Type 0 where
  -- where the numbers of the lines are values, whatever the handlers' texts write
  pub of_values :
      (g : GraphTree) (trace : List Message) → CanRun g trace → (log : Ticks) (lines : List OutLine) → IsPromisedRun g trace log lines →
      All (λ line. AreValues line.values) lines → read_back g (run_text g log lines) ≡ record { log = log; lines = lines }
  -- where the handlers' texts, the starts of variables and the messages have values alone
  pub back :
      (g : GraphTree) (trace : List Message) → CanRunOnValues g trace → (log : Ticks) (lines : List OutLine) → IsPromisedRun g trace log lines →
      read_back g (run_text g log lines) ≡ record { log = log; lines = lines }
  pub faithful :
      (g : GraphTree) (trace : List Message) → CanRunOnValues g trace → (log : Ticks) (lines : List OutLine) → IsPromisedRun g trace log lines →
      IsFaithful g trace (run_text g log lines)
