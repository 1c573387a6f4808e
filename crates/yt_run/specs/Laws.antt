-- What is proved of the texts of runs.
use Rattle.std.specs.Prelude.{◌≡◌, ℕ, List}
use Rattle.yt_graph.specs.Picture.{GraphTree}
use Rattle.yt_log.specs.Ticks.{Ticks}
use Rattle.yt_serial.specs.declared.shown.OutLine.{OutLine}
use Rattle.yt_trace.specs.declared.message.Message.{Message}
use Rattle.yt_serial.specs.RunRules.{MeetsRunRules}
use Rattle.yt_serial.specs.Premises.{IsSchedulable}
use Rattle.yt_serial.specs.Told.{IsPromisedRun}
use Rattle.yt_run.specs.RunText.{read_back, run_text}

-- what is read back from a text meets the rules of a run of the graph on the trace, and is printed as that text
pub record IsFaithful (g : GraphTree) (trace : List Message) (text : List ℕ) : Type 0 where
  pub rules : MeetsRunRules g trace (read_back g text).log (read_back g text).lines
  pub printed : text ≡ run_text g (read_back g text).log (read_back g text).lines

-- where the rule's logs keep the deadlines of the graph's tasks, a faithful text is that of each promised run, so there is at most one; and
-- the text of a promised run that can be read back is faithful
pub record FaithfulTexts : Type 0 where
  pub is_the_runs :
      (g : GraphTree) (trace : List Message) → IsSchedulable g trace → (text : List ℕ) → IsFaithful g trace text →
      (log : Ticks) (lines : List OutLine) → IsPromisedRun g trace log lines → text ≡ run_text g log lines
  pub of_promised :
      (g : GraphTree) (trace : List Message) (log : Ticks) (lines : List OutLine) → IsPromisedRun g trace log lines →
      read_back g (run_text g log lines) ≡ record { log = log; lines = lines } → IsFaithful g trace (run_text g log lines)
