-- Why a verdict on the text of a set comes: it has a line at fault, or it says a set and more is asked.
use Rattle.std.specs.Prelude.{◌≡◌, ℕ, List, Ok, Err}
use Rattle.yt_answer.specs.declared.verdict.Verdict.{Verdict}
use Rattle.yt_answer.specs.declared.verdict.Verdict.TheVariants.{Graph}
use Rattle.yt_set.specs.declared.read.LineFault.{LineFault}
use Rattle.yt_set.specs.NamedTasks.{NamedTasks}
use Rattle.yt_set.specs.SetText.{set_of}
use Rattle.yt_set.specs.Tasks.{IsTaskSet}
use Rattle.yt_fitting.specs.declared.set_reading.SetReading.{SetReading}
use Rattle.yt_fitting.specs.declared.set_reading.SetReading.TheVariants.{Set, Refused}
use Rattle.yt_fitting.specs.FaultLines.{set_line}

-- why a verdict on a set's text comes, where `Asked` says why one on the set does
pub data SetCause (text : List ℕ) (Asked : NamedTasks → Type 0) : Type 0 where
  at_fault : (number : ℕ) (fault : LineFault) → set_of text ≡ Err (number, fault) → SetCause text Asked
  read : (set : NamedTasks) → set_of text ≡ Ok set → Asked set → SetCause text Asked

-- the verdict
abbrev pub set_verdict : {text : List ℕ} {Asked : NamedTasks → Type 0} → ((set : NamedTasks) → Asked set → Verdict) → SetCause text Asked → Verdict
set_verdict of (at_fault number fault is) = Graph
set_verdict of (read set is why) = of set why

-- its text
abbrev pub IsSetText : {text : List ℕ} {Asked : NamedTasks → Type 0} → ((set : NamedTasks) → Asked set → List ℕ → Type 0) → SetCause text Asked → List ℕ → Type 0
IsSetText of (at_fault number fault is) told = told ≡ set_line number fault
IsSetText of (read set is why) told = of set why told

-- a set's text says this set; or it has a line at fault, and this is the answer
abbrev pub IsSetReadingOf : List ℕ → SetReading → Type 0
IsSetReadingOf text (Set named) = (set_of text ≡ Ok named) × IsTaskSet named.tasks
IsSetReadingOf text (Refused answer) =
    (number : ℕ) × (fault : LineFault) × (set_of text ≡ Err (number, fault)) × (answer ≡ record { verdict = Graph; text = set_line number fault })
