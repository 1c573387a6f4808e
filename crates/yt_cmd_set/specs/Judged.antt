-- Why a verdict on the text of a set comes.
use Rattle.std.specs.Prelude.{◌≡◌, ℕ, List, codes}
use Rattle.yt_answer.specs.declared.verdict.Verdict.{Verdict}
use Rattle.yt_answer.specs.declared.verdict.Verdict.TheVariants.{Done}
use Rattle.yt_set.specs.NamedTasks.{NamedTasks}
use Rattle.yt_fitting.specs.Loads.{LoadCause, IsLoadText, load_verdict}
use Rattle.yt_fitting.specs.Sets.{SetCause, IsSetText, set_verdict}
use Rattle.yt_fitting.specs.TaskText.{accepted_text}

-- why one on a set that is read comes: its tasks don't fit, or they do
abbrev pub FitCause : NamedTasks → Type 0
FitCause named = LoadCause named.tasks (Unit {0})

-- the verdict on it
abbrev pub fit_verdict : (named : NamedTasks) → FitCause named → Verdict
fit_verdict named cause = load_verdict (λ _. Done) cause

-- its text
abbrev pub IsFitText : (named : NamedTasks) → FitCause named → List ℕ → Type 0
IsFitText named cause text = IsLoadText (codes "set") named.labels (λ _ t. t ≡ accepted_text named.tasks) cause text

-- why one on the text of a set comes: it has a line at fault, or its tasks are judged
abbrev pub JudgedSetCause : List ℕ → Type 0
JudgedSetCause set = SetCause set FitCause

-- the verdict
abbrev pub judged_verdict : {set : List ℕ} → JudgedSetCause set → Verdict
judged_verdict cause = set_verdict fit_verdict cause

-- its text
abbrev pub IsJudgedText : {set : List ℕ} → JudgedSetCause set → List ℕ → Type 0
IsJudgedText cause text = IsSetText IsFitText cause text
