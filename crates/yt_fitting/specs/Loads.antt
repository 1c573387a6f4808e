-- Why a verdict on tasks comes: they don't fit, or they do and more is asked.
use Rattle.std.specs.Prelude.{◌≡◌, ℕ, ◌≤◌, List, [], ◌++◌}
use Rattle.yt_answer.specs.declared.verdict.Verdict.{Verdict}
use Rattle.yt_answer.specs.declared.verdict.Verdict.TheVariants.{Graph, Overload}
use Rattle.yt_fits.specs.declared.unfit.Unfit.{Unfit}
use Rattle.yt_fits.specs.declared.unfit.Unfit.TheVariants.{Hyperperiod, Overload as Overloaded, Interval}
use Rattle.yt_fits.specs.Loads.{hyperperiod_limit}
use Rattle.yt_fits.specs.Unfits.{IsReason}
use Rattle.yt_list.specs.Numbered.{numbered_or}
use Rattle.yt_log.specs.Patterns.{MustMiss}
use Rattle.yt_set.specs.declared.task.Task.{Task}
use Rattle.yt_set.specs.Tasks.{Fits, hyperperiod}
use Rattle.yt_witness.specs.declared.pattern.Pattern.{Pattern}
use Rattle.yt_witness.specs.declared.pattern.Pattern.TheVariants.{All, Blocker}
use Rattle.yt_witness.specs.Witnesses.{horizon, plan_of}
use Rattle.yt_fitting.specs.TaskText.{hyperperiod_line, interval_line, load_line, pattern_text}

-- the verdict on tasks that don't fit
abbrev pub unfit_verdict : Unfit → Verdict
unfit_verdict (Hyperperiod task) = Graph
unfit_verdict (Overloaded sum) = Overload
unfit_verdict (Interval breach) = Overload

-- the text has a line that tells why tasks with these names don't fit, and shows the arrivals of a pattern, of which each lawful, work-conserving and exclusive schedule misses a deadline by their horizon
pub record IsOverload (labels : List (List ℕ)) (tasks : List Task) (line : List ℕ) (pattern : Pattern) (text : List ℕ) : Type 0 where
  pub printed : text ≡ line ++ pattern_text labels tasks pattern
  pub must_miss : MustMiss tasks (plan_of tasks pattern) (horizon pattern)

-- the text is that of a graph or a set, as the kind says, whose tasks have these names and don't fit, by the reason
abbrev pub IsUnfitText : List ℕ → List (List ℕ) → List Task → Unfit → List ℕ → Type 0
IsUnfitText kind labels tasks (Hyperperiod task) text = text ≡ hyperperiod_line kind (numbered_or labels task [])
IsUnfitText kind labels tasks (Overloaded sum) text = IsOverload labels tasks (load_line sum) (All sum.whole) text
IsUnfitText kind labels tasks (Interval breach) text = IsOverload labels tasks (interval_line (numbered_or labels breach.task []) breach) (Blocker breach.task breach.len) text

-- why a verdict on tasks comes, where `Asked` says why one on tasks that fit does
pub data LoadCause (tasks : List Task) (Asked : Type 0) : Type 0 where
  unfit : (why : Unfit) → IsReason tasks why → LoadCause tasks Asked
  fits : hyperperiod tasks ≤ hyperperiod_limit tasks → Fits tasks → Asked → LoadCause tasks Asked

-- the verdict
abbrev pub load_verdict : {tasks : List Task} {Asked : Type 0} → (Asked → Verdict) → LoadCause tasks Asked → Verdict
load_verdict of (unfit why is) = unfit_verdict why
load_verdict of (fits narrow room why) = of why

-- its text, for tasks with these names, of a graph or a set as the kind says
abbrev pub IsLoadText : List ℕ → List (List ℕ) → {tasks : List Task} {Asked : Type 0} → (Asked → List ℕ → Type 0) → LoadCause tasks Asked → List ℕ → Type 0
IsLoadText kind labels {tasks} of (unfit why is) text = IsUnfitText kind labels tasks why text
IsLoadText kind labels of (fits narrow room why) text = of why text
