-- Why a set doesn't fit.
use Rattle.std.specs.Prelude.{◌≡◌, ◌<◌, ◌≤◌, List, length}
use Rattle.yt_set.specs.declared.task.Task.{Task}
use Rattle.yt_set.specs.Tasks.{Fits, FitsLoad, hyperperiod}
use Rattle.yt_fits.specs.declared.unfit.Unfit.{Unfit}
use Rattle.yt_fits.specs.declared.unfit.Unfit.TheVariants.{Hyperperiod, Overload, Interval}
use Rattle.yt_fits.specs.Intervals.{IsFirstBreach}
use Rattle.yt_fits.specs.Loads.{IsFirstWide, hyperperiod_limit, load_sum}

-- the reason is the set's: its hyperperiod is too great, from that task on; else its load doesn't fit, being that sum; else this is the first span in which a task lacks room
abbrev pub IsReason : List Task → Unfit → Type 0
IsReason tasks (Hyperperiod task) = IsFirstWide tasks task × (hyperperiod_limit tasks < hyperperiod tasks)
IsReason tasks (Overload sum) = (sum ≡ load_sum tasks) × (hyperperiod tasks ≤ hyperperiod_limit tasks) × (FitsLoad tasks → ⊥)
IsReason tasks (Interval breach) = IsFirstBreach tasks breach × (hyperperiod tasks ≤ hyperperiod_limit tasks) × FitsLoad tasks

-- the set doesn't fit, unless its hyperperiod is too great to tell
abbrev pub IsUnfit : List Task → Type 0
IsUnfit tasks = hyperperiod tasks ≤ hyperperiod_limit tasks → Fits tasks → ⊥

-- a task that the reason names is in the set, by its number from 1
abbrev pub NamesTaskOf : List Task → Unfit → Type 0
NamesTaskOf tasks (Hyperperiod task) = (1 ≤ task) × (task ≤ length tasks)
NamesTaskOf tasks (Overload sum) = Unit {0}
NamesTaskOf tasks (Interval breach) = (1 ≤ breach.task) × (breach.task ≤ length tasks)
