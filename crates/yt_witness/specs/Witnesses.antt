-- The patterns that show that a set doesn't fit, and what each stands for.
use Rattle.std.specs.Prelude.{◌≡◌, ℕ, ◌≤◌, List, Option, Some, None}
use Rattle.std.specs.List.{sum_by}
use Rattle.yt_list.specs.Numbered.{numbered}
use Rattle.yt_set.specs.declared.task.Task.{Task}
use Rattle.yt_set.specs.Limits.{most_ticks}
use Rattle.yt_set.specs.Tasks.{FitsLoad, LacksRoom, hyperperiod}
use Rattle.yt_fits.specs.Loads.{hyperperiod_limit, most_multiple}
use Rattle.yt_fits.specs.declared.unfit.Unfit.{Unfit}
use Rattle.yt_fits.specs.declared.unfit.Unfit.TheVariants.{Hyperperiod, Overload, Interval}
use Rattle.yt_log.specs.declared.plan.PlanItem.{PlanItem}
use Rattle.yt_log.specs.Patterns.{Arrivals, all_tasks, blocker, pattern_plan}
use Rattle.yt_witness.specs.declared.arrivals.Arrivals as told
use Rattle.yt_witness.specs.declared.pattern.Pattern.{Pattern}
use Rattle.yt_witness.specs.declared.pattern.Pattern.TheVariants.{All, Blocker}
use Rattle.yt_witness.specs.declared.plan.PatternFault.{PatternFault}
use Rattle.yt_witness.specs.declared.plan.PatternFault.TheVariants.{Long, Memory}
use Rattle.yt_witness.specs.declared.plan.TheConstants.{MOST_HORIZON, MOST_JOBS}

-- the pattern of a reason: the overload's has the hyperperiod, the interval's its task and its length
abbrev pub pattern_of : Unfit → Option Pattern
pattern_of (Hyperperiod task) = None
pattern_of (Overload sum) = Some (All sum.whole)
pattern_of (Interval breach) = Some (Blocker breach.task breach.len)

-- the reason is that the hyperperiod is too great
abbrev pub IsWide : Unfit → Type 0
IsWide (Hyperperiod task) = Unit {0}
IsWide (Overload sum) = ⊥
IsWide (Interval breach) = ⊥

-- in a span of so many ticks, the task of a number lacks room: a job of it that keeps its resource leaves too little for others
pub record Blocks (tasks : List Task) (i span : ℕ) : Type 0 where
  pub task : Task
  pub there : numbered tasks i ≡ Some task
  pub lacks : LacksRoom tasks span task

-- the pattern is one of the set's: that of all tasks has the hyperperiod, which is not too great, and the load doesn't fit; that of a blocker has a span in which its task leaves too little room
abbrev pub IsPatternOf : List Task → Pattern → Type 0
IsPatternOf tasks (All upto) = (upto ≡ hyperperiod tasks) × (upto ≤ hyperperiod_limit tasks) × (FitsLoad tasks → ⊥)
IsPatternOf tasks (Blocker task upto) = Blocks tasks task upto

-- what a pattern stands for: the arrivals of each task, in order of the tasks
abbrev pub arrivals_of : List Task → Pattern → List Arrivals
arrivals_of tasks (All upto) = all_tasks tasks upto
arrivals_of tasks (Blocker task upto) = blocker tasks task upto

-- the plan of a pattern: all these jobs, in order of arrival and then of task
abbrev pub plan_of : List Task → Pattern → List PlanItem
plan_of tasks pattern = pattern_plan (arrivals_of tasks pattern)

-- the tick by which a pattern's plan misses a deadline
abbrev pub horizon : Pattern → ℕ
horizon (All upto) = upto
horizon (Blocker task upto) = upto

-- arrivals as the program has them, as patterns have them
abbrev pub as_arrivals : told.Arrivals → Arrivals
as_arrivals a = record { first = a.first; step = a.step; count = a.count; cost = a.cost }

-- what is known of the arrivals of each task of a set's pattern
pub record AreInRange (a : Arrivals) : Type 0 where
  pub first : a.first ≤ 1
  pub some : 1 ≤ a.step
  pub step : a.step ≤ most_ticks
  pub count : a.count ≤ most_multiple

-- how many jobs a pattern has
abbrev pub job_count : List Task → Pattern → ℕ
job_count tasks pattern = sum_by (λ a. a.count) (arrivals_of tasks pattern)

-- the pattern is short enough for its plan to be made: its horizon and its jobs are within the limits
pub record IsShort (tasks : List Task) (pattern : Pattern) : Type 0 where
  pub early : horizon pattern ≤ MOST_HORIZON
  pub few : job_count tasks pattern ≤ MOST_JOBS

-- the pattern is too long for its plan to be made
abbrev pub IsTooLong : List Task → Pattern → Type 0
IsTooLong tasks pattern = IsShort tasks pattern → ⊥

-- why the plan isn't made: the pattern is too long, with its horizon and how many jobs it has; or memory ran out
abbrev pub IsFaultOf : List Task → Pattern → PatternFault → Type 0
IsFaultOf tasks pattern (Long upto jobs) = (upto ≡ horizon pattern) × (jobs ≡ job_count tasks pattern) × IsTooLong tasks pattern
IsFaultOf tasks pattern Memory = IsShort tasks pattern
