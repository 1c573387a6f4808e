-- What the steps of reading a plan's text answer.
use Rattle.std.specs.Prelude.{◌≡◌, ℕ, ◌-◌, ◌^◌, ◌<◌, ◌≤◌, min, List, Result, Ok, Err, length, reverse}
use Rattle.yt_base.specs.Digits.{value_of}
use Rattle.yt_base.specs.declared.file_error.FileError.{FileError}
use Rattle.yt_base.specs.declared.file_error.FileError.TheVariants as file
use Rattle.yt_set.specs.declared.task.Task.{Task}
use Rattle.yt_set.specs.NamedTasks.{NamedTasks}
use Rattle.yt_set.specs.Tasks.{IsTaskSet}
use Rattle.yt_log.specs.declared.plan.PlanItem.{PlanItem}
use Rattle.yt_log.specs.declared.last_jobs.LastJob.{LastJob}
use Rattle.yt_log.specs.declared.item_line.ItemLine.{ItemLine}
use Rattle.yt_log.specs.declared.item_fault.ItemFault.{ItemFault}
use Rattle.yt_log.specs.declared.read.PlanFault.{PlanFault}
use Rattle.yt_log.specs.declared.read.PlanFault.TheVariants.{Memory}
use Rattle.yt_log.specs.Limits.{most_read_arrival, most_read_jobs}
use Rattle.yt_log.specs.Plan.{IsLegalPlan}
use Rattle.yt_log.specs.LastJobs.{least_arrival}
use Rattle.yt_log.specs.PlanText.{ItemTexts, judged}
use Rattle.yt_log.specs.PlanFaults.{in_line}
use Rattle.yt_log.specs.Inside.LastJobs.{AreLast}

-- the texts of a line's fields
abbrev pub texts_of : ItemLine → ItemTexts
texts_of line = record { arrival = line.arrival.now; task = line.task.now; cost = line.cost.now }

-- the value of digits, and 2 ^ 64 - 1 for each greater one
abbrev pub capped : List ℕ → ℕ
capped text = min (value_of text) (2 ^ 64 - 1)

-- a task's next job has no fault
pub record IsFine (its : Task) (last : LastJob) (latest jobs arrival cost : ℕ) : Type 0 where
  pub some : 1 ≤ cost
  pub most : cost ≤ its.cost
  pub early : arrival ≤ most_read_arrival
  pub order : latest ≤ arrival
  pub apart : least_arrival its last ≤ arrival
  pub room : jobs < most_read_jobs

-- a set in range, of which each task has a name, and a table of these names
pub record IsNumbered (set : NamedTasks) (names : List (List ℕ)) : Type 0 where
  pub in_range : IsTaskSet set.tasks
  pub labelled : length set.labels ≡ length set.tasks
  pub named : names ≡ set.labels

-- the set, and the plan that the lines so far say
pub record PlanSoFar : Type 0 where
  pub set : NamedTasks
  pub plan : List PlanItem

-- the set is in range and the plan legal so far, and these are the last jobs of its tasks
pub record IsSoFar (read : PlanSoFar) (last : List LastJob) : Type 0 where
  pub in_range : IsTaskSet read.set.tasks
  pub legal : IsLegalPlan read.set.tasks read.plan
  pub jobs : AreLast last (reverse read.plan)

-- what was read of the same set, with another plan
abbrev pub with_set : {F : Type 0} → NamedTasks → Result (List PlanItem) F → Result PlanSoFar F
with_set set (Ok plan) = Ok (record { set = set; plan = plan })
with_set set (Err fault) = Err fault

-- what was read once a line is judged by its fields, or its fault
abbrev pub judged_so_far : PlanSoFar → List (List ℕ) → Result PlanSoFar ItemFault
judged_so_far read fields = with_set read.set (judged read.set read.plan fields)

-- the fault of a plan's text, by the error of the file
abbrev pub fault_of : FileError ItemFault → PlanFault
fault_of (file.Line line fault) = in_line line fault
fault_of file.Memory = Memory
