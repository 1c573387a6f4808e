-- The text of a plan.
use Rattle.std.specs.Prelude.{ℕ, ◌+◌, ◌&&◌, not, nat_lt, nat_le, List, [], ◌∷◌, ◌++◌, length, reverse, if◌then◌else◌, Option, None, Some, Result, Ok, Err}
use Rattle.yt_base.specs.Digits.{is_digits, value_of}
use Rattle.yt_base.specs.Files.{read_lines}
use Rattle.yt_table.specs.Tables.{first_of}
use Rattle.yt_set.specs.declared.task.Task.{Task}
use Rattle.yt_set.specs.NamedTasks.{NamedTasks}
use Rattle.yt_log.specs.declared.plan.PlanItem.{PlanItem}
use Rattle.yt_log.specs.declared.last_jobs.LastJob.{LastJob}
use Rattle.yt_log.specs.declared.item_fault.ItemFault.{ItemFault}
use Rattle.yt_log.specs.declared.item_fault.ItemFault.TheVariants.{Form, Unknown, Cost, Late, Order, Soon, Many}
use Rattle.yt_log.specs.Limits.{most_read_arrival, most_read_jobs}
use Rattle.yt_log.specs.Tasks.{task_of}
use Rattle.yt_log.specs.Plan.{last_arrival}
use Rattle.yt_log.specs.LastJobs.{last_job, least_arrival}

-- the fields of a job's line: `ARRIVAL TASK COST`
pub record ItemTexts : Type 0 where
  pub arrival : List ℕ
  pub task : List ℕ
  pub cost : List ℕ

abbrev pub item_texts : List (List ℕ) → Option ItemTexts
item_texts (arrival ∷ task ∷ cost ∷ []) = Some (record { arrival = arrival; task = task; cost = cost })
item_texts _ = None

-- the first fault of the next job of a task, after its last one; the plan so far has so many jobs, of which the last arrives at `latest`
abbrev pub item_fault : Task → LastJob → ℕ → ℕ → ℕ → ℕ → Option ItemFault
item_fault its last latest jobs arrival cost =
    if not (nat_le 1 cost && nat_le cost its.cost) then Some Cost
    else (if nat_lt most_read_arrival arrival then Some Late
    else (if nat_lt arrival latest then Some Order
    else (if nat_lt arrival (least_arrival its last) then Some (Soon (least_arrival its last))
    else (if nat_le most_read_jobs jobs then Some Many else None))))

-- the plan, unless there is a fault
abbrev pub unless : Option ItemFault → List PlanItem → Result (List PlanItem) ItemFault
unless None plan = Ok plan
unless (Some fault) plan = Err fault

-- the plan with the next job of the task of a number, or its first fault
abbrev pub judged_item : List Task → List PlanItem → ℕ → ℕ → ℕ → Result (List PlanItem) ItemFault
judged_item tasks plan task arrival cost =
    let last = last_job task (reverse plan) in
    unless
    (item_fault (task_of tasks task) last (last_arrival plan) (length plan) arrival cost)
    (plan ++ record { job = record { task = task; number = last.number + 1 }; arrival = arrival; cost = cost } ∷ [])

-- the same of the first task of a name, where one has it
abbrev pub judged_named : List Task → List PlanItem → Option ℕ → ℕ → ℕ → Result (List PlanItem) ItemFault
judged_named tasks plan None arrival cost = Err Unknown
judged_named tasks plan (Some task) arrival cost = judged_item tasks plan task arrival cost

-- the plan with the job of a line, or the line's first fault
abbrev pub judged_texts : NamedTasks → List PlanItem → Option ItemTexts → Result (List PlanItem) ItemFault
judged_texts set plan None = Err Form
judged_texts set plan (Some texts) =
    if not (is_digits texts.arrival && is_digits texts.cost) then Err Form
    else judged_named set.tasks plan (first_of texts.task 1 set.labels) (value_of texts.arrival) (value_of texts.cost)

abbrev pub judged : NamedTasks → List PlanItem → List (List ℕ) → Result (List PlanItem) ItemFault
judged set plan fields = judged_texts set plan (item_texts fields)

-- the plan that a text says of a set, or its first line at fault and that line's first fault
abbrev pub plan_of : NamedTasks → List ℕ → Result (List PlanItem) (ℕ × ItemFault)
plan_of set text = read_lines (judged set) [] text
