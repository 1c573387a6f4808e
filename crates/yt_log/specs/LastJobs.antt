-- The last job of a task among the items so far, which are given from the last.
use Rattle.std.specs.Prelude.{ℕ, ◌+◌, ◌==◌, List, [], ◌∷◌, if◌then◌else◌}
use Rattle.yt_set.specs.declared.task.Task.{Task}
use Rattle.yt_log.specs.declared.plan.PlanItem.{PlanItem}
use Rattle.yt_log.specs.declared.last_jobs.LastJob.{LastJob}
use Rattle.yt_log.specs.Plan.{jobs_of}

-- the arrival of a task's last item; 0 where there is none
unfoldable pub last_of : ℕ → List PlanItem → ℕ
last_of task [] = 0
last_of task (item ∷ before) = if item.job.task == task then item.arrival else last_of task before

-- a task's last job: its number, which is how many there are, and its arrival
abbrev pub last_job : ℕ → List PlanItem → LastJob
last_job task before = record { number = jobs_of task before; arrival = last_of task before }

-- the least tick at which the next job of a task may arrive: a period after its last one
abbrev pub least_arrival : Task → LastJob → ℕ
least_arrival task last = if last.number == 0 then 0 else last.arrival + task.period
