-- The last job of each task, and which item may come next.
use Rattle.std.specs.Prelude.{◌≡◌, ℕ, ◌+◌, ◌-◌, ◌≤◌, ◌==◌, ◌&&◌, ◌||◌, nat_le, Bool, List, length, Some}
use Rattle.yt_list.specs.Numbered.{numbered}
use Rattle.yt_set.specs.Limits.{most_tasks}
use Rattle.yt_set.specs.declared.task.Task.{Task}
use Rattle.yt_log.specs.declared.plan.PlanItem.{PlanItem}
use Rattle.yt_log.specs.declared.last_jobs.LastJob.{LastJob}
use Rattle.yt_log.specs.Limits.{most_arrival}
use Rattle.yt_log.specs.Plan.{its_task}
use Rattle.yt_log.specs.LastJobs.{last_job}

-- these are the last jobs of as many tasks as a set may have
abbrev pub AreLast : List LastJob → List PlanItem → Type 0
AreLast jobs before = (task : ℕ) → 1 ≤ task → task ≤ most_tasks → numbered jobs task ≡ Some (last_job task before)

-- an item of a task may follow the task's last job: it has the next number, comes a period later or more, and costs what a job of the task may cost; and its arrival is one that a plan may have
abbrev pub may_follow : Task → LastJob → PlanItem → Bool
may_follow task last item =
    (item.job.number == last.number + 1)
    && (((last.number == 0) || nat_le task.period (item.arrival - last.arrival))
    && (nat_le 1 item.cost && (nat_le item.cost task.cost && nat_le item.arrival most_arrival)))

-- an item of a task of the set may follow the items before it
abbrev pub may_come : List Task → List PlanItem → PlanItem → Bool
may_come tasks before item =
    nat_le 1 item.job.task && (nat_le item.job.task (length tasks) && may_follow (its_task tasks item) (last_job item.job.task before) item)
