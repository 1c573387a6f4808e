-- Jobs that are done by their deadlines are done before the next ones of their tasks come.
use Rattle.std.specs.Prelude.{◌≡◌, ℕ, ◌<◌, ◌≤◌, List}
use Rattle.yt_set.specs.declared.task.Task.{Task}
use Rattle.yt_log.specs.declared.plan.PlanItem.{PlanItem}
use Rattle.yt_log.specs.Plan.{IsLegal}
use Rattle.yt_log.specs.Tasks.{Has}
use Rattle.yt_log.specs.Ticks.{Ticks, done, IsLawful, KeepsDeadlines}
use Rattle.yt_serial.specs.Told.{NoneReplaced}

-- in a lawful log of a legal plan that keeps its deadlines no job is replaced; and, where it keeps those that are due by h, none by a job
-- that arrives by h
pub record NoneIsReplaced : Type 0 where
  pub none :
      (tasks : List Task) (plan : List PlanItem) → IsLegal tasks plan → (log : Ticks) → IsLawful plan log →
      ((h : ℕ) → KeepsDeadlines tasks plan log h) → NoneReplaced plan log
  pub none_by :
      (tasks : List Task) (plan : List PlanItem) → IsLegal tasks plan → (log : Ticks) → IsLawful plan log →
      (h : ℕ) → KeepsDeadlines tasks plan log h →
      (a b : PlanItem) → Has plan a → Has plan b → a.job.task ≡ b.job.task → a.job.number < b.job.number → b.arrival ≤ h → done log a.job b.arrival ≡ a.cost
