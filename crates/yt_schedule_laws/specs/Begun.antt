-- The jobs that have begun and aren't done, and the order of their deadlines.
use Rattle.std.specs.Prelude.{◌≡◌, ◌↔◌, ℕ, ◌<◌, List}
use Rattle.yt_set.specs.declared.task.Task.{Task}
use Rattle.yt_log.specs.declared.plan.PlanItem.{PlanItem}
use Rattle.yt_log.specs.EdfDdm.{current_deadline, IsEdfDdm}
use Rattle.yt_log.specs.Plan.{IsLegal}
use Rattle.yt_log.specs.Tasks.{Has}
use Rattle.yt_log.specs.Ticks.{Ticks, done, first_tick}

-- an item of the plan has begun below t and isn't done
pub record IsBegun (plan : List PlanItem) (log : Ticks) (t : ℕ) (item : PlanItem) : Type 0 where
  pub has : Has plan item
  pub begun : 0 < done log item.job t
  pub unfinished : done log item.job t < item.cost

-- one item began before another
abbrev pub BeganBefore : Ticks → ℕ → PlanItem → PlanItem → Type 0
BeganBefore log t a b = first_tick log a.job t < first_tick log b.job t

-- of the begun, unfinished items of a log of the rule, under a resource or not, at any tick: one began before another exactly where the
-- other's current deadline is the earlier one; no two have one current deadline, and no two began in one tick
pub record BegunDeadlinesFall : Type 0 where
  pub fall :
      (tasks : List Task) (plan : List PlanItem) → IsLegal tasks plan → (log : Ticks) → IsEdfDdm tasks plan log →
      (t : ℕ) (a b : PlanItem) → IsBegun plan log t a → IsBegun plan log t b →
      BeganBefore log t a b ↔ current_deadline tasks log t b < current_deadline tasks log t a
  pub deadlines_differ :
      (tasks : List Task) (plan : List PlanItem) → IsLegal tasks plan → (log : Ticks) → IsEdfDdm tasks plan log →
      (t : ℕ) (a b : PlanItem) → IsBegun plan log t a → IsBegun plan log t b → current_deadline tasks log t a ≡ current_deadline tasks log t b → a ≡ b
  pub ticks_differ :
      (tasks : List Task) (plan : List PlanItem) → IsLegal tasks plan → (log : Ticks) → IsEdfDdm tasks plan log →
      (t : ℕ) (a b : PlanItem) → IsBegun plan log t a → IsBegun plan log t b → first_tick log a.job t ≡ first_tick log b.job t → a ≡ b
