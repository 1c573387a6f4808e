-- The rule's one choice.
use Rattle.std.proofs.Common.{◌≡◌, ℕ, List, Option, Some, None, refl, ap, ◌∙◌}
use Rattle.std.proofs.lemmas.Bool.{both_ways}
use Rattle.yt_set.specs.declared.task.Task.{Task}
use Rattle.yt_log.specs.declared.job.Job.{Job}
use Rattle.yt_log.specs.declared.plan.PlanItem.{PlanItem}
use Rattle.yt_log.specs.Tasks.{Has}
use Rattle.yt_log.specs.Ticks.{Ticks, IsWaiting}
use Rattle.yt_log.specs.EdfDdm.{rank, waits, least, job_of, choice, ComesFirst}
use Rattle.yt_order.specs.Words.{precedes}
use Rattle.yt_log.specs.Laws.{RuleIsLeast}
use Rattle.yt_log.proofs.Choices.{waits_true, waits_from, IsLeast, least_is}
use Rattle.yt_order.proofs.Lemmas.{precedes_total}

rank_job : (tasks : List Task) (log : Ticks) (t : ℕ) (a b : PlanItem) → rank tasks log t a ≡ rank tasks log t b → a.job ≡ b.job
unfolding rank
rank_job tasks log t a b e =
    let x : a.job.task ≡ b.job.task = cc in
    let y : a.job.number ≡ b.job.number = cc in
    let made : ℕ → ℕ → Job = λ m n. record { task = m; number = n } in
    ap (λ (m : ℕ). made m a.job.number) x ∙ ap (λ (n : ℕ). made b.job.task n) y

some_is : (tasks : List Task) (plan : List PlanItem) (log : Ticks) (t : ℕ) (item : PlanItem) → ComesFirst tasks plan log t item → (o : Option PlanItem) → IsLeast (rank tasks log t) (waits log t) plan o → job_of o ≡ Some item.job
unfolding job_of
some_is tasks plan log t item c None h = absurd (h item c.has (waits_from log t item c.waiting))
some_is tasks plan log t item c (Some r) h =
    let e = precedes_total (rank tasks log t r) (rank tasks log t item)
    (λ p. both_ways (precedes (rank tasks log t r) (rank tasks log t item)) (c.first r h.has (waits_true log t r h.passing)) p)
    (λ p. h.first item c.has (waits_from log t item c.waiting) p) in
    ap (λ (j : Job). Some j) (rank_job tasks log t r item e)

none_is : (tasks : List Task) (plan : List PlanItem) (log : Ticks) (t : ℕ) → ((item : PlanItem) → Has plan item → IsWaiting log t item → ⊥) → (o : Option PlanItem) → IsLeast (rank tasks log t) (waits log t) plan o → job_of o ≡ None
unfolding job_of
none_is tasks plan log t c None h = refl
none_is tasks plan log t c (Some r) h = absurd (c r h.has (waits_true log t r h.passing))

pub rule_is_least : RuleIsLeast
unfolding choice
rule_is_least = record {
  some = λ tasks plan log t item c. some_is tasks plan log t item c (least (rank tasks log t) (waits log t) plan) (least_is (rank tasks log t) (waits log t) plan);
  none = λ tasks plan log t c. none_is tasks plan log t c (least (rank tasks log t) (waits log t) plan) (least_is (rank tasks log t) (waits log t) plan);
}
