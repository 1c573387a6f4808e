-- The items at the places of a plan.
use Rattle.std.proofs.Common.{◌≡◌, ℕ, zero, suc, ◌+◌, ◌<◌, ◌≤◌, List, [], ◌∷◌, length, Some, refl, sym, ap, ◌∙◌, inl, inr, ⊎_elim, arith}
use Rattle.std.proofs.lemmas.Bool.{cases_order}
use Rattle.yt_list.specs.Numbered.{numbered}
use Rattle.yt_set.specs.declared.task.Task.{Task}
use Rattle.yt_set.specs.Tasks.{IsTaskSet, within}
use Rattle.yt_log.specs.declared.job.Job.{Job}
use Rattle.yt_log.specs.declared.plan.PlanItem.{PlanItem}
use Rattle.yt_log.specs.Tasks.{Has, task_of}
use Rattle.yt_log.specs.Plan.{its_task, deadline_of, IsLegalAfter, IsLegal}
use Rattle.yt_log.specs.Inside.Heads.{item_at}
use Rattle.yt_log.proofs.Forms.{usable}
use Rattle.yt_log.proofs.Demands.{deadline_is, has_item, task_read}
use Rattle.yt_log.proofs.Plans.{AreCounted, counted_more, numbered_after, apart_after}

pub has_place : (plan : List PlanItem) (k : ℕ) → k < length plan → Has plan (item_at plan k)
unfolding item_at
has_place [] k h = absurd (omega arith)
has_place (x ∷ xs) zero h = inl refl
has_place (x ∷ xs) (suc k) h = inr (has_place xs k (omega arith))

-- an item of a plan stands at a place
pub record IsAt (plan : List PlanItem) (item : PlanItem) : Type 0 where
  pub place : ℕ
  pub within : place < length plan
  pub is : item_at plan place ≡ item

pub placed : (plan : List PlanItem) (item : PlanItem) → Has plan item → IsAt plan item
unfolding item_at
placed [] item is = absurd is
placed (x ∷ xs) item is =
    ⊎_elim
    (λ (e : item ≡ x). record { place = 0; within = omega arith; is = sym e })
    (λ (k : Has xs item). let r = placed xs item k in let w = r.within in record { place = suc r.place; within = omega arith; is = r.is })
    is

-- a later item of a task
pub record Follows (tasks : List Task) (early late : PlanItem) : Type 0 where
  pub number : early.job.number < late.job.number
  pub apart : early.arrival + (its_task tasks late).period ≤ late.arrival

follows_after : (tasks : List Task) (before xs : List PlanItem) → IsLegalAfter tasks before xs → AreCounted before → (k m : ℕ) → k < m → m < length xs →
    (item_at xs k).job.task ≡ (item_at xs m).job.task → Follows tasks (item_at xs k) (item_at xs m)
unfolding item_at
follows_after tasks before [] legal counted k m lt below same = absurd (omega arith)
follows_after tasks before (x ∷ xs) legal counted k zero lt below same = absurd (omega arith)
follows_after tasks before (x ∷ xs) legal counted zero (suc m) lt below same =
    let more = counted_more tasks before x legal.0 counted in
    let has = has_place xs m (omega arith) in
    record {
      number = numbered_after tasks (x ∷ before) xs legal.1 more x (item_at xs m) (inl refl) has same;
      apart = apart_after tasks (x ∷ before) xs legal.1 x (item_at xs m) (inl refl) has same;
    }
follows_after tasks before (x ∷ xs) legal counted (suc k) (suc m) lt below same =
    follows_after tasks (x ∷ before) xs legal.1 (counted_more tasks before x legal.0 counted) k m (omega arith) (omega arith) same

pub follows : (tasks : List Task) (plan : List PlanItem) → IsLegal tasks plan → (k m : ℕ) → k < m → m < length plan →
    (item_at plan k).job.task ≡ (item_at plan m).job.task → Follows tasks (item_at plan k) (item_at plan m)
follows tasks plan legal = follows_after tasks [] plan legal (λ i is. absurd is)

-- and it is due later
pub due_later : (tasks : List Task) → IsTaskSet tasks → (plan : List PlanItem) → IsLegal tasks plan → (k m : ℕ) → k < m → m < length plan →
    (item_at plan k).job.task ≡ (item_at plan m).job.task → deadline_of tasks (item_at plan k) < deadline_of tasks (item_at plan m)
due_later tasks set plan legal k m lt below same =
    let a = item_at plan k in
    let b = item_at plan m in
    let f = follows tasks plan legal k m lt below same in
    let apart = f.apart in
    let u = usable tasks set (its_task tasks b) (has_item tasks plan legal b (has_place plan m below)) in
    let some = u.due in
    let most = u.in_period in
    let da = deadline_is tasks a in
    let db = deadline_is tasks b in
    let e : within (its_task tasks a) ≡ within (its_task tasks b) = ap (λ (n : ℕ). within (task_of tasks n)) same in
    omega arith

-- two places of one job are one
pub one_place : (tasks : List Task) (plan : List PlanItem) → IsLegal tasks plan → (k m : ℕ) → k < length plan → m < length plan → (item_at plan k).job ≡ (item_at plan m).job → k ≡ m
one_place tasks plan legal k m hk hm e =
    let task : (item_at plan k).job.task ≡ (item_at plan m).job.task = ap (λ (j : Job). j.task) e in
    let number : (item_at plan k).job.number ≡ (item_at plan m).job.number = ap (λ (j : Job). j.number) e in
    ⊎_elim
    (λ (same : k ≡ m). same)
    (λ o. ⊎_elim
    (λ (lt : k < m). let f = (follows tasks plan legal k m lt hm task).number in absurd (omega arith))
    (λ (lt : m < k). let f = (follows tasks plan legal m k lt hk (sym task)).number in absurd (omega arith))
    o)
    (cases_order k m)

-- the deadline, from the task that a set has at a number
pub deadline_read : (tasks : List Task) (item : PlanItem) (task : Task) → numbered tasks item.job.task ≡ Some task → deadline_of tasks item ≡ item.arrival + within task
deadline_read tasks item task at = deadline_is tasks item ∙ ap (λ (τ : Task). item.arrival + within τ) (task_read tasks item.job.task task at)
