-- A log does no more in t ticks than t, and so misses where more is due.
use Rattle.std.proofs.Common.{◌≡◌, ℕ, zero, suc, ◌+◌, ◌-◌, ◌*◌, ◌/◌, ◌<◌, ◌≤◌, ◌⊎◌, Bool, true, false, cond, eqb, List, [], ◌∷◌, length, get_or, Some, refl, sym, ap, subst, ◌∙◌, inl, inr, ⊎_elim, arith, zero-le, eq-eqb, ne_eqb}
use Rattle.std.proofs.lemmas.Bool.{cases_lt, cases_eq, cases_Bool, cond-true, cond-false}
use Rattle.std.proofs.Math.Nat.{div-mul-le_self}
use Rattle.yt_set.specs.declared.task.Task.{Task}
use Rattle.yt_set.specs.Tasks.{within, jobs_due}
use Rattle.yt_log.specs.declared.job.Job.{Job}
use Rattle.yt_log.specs.declared.plan.PlanItem.{PlanItem}
use Rattle.yt_log.specs.Tasks.{Has, no_task}
use Rattle.yt_log.specs.Plan.{deadline_of, jobs_of, IsLegalAfter, IsLegal}
use Rattle.yt_log.specs.Ticks.{Ticks, tick, done, Misses}
use Rattle.yt_log.proofs.Forms.{due_within_is, jobs_due_is, IsUsable, due_within, demand}
use Rattle.yt_log.proofs.Ticks.{done-zero, done_yes, done_no, done_grows, tick_or_not}
use Rattle.yt_log.proofs.Totals.{total, total_le, total_yes, total_no, total-nil, total_join}
use Rattle.yt_log.proofs.Plans.{AreCounted, counted_more, numbered_after}
use Rattle.yt_log.proofs.Demands.{of, of_parts, of_from, above, above_parts, above_from, its_cost}

-- the jobs of the items differ
abbrev pub IsDistinct : List PlanItem → Type 0
IsDistinct [] = Unit {0}
IsDistinct (x ∷ xs) = ((k : PlanItem) → Has xs k → x.job ≡ k.job → ⊥) × IsDistinct xs

distinct_after : (tasks : List Task) (before xs : List PlanItem) → IsLegalAfter tasks before xs → AreCounted before → IsDistinct xs
distinct_after tasks before [] legal counted = tt
distinct_after tasks before (x ∷ xs) legal counted =
    let more = counted_more tasks before x legal.0 counted in (
      λ k is e.
          let lt = numbered_after tasks (x ∷ before) xs legal.1 more x k (inl refl) is (ap (λ (j : Job). j.task) e) in
          let same : x.job.number ≡ k.job.number = ap (λ (j : Job). j.number) e in
          omega arith,
      distinct_after tasks (x ∷ before) xs legal.1 more,
    )

pub distinct : (tasks : List Task) (plan : List PlanItem) → IsLegal tasks plan → IsDistinct plan
distinct tasks plan legal = distinct_after tasks [] plan legal (λ i is. absurd is)

abbrev pub anything : PlanItem → Bool
anything i = true

-- a tick adds at most one
tick_adds : (log : Ticks) (u : ℕ) (xs : List PlanItem) → IsDistinct xs → total anything (λ i. done log i.job (suc u)) xs ≤ suc (total anything (λ i. done log i.job u) xs)
tick_adds log u [] apart = let z = total-nil anything (λ i. done log i.job (suc u)) in omega arith
tick_adds log u (x ∷ xs) apart =
    let f : PlanItem → ℕ = λ i. done log i.job u in
    let g : PlanItem → ℕ = λ i. done log i.job (suc u) in
    let a = total_yes anything f x xs refl in
    let b = total_yes anything g x xs refl in
    ⊎_elim
    (λ (e : tick log u ≡ Some x.job).
    let s = done_yes log x.job u e in
    let rest = total_le anything anything g f xs (λ k is h. (
      refl,
      let n = done_no log k.job u (λ q. apart.0 k is (let y : Some x.job ≡ Some k.job = sym e ∙ q in cc)) in omega arith,
    )) in
    omega arith)
    (λ (never : tick log u ≡ Some x.job → ⊥).
    let s = done_no log x.job u never in
    let rest = tick_adds log u xs apart.1 in
    omega arith)
    (tick_or_not log x.job u)

pub capacity : (log : Ticks) (xs : List PlanItem) → IsDistinct xs → (t : ℕ) → total anything (λ i. done log i.job t) xs ≤ t
capacity log xs apart zero =
    let e = total_le anything anything (λ i. done log i.job 0) (λ i. 0) xs (λ i is h. (refl, let z = done-zero log i.job in omega arith)) in
    let z = nothing xs in
    omega arith
  where
    nothing : (xs : List PlanItem) → total anything (λ i. 0) xs ≤ 0
    nothing [] = let z = total-nil anything (λ i. 0) in omega arith
    nothing (x ∷ xs) = let a = total_yes anything (λ i. 0) x xs refl in let b = nothing xs in omega arith
capacity log xs apart (suc t) = let a = tick_adds log t xs apart in let b = capacity log xs apart t in omega arith

-- the jobs of a task, each of which costs c or more
pub task_total : (p : PlanItem → Bool) (n c : ℕ) (xs : List PlanItem) → ((e : PlanItem) → Has xs e → e.job.task ≡ n → (p e ≡ true) × (c ≤ e.cost)) → jobs_of n xs * c ≤ total (of p n) its_cost xs
unfolding jobs_of
task_total p n c [] h = omega arith
task_total p n c (x ∷ xs) h =
    let rest = task_total p n c xs (λ e is q. h e (inr is) q) in
    ⊎_elim
    (λ (e : x.job.task ≡ n).
    let k = h x (inl refl) e in
    let a = total_yes (of p n) its_cost x xs (of_from p n x e k.0) in
    let b : cond {A = ℕ} (eqb x.job.task n) 1 0 ≡ 1 = cond-true (eqb x.job.task n) 1 0 (eq-eqb x.job.task n e) in
    let m : (cond {A = ℕ} (eqb x.job.task n) 1 0 + jobs_of n xs) * c ≡ (1 + jobs_of n xs) * c = ap (λ (z : ℕ). (z + jobs_of n xs) * c) b in
    let cost = k.1 in
    omega arith)
    (λ (ne : x.job.task ≡ n → ⊥).
    let b : cond {A = ℕ} (eqb x.job.task n) 1 0 ≡ 0 = cond-false (eqb x.job.task n) 1 0 (ne_eqb x.job.task n ne) in
    let m : (cond {A = ℕ} (eqb x.job.task n) 1 0 + jobs_of n xs) * c ≡ (0 + jobs_of n xs) * c = ap (λ (z : ℕ). (z + jobs_of n xs) * c) b in
    let a = total_none_at (of p n) x xs (λ h. ne (of_parts p n x h).0) in
    omega arith)
    (cases_eq x.job.task n)
  where
    total_none_at : (p : PlanItem → Bool) (x : PlanItem) (xs : List PlanItem) → (p x ≡ true → ⊥) → total p its_cost (x ∷ xs) ≡ total p its_cost xs
    total_none_at p x xs h = ⊎_elim (λ (e : p x ≡ true). absurd (h e)) (λ (e : p x ≡ false). total_no p its_cost x xs e) (cases_Bool (p x))

-- where each task has its part of the demand, the tasks above k have the demand
pub has_demand : (p : PlanItem → Bool) (plan : List PlanItem) (span : ℕ) (tasks : List Task) (k : ℕ) →
    ((m : ℕ) → m < length tasks → due_within (get_or tasks m no_task) span * (get_or tasks m no_task).cost ≤ total (of p (suc (k + m))) its_cost plan) →
    demand tasks span ≤ total (above p k) its_cost plan
unfolding demand
has_demand p plan span [] k each = zero-le
has_demand p plan span (task ∷ tasks) k each =
    let join = total_join (above p k) (of p (suc k)) (above p (suc k)) its_cost plan
    (λ i h. let q = of_parts p (suc k) i h in let e = q.0 in above_from p k i (omega arith) q.1)
    (λ i h. let q = above_parts p (suc k) i h in let e = q.0 in above_from p k i (omega arith) q.1)
    (λ i h l. let q = of_parts p (suc k) i h in let r = above_parts p (suc k) i l in let a = q.0 in let b = r.0 in omega arith) in
    let first = each 0 (omega arith) in
    let e : total (of p (suc (k + 0))) its_cost plan ≡ total (of p (suc k)) its_cost plan = ap (λ (m : ℕ). total (of p m) its_cost plan) (omega arith) in
    let rest = has_demand p plan span tasks (suc k) (λ m lt.
    let a = each (suc m) (omega arith) in
    let b : total (of p (suc (k + suc m))) its_cost plan ≡ total (of p (suc (suc k + m))) its_cost plan = ap (λ (m : ℕ). total (of p m) its_cost plan) (omega arith) in
    omega arith) in
    omega arith

pub above_zero : (p : PlanItem → Bool) (plan : List PlanItem) → total (above p 0) its_cost plan ≤ total p its_cost plan
above_zero p plan = total_le (above p 0) p its_cost its_cost plan (λ i is h. ((above_parts p 0 i h).1, omega arith))

-- the jobs that are due within t end their periods by then
pub due_room : (task : Task) (t : ℕ) → IsUsable task → due_within task t * task.period + within task ≤ t + task.period
due_room task t is =
    let a = is.in_period in
    let m : due_within task t * task.period ≡ (t + task.period - within task) / task.period * task.period = ap (λ (n : ℕ). n * task.period) (due_within_is task t) in
    let b = div-mul-le_self (t + task.period - within task) task.period in
    omega arith

pub jobs_room : (task : Task) (t : ℕ) → IsUsable task → jobs_due task t * task.period + within task ≤ t + task.period
jobs_room task t is = let P : ℕ → Type 0 = λ n. n * task.period + within task ≤ t + task.period in subst P (sym (jobs_due_is task t)) (due_room task t is)

-- a miss, or each item that is due by h is done by h
pub miss_or_done : (tasks : List Task) (log : Ticks) (h : ℕ) (xs : List PlanItem) → Misses tasks xs log h ⊎ ((e : PlanItem) → Has xs e → deadline_of tasks e ≤ h → e.cost ≤ done log e.job h)
miss_or_done tasks log h [] = inr (λ e is. absurd is)
miss_or_done tasks log h (x ∷ xs) =
    let d = deadline_of tasks x in
    let kept : (x.cost ≤ done log x.job h) ⊎ (h < d) → Misses tasks (x ∷ xs) log h ⊎ ((e : PlanItem) → Has (x ∷ xs) e → deadline_of tasks e ≤ h → e.cost ≤ done log e.job h) = λ here.
    ⊎_elim
    (λ (r : Misses tasks xs log h). inl (r.0, inr r.1, r.2))
    (λ (r : (e : PlanItem) → Has xs e → deadline_of tasks e ≤ h → e.cost ≤ done log e.job h). inr (λ e is by. ⊎_elim
    (λ (q : e ≡ x).
    let P : PlanItem → Type 0 = λ y. deadline_of tasks y ≤ h → y.cost ≤ done log y.job h in
    subst P (sym q) (λ b. ⊎_elim (λ (l : x.cost ≤ done log x.job h). l) (λ (l : h < d). absurd (omega arith)) here) by)
    (λ (k : Has xs e). r e k by) is))
    (miss_or_done tasks log h xs) in
    ⊎_elim
    (λ (l : h < d). kept (inr l))
    (λ (l : d ≤ h). ⊎_elim
    (λ (m : done log x.job d < x.cost). inl (x, inl refl, record { due = l; short = m }))
    (λ (m : x.cost ≤ done log x.job d). let g = done_grows log x.job d h l in kept (inl (omega arith)))
    (cases_lt (done log x.job d) x.cost))
    (cases_lt h d)
