-- Where the demand of t ticks is more than t, a plan misses by t.
use Rattle.std.proofs.Common.{◌≡◌, ℕ, suc, ◌+◌, ◌*◌, ◌<◌, ◌≤◌, List, length, refl, ap, subst, ◌∙◌, ⊎_elim, arith}
use Rattle.yt_set.specs.declared.task.Task.{Task}
use Rattle.yt_set.specs.Tasks.{IsTaskSet, jobs_due, demand_bound, hyperperiod}
use Rattle.yt_log.specs.declared.plan.PlanItem.{PlanItem}
use Rattle.yt_log.specs.Tasks.{Has, task_of}
use Rattle.yt_log.specs.Plan.{its_task, deadline_of, jobs_of}
use Rattle.yt_log.specs.Ticks.{Ticks, done, Misses}
use Rattle.yt_log.specs.Patterns.{pattern_plan, arrivals_from, all_tasks, MustMiss}
use Rattle.yt_log.specs.Laws.{OverloadsMiss}
use Rattle.yt_log.proofs.Forms.{IsUsable, AreUsable, usable, due_within, jobs_due_is, demand, demand_is, work_is, divides}
use Rattle.yt_log.proofs.Totals.{total, total_le}
use Rattle.yt_log.proofs.Plans.{good_item}
use Rattle.yt_log.proofs.Demands.{of, its_cost, has_task, task_of-suc, deadline_is}
use Rattle.yt_log.proofs.Periods.{demand-add, demand-zero}
use Rattle.yt_log.proofs.PatternPlans.{planned, IsPlanOf}
use Rattle.yt_log.proofs.Capacity.{distinct, anything, capacity, task_total, has_demand, above_zero, jobs_room, miss_or_done}

module _ (tasks : List Task) (set : AreUsable tasks) (t : ℕ) (over : t < demand tasks t) where
  abbrev start : ℕ → ℕ
  start n = 0

  abbrev count : ℕ → ℕ
  count n = jobs_due (task_of tasks n) t

  abbrev plan : List PlanItem
  plan = pattern_plan (arrivals_from start count 1 tasks)

  the_task : (n : ℕ) → 1 ≤ n → n ≤ length tasks → IsUsable (task_of tasks n)
  the_task n a b = set (task_of tasks n) (has_task tasks n a b)

  made : IsPlanOf tasks set start count plan
  made = planned tasks set start count

  -- each item is due by t
  all_due : (e : PlanItem) → Has plan e → deadline_of tasks e ≤ t
  all_due e is =
      let g = good_item tasks plan made.legal e is in
      let b = the_task e.job.task g.from_one g.in_set in
      let r = jobs_room (its_task tasks e) t b in
      let k = made.items e is in
      let a = k.apart in
      let d = deadline_is tasks e in
      omega arith

  all_cost : demand tasks t ≤ total anything its_cost plan
  all_cost =
      let low = has_demand anything plan t tasks 0 (λ m lt.
      let n = suc m in
      let b = the_task n (omega arith) (omega arith) in
      let r = jobs_room (task_of tasks n) t b in
      let w = b.due in
      let c = made.counts n (omega arith) (omega arith) in
      let each = task_total anything n (task_of tasks n).cost plan (λ e is q. (
        refl,
        let f = (made.items e is).full in
            let s : (its_task tasks e).cost ≡ (task_of tasks n).cost = ap (λ (z : ℕ). (task_of tasks z).cost) q in
            omega arith,
      )) in
      let P : Task → Type 0 = λ τ. due_within τ t * τ.cost ≤ total (of anything (suc (0 + m))) its_cost plan in
      let x : jobs_of n plan * (task_of tasks n).cost ≡ due_within (task_of tasks n) t * (task_of tasks n).cost = ap (λ (z : ℕ). z * (task_of tasks n).cost) (c ∙ jobs_due_is (task_of tasks n) t) in
      let y : total (of anything n) its_cost plan ≡ total (of anything (suc (0 + m))) its_cost plan = ap (λ (z : ℕ). total (of anything z) its_cost plan) (omega arith) in
      subst P (task_of-suc tasks m) (omega arith)) in
      let up = above_zero anything plan in
      omega arith

  misses_at : (log : Ticks) → Misses tasks plan log t
  misses_at log =
      ⊎_elim
      (λ (m : Misses tasks plan log t). m)
      (λ (d : (e : PlanItem) → Has plan e → deadline_of tasks e ≤ t → e.cost ≤ done log e.job t).
      let a = total_le anything anything its_cost (λ i. done log i.job t) plan (λ e is h. (refl, d e is (all_due e is))) in
      let b = capacity log plan (distinct tasks plan made.legal) t in
      let c = all_cost in
      absurd (omega arith))
      (miss_or_done tasks log t plan)

overload : (tasks : List Task) → IsTaskSet tasks → (t : ℕ) → t < demand_bound tasks t → MustMiss tasks (pattern_plan (all_tasks tasks t)) t
overload tasks set t over =
    let is = usable tasks set in
    let d = demand_is tasks t in
    let more : t < demand tasks t = omega arith in
    record { legal = (made tasks is t more).legal; misses = λ log long lawful conserving exclusive. misses_at tasks is t more log }

pub overloads : OverloadsMiss
overloads = record {
  demand = overload;
  load = λ tasks set over.
      let h = hyperperiod tasks in
      let is = usable tasks set in
      let a = demand-add tasks 0 h is (divides tasks set) in
      let z = demand-zero tasks is in
      let e : demand tasks (0 + h) ≡ demand tasks h = ap (demand tasks) (omega arith) in
      let d = demand_is tasks h in
      let w = work_is tasks h in
      overload tasks set h (omega arith);
}
