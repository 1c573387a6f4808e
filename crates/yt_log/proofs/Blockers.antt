-- Where the blocking condition fails, a plan misses: the blocker runs alone at 0, keeps its resource, and all that arrives after it is due too soon.
use Rattle.std.proofs.Common.{◌≡◌, ℕ, suc, ◌+◌, ◌-◌, ◌*◌, ◌/◌, ◌<◌, ◌≤◌, Bool, true, not, cond, eqb, List, length, Option, Some, None, refl, sym, ap, subst, ◌∙◌, ⊎_elim, arith, eq-eqb, ne_eqb}
use Rattle.std.specs.Prelude.{IsSomeAnd}
use Rattle.std.proofs.lemmas.Bool.{cases_lt, cases_eq, eqb-false, cond-true, cond-false, not-true, not_from_false}
use Rattle.std.proofs.lemmas.Nat.{le-div}
use Rattle.std.proofs.Math.Nat.{div-eq_of_lt}
use Rattle.yt_set.specs.declared.task.Task.{Task}
use Rattle.yt_set.specs.Tasks.{LacksRoom, floor_of, within, jobs_due}
use Rattle.yt_set.proofs.Lemmas.{number_bounds}
use Rattle.yt_log.specs.declared.job.Job.{Job}
use Rattle.yt_log.specs.declared.plan.PlanItem.{PlanItem}
use Rattle.yt_log.specs.Tasks.{Has, task_of}
use Rattle.yt_log.specs.Plan.{its_task, deadline_of, jobs_of}
use Rattle.yt_log.specs.Ticks.{Ticks, tick, done, first_tick, IsLawful, IsWorkConserving, IsExclusive, Misses}
use Rattle.yt_log.specs.Patterns.{pattern_plan, arrivals_from}
use Rattle.yt_log.specs.Laws.{BlockersMiss}
use Rattle.yt_log.proofs.Forms.{IsUsable, AreUsable, usable, jobs_due_is, due_within, due_within_is, demand, demand_is}
use Rattle.yt_log.proofs.Floors.{floor_at, floor_some, floor_none, floor_is}
use Rattle.yt_log.proofs.Ticks.{done-zero, done_yes, done_grows, first_is}
use Rattle.yt_log.proofs.Totals.{total, total_le, total_has, total_join}
use Rattle.yt_log.proofs.Plans.{good_item}
use Rattle.yt_log.proofs.Appends.{some_item}
use Rattle.yt_log.proofs.Demands.{of, of_parts, of_from, its_cost, has_task, task_of-suc, deadline_is, has_number, task_read}
use Rattle.yt_log.proofs.PatternPlans.{planned, IsPlanOf}
use Rattle.yt_log.proofs.Capacity.{distinct, anything, capacity, task_total, has_demand, above_zero, due_room, miss_or_done}

module _ (tasks : List Task) (set : AreUsable tasks) (i : ℕ) (from_one : 1 ≤ i) (in_set : i ≤ length tasks) (held : 0 < (task_of tasks i).resource)
    (span : ℕ) (above_floor : floor_at tasks (task_of tasks i) < span) (below : span < within (task_of tasks i)) (over : span < (task_of tasks i).cost + demand tasks (span - 1)) where
  abbrev start : ℕ → ℕ
  start n = cond (eqb n i) 0 1

  abbrev count : ℕ → ℕ
  count n = cond (eqb n i) 1 (jobs_due (task_of tasks n) (span - 1))

  abbrev plan : List PlanItem
  plan = pattern_plan (arrivals_from start count 1 tasks)

  start_i : (n : ℕ) → n ≡ i → start n ≡ 0
  start_i n e = cond-true (eqb n i) 0 1 (eq-eqb n i e)

  start_other : (n : ℕ) → (n ≡ i → ⊥) → start n ≡ 1
  start_other n ne = cond-false (eqb n i) 0 1 (ne_eqb n i ne)

  count_i : (n : ℕ) → n ≡ i → count n ≡ 1
  count_i n e = cond-true (eqb n i) 1 (jobs_due (task_of tasks n) (span - 1)) (eq-eqb n i e)

  count_other : (n : ℕ) → (n ≡ i → ⊥) → count n ≡ due_within (task_of tasks n) (span - 1)
  count_other n ne = cond-false (eqb n i) 1 (jobs_due (task_of tasks n) (span - 1)) (ne_eqb n i ne) ∙ jobs_due_is (task_of tasks n) (span - 1)

  the_task : (n : ℕ) → 1 ≤ n → n ≤ length tasks → IsUsable (task_of tasks n)
  the_task n a b = set (task_of tasks n) (has_task tasks n a b)

  made : IsPlanOf tasks set start count plan
  made = planned tasks set start count

  -- the blocker has one job
  blocks_once : jobs_of i plan ≡ 1
  blocks_once = made.counts i from_one in_set ∙ count_i i refl

  -- and each other task its part of the demand
  others_come : (n : ℕ) → 1 ≤ n → n ≤ length tasks → (n ≡ i → ⊥) → jobs_of n plan ≡ due_within (task_of tasks n) (span - 1)
  others_come n a b ne = made.counts n a b ∙ count_other n ne

  -- the others are due by span
  others_due : (e : PlanItem) → Has plan e → (e.job.task ≡ i → ⊥) → deadline_of tasks e ≤ span
  others_due e is ne =
      let g = good_item tasks plan made.legal e is in
      let n = e.job.task in
      let s = start_other n ne in
      let b = the_task n g.from_one g.in_set in
      let r = due_room (its_task tasks e) (span - 1) b in
      let k = made.items e is in
      let c = count_other n ne in
      let m : count n * (its_task tasks e).period ≡ due_within (task_of tasks n) (span - 1) * (its_task tasks e).period = ap (λ (z : ℕ). z * (its_task tasks e).period) c in
      let a = k.apart in
      let d = deadline_is tasks e in
      omega arith

  -- an item of another task
  abbrev other : PlanItem → Bool
  other e = not (eqb e.job.task i)

  other_true : (e : PlanItem) → (e.job.task ≡ i → ⊥) → other e ≡ true
  other_true e ne = not_from_false (eqb e.job.task i) (ne_eqb e.job.task i ne)

  other_not : (e : PlanItem) → other e ≡ true → e.job.task ≡ i → ⊥
  other_not e h = eqb-false e.job.task i (not-true (eqb e.job.task i) h)

  -- the blocker's own part of the demand is none
  own_part : due_within (task_of tasks i) (span - 1) ≡ 0
  own_part = let is = the_task i from_one in_set in let p = is.in_period in due_within_is (task_of tasks i) (span - 1) ∙ div-eq_of_lt (omega arith)

  others_cost : demand tasks (span - 1) ≤ total other its_cost plan
  others_cost =
      let low = has_demand other plan (span - 1) tasks 0 (λ m lt.
      let n = suc m in
      let P : Task → Type 0 = λ τ. due_within τ (span - 1) * τ.cost ≤ total (of other (suc (0 + m))) its_cost plan in
      subst P (task_of-suc tasks m) (⊎_elim
      (λ (e : n ≡ i).
      let z : due_within (task_of tasks n) (span - 1) ≡ 0 = ap (λ (k : ℕ). due_within (task_of tasks k) (span - 1)) e ∙ own_part in
      let y : due_within (task_of tasks n) (span - 1) * (task_of tasks n).cost ≡ 0 * (task_of tasks n).cost = ap (λ (k : ℕ). k * (task_of tasks n).cost) z in
      omega arith)
      (λ (ne : n ≡ i → ⊥).
      let c = others_come n (omega arith) (omega arith) ne in
      let each = task_total other n (task_of tasks n).cost plan (λ e is q. (
        other_true e (λ x. ne (sym q ∙ x)),
        let f = (made.items e is).full in
            let s : (its_task tasks e).cost ≡ (task_of tasks n).cost = ap (λ (z : ℕ). (task_of tasks z).cost) q in
            omega arith,
      )) in
      let x : jobs_of n plan * (task_of tasks n).cost ≡ due_within (task_of tasks n) (span - 1) * (task_of tasks n).cost = ap (λ (z : ℕ). z * (task_of tasks n).cost) c in
      let y : total (of other n) its_cost plan ≡ total (of other (suc (0 + m))) its_cost plan = ap (λ (z : ℕ). total (of other z) its_cost plan) (omega arith) in
      omega arith)
      (cases_eq n i))) in
      let up = above_zero other plan in
      omega arith

  -- the blocker's item arrives at 0 and costs all that it may
  record IsBlocker (e : PlanItem) : Type 0 where
    has : Has plan e
    task : e.job.task ≡ i
    arrival : e.arrival ≡ 0
    cost : e.cost ≡ (task_of tasks i).cost
    some : 1 ≤ e.cost

  blocker_item : (e : PlanItem) → Has plan e → e.job.task ≡ i → IsBlocker e
  blocker_item e is q =
      let k = made.items e is in
      let a = k.apart in
      let s = start_i e.job.task q in
      let m : count e.job.task * (its_task tasks e).period ≡ 1 * (its_task tasks e).period = ap (λ (z : ℕ). z * (its_task tasks e).period) (count_i e.job.task q) in
      let c : (its_task tasks e).cost ≡ (task_of tasks i).cost = ap (λ (z : ℕ). (task_of tasks z).cost) q in
      let f = k.full in
      let g = (good_item tasks plan made.legal e is).some in
      record { has = is; task = q; arrival = omega arith; cost = omega arith; some = g }

  -- the item that the first tick goes to
  record Begins (log : Ticks) : Type 0 where
    item : PlanItem
    blocks : IsBlocker item
    names : tick log 0 ≡ Some item.job

  begins_at : (log : Ticks) → 0 < length log → IsLawful plan log → IsWorkConserving plan log → (o : Option Job) → tick log 0 ≡ o → Begins log
  begins_at log long lawful conserving None e =
      let j = blocks_once in
      let r = some_item i plan (omega arith) in
      let b = blocker_item r.0 r.1 r.2 in
      let z = done-zero log r.0.job in
      let some = b.some in
      let at = b.arrival in
      absurd (conserving 0 long e r.0 r.1 (record { arrived = omega arith; unfinished = omega arith }))
  begins_at log long lawful conserving (Some job) e =
      let l = lawful 0 job e in
      let k = l.0 in
      let w = l.3.arrived in
      let named : tick log 0 ≡ Some k.job = e ∙ ap (λ (x : Job). Some x) (sym l.2) in
      ⊎_elim
      (λ (q : k.job.task ≡ i). record { item = k; blocks = blocker_item k l.1 q; names = named })
      (λ (ne : k.job.task ≡ i → ⊥). let s = start_other k.job.task ne in let b = (made.items k l.1).started in absurd (omega arith))
      (cases_eq k.job.task i)

  -- a task with the floor, another than the blocker, has an item
  record Sharer : Type 0 where
    item : PlanItem
    has : Has plan item
    apart : item.job.task ≡ i → ⊥
    resource : (its_task tasks item).resource ≡ (task_of tasks i).resource

  resource_at : (m n : ℕ) → m ≡ n → (task_of tasks m).resource ≡ (task_of tasks i).resource → (task_of tasks n).resource ≡ (task_of tasks i).resource
  resource_at m n e h = subst (λ (z : ℕ). (task_of tasks z).resource ≡ (task_of tasks i).resource) e h

  sharer_item : (n : ℕ) → (n ≡ i → ⊥) → (task_of tasks n).resource ≡ (task_of tasks i).resource → (e : PlanItem) → Has plan e → e.job.task ≡ n → Sharer
  sharer_item n ne q e is t = record { item = e; has = is; apart = λ x. ne (omega arith); resource = resource_at n e.job.task (sym t) q }

  sharer_made : (n : ℕ) → (n ≡ i → ⊥) → (task_of tasks n).resource ≡ (task_of tasks i).resource → (e : PlanItem) × (Has plan e) × (e.job.task ≡ n) → Sharer
  sharer_made n ne q r = sharer_item n ne q r.0 r.1 r.2

  sharer_of : (n : ℕ) (task : Task) → 1 ≤ n → n ≤ length tasks → task_of tasks n ≡ task → task.resource ≡ (task_of tasks i).resource → within task ≡ floor_at tasks (task_of tasks i) → Sharer
  sharer_of n task a b e r f =
      let τ = task_of tasks n in
      let w : within τ ≡ floor_at tasks (task_of tasks i) = subst (λ (x : Task). within x ≡ floor_at tasks (task_of tasks i)) (sym e) f in
      let q : τ.resource ≡ (task_of tasks i).resource = subst (λ (x : Task). x.resource ≡ (task_of tasks i).resource) (sym e) r in
      let ne : n ≡ i → ⊥ = λ x. let y : within τ ≡ within (task_of tasks i) = ap (λ (z : ℕ). within (task_of tasks z)) x in omega arith in
      let is = the_task n a b in
      let due = is.due in
      let period = is.in_period in
      let c = others_come n a b ne in
      let d : 1 ≤ (span - 1 + τ.period - within τ) / τ.period = le-div 1 (span - 1 + τ.period - within τ) τ.period (omega arith) (omega arith) in
      let g = due_within_is τ (span - 1) in
      sharer_made n ne q (some_item n plan (omega arith))

  sharer : Sharer
  sharer =
      let f = floor_is tasks (task_of tasks i).resource (within (task_of tasks i)) (omega arith) in
      let n = has_number tasks f.task f.has in
      let bounds = number_bounds tasks n.0 f.task n.1 in
      sharer_of n.0 f.task bounds.0 bounds.1 (task_read tasks n.0 f.task n.1) f.resource f.least

  module _ (log : Ticks) (long : span ≤ length log) (lawful : IsLawful plan log) (conserving : IsWorkConserving plan log) (exclusive : IsExclusive tasks plan log) where
    begins : Begins log
    begins = begins_at log (omega arith) lawful conserving (tick log 0) refl

    -- the blocker is done before the sharer begins
    blocker_done : ((e : PlanItem) → Has plan e → deadline_of tasks e ≤ span → e.cost ≤ done log e.job span) → begins.item.cost ≤ done log begins.item.job span
    blocker_done kept =
        let a = begins.item in
        let b = begins.blocks in
        let s = sharer in
        let k = s.item in
        let some = (good_item tasks plan made.legal k s.has).some in
        let all = kept k s.has (others_due k s.has s.apart) in
        let f = first_is log k.job span (omega arith) in
        let u = first_tick log k.job span in
        let u_span = f.below in
        let y = done_yes log k.job u f.names in
        let z = f.fresh in
        let first = done_yes log a.job 0 begins.names in
        let grows = done_grows log a.job 1 (suc u) (omega arith) in
        let e1 : suc 0 ≡ 1 = omega arith in
        let rest = done_grows log a.job u span (omega arith) in
        ⊎_elim
        (λ (l : done log a.job u < a.cost).
        let ra : (its_task tasks a).resource ≡ (task_of tasks i).resource = ap (λ (n : ℕ). (task_of tasks n).resource) b.task in
        let rk = s.resource in
        let same = exclusive u (omega arith) a k b.has s.has (omega arith) (ra ∙ sym rk) (record { begun = omega arith; unfinished = l }) (record { begun = omega arith; unfinished = omega arith }) in
        absurd (s.apart (ap (λ (x : Job). x.task) (sym same) ∙ b.task)))
        (λ (l : a.cost ≤ done log a.job u). omega arith)
        (cases_lt (done log a.job u) a.cost)

    blocker_misses : Misses tasks plan log span
    blocker_misses =
        ⊎_elim
        (λ (m : Misses tasks plan log span). m)
        (λ (kept : (e : PlanItem) → Has plan e → deadline_of tasks e ≤ span → e.cost ≤ done log e.job span).
        let a = begins.item in
        let b = begins.blocks in
        let d : PlanItem → ℕ = λ e. done log e.job span in
        let x = total_le other other its_cost d plan (λ e is h. (h, kept e is (others_due e is (other_not e h)))) in
        let y = total_has (of anything i) d plan a b.has (of_from anything i a b.task refl) in
        let z = total_join anything other (of anything i) d plan (λ e h. refl) (λ e h. refl) (λ e h k. other_not e h (of_parts anything i e k).0) in
        let c = capacity log plan (distinct tasks plan made.legal) span in
        let w = blocker_done kept in
        let o = others_cost in
        let cost = b.cost in
        absurd (omega arith))
        (miss_or_done tasks log span plan)

floor_below : (o : Option ℕ) (span : ℕ) → IsSomeAnd o (λ floor. floor < span) → (floor : ℕ) × (o ≡ Some floor) × (floor < span)
floor_below None span h = absurd h
floor_below (Some floor) span h = (floor, refl, h)

pub blockers : BlockersMiss
blockers tasks set i task there span lacks =
    let τ = task_of tasks i in
    let bounds = number_bounds tasks i task there in
    let a = bounds.0 in
    let b = bounds.1 in
    let here : LacksRoom tasks span τ = subst (λ (t : Task). LacksRoom tasks span t) (sym (task_read tasks i task there)) lacks in
    let floor = floor_below (floor_of tasks τ.resource) span here.0 in
    let has = has_task tasks i a b in
    let held : 0 < τ.resource =
    ⊎_elim
    (λ (z : τ.resource ≡ 0). let none = floor_none tasks τ.resource z in let both : None ≡ Some floor.0 = sym none ∙ floor.1 in cc)
    (λ (nz : τ.resource ≡ 0 → ⊥). omega arith)
    (cases_eq τ.resource 0) in
    let at : Some (floor_at tasks τ) ≡ Some floor.0 = sym (floor_some tasks τ has held) ∙ floor.1 in
    let same : floor_at tasks τ ≡ floor.0 = cc in
    let above = floor.2 in
    let low : floor_at tasks τ < span = omega arith in
    let d = demand_is tasks (span - 1) in
    let over = here.2 in
    let more : span < τ.cost + demand tasks (span - 1) = omega arith in
    let ok = usable tasks set in
    record {
      legal = (made tasks ok i a b held span low here.1 more).legal;
      misses = λ log long lawful conserving exclusive. blocker_misses tasks ok i a b held span low here.1 more log long lawful conserving exclusive;
    }
