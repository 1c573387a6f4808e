-- The busy interval before a miss: where a set fits it would be too short for what was due in it.
use Rattle.std.proofs.Common.{◌≡◌, ℕ, zero, suc, ◌+◌, ◌-◌, ◌<◌, ◌≤◌, ◌⊎◌, List, length, Option, Some, None, refl, sym, ap, subst, ◌∙◌, inl, inr, ⊎_elim, arith}
use Rattle.std.proofs.lemmas.Bool.{cases_lt, cases_eq, cases_order}
use Rattle.yt_set.specs.declared.task.Task.{Task}
use Rattle.yt_log.specs.declared.job.Job.{Job}
use Rattle.yt_log.specs.declared.plan.PlanItem.{PlanItem}
use Rattle.yt_log.specs.Tasks.{Has}
use Rattle.yt_log.specs.Plan.{its_task, deadline_of, IsLegal}
use Rattle.yt_log.specs.Ticks.{Ticks, tick, done, first_tick, IsWaiting}
use Rattle.yt_log.specs.EdfDdm.{current_deadline, IsEdfDdm}
use Rattle.yt_log.proofs.Forms.{AreUsable, demand}
use Rattle.yt_log.proofs.Floors.{BlockingFits, floor_at}
use Rattle.yt_log.proofs.Ticks.{done_yes, done_step, done_grows, tick_or_not, IsFirst, first_is}
use Rattle.yt_log.proofs.Totals.{total, total_le, total_lt, climbs}
use Rattle.yt_log.proofs.Plans.{good_item}
use Rattle.yt_log.proofs.Demands.{due, due_from, deadline_is, has_task, has_item, its_cost, due_cost}
use Rattle.yt_log.proofs.Choices.{IsChosen, chosen, current_fresh, current_free, current_held, current_le}
use Rattle.yt_log.proofs.Runs.{chosen_item, capped, running, conserving}
use Rattle.yt_log.proofs.Searches.{search_items}

module _ (tasks : List Task) (set : AreUsable tasks) (plan : List PlanItem) (legal : IsLegal tasks plan) (log : Ticks) (rule : IsEdfDdm tasks plan log) (t : ℕ) where
  -- a tick goes to an item that arrived at x or later and is due by t
  pub record IsUrgent (x u : ℕ) : Type 0 where
    pub item : PlanItem
    pub has : Has plan item
    pub names : tick log u ≡ Some item.job
    pub arrival : x ≤ item.arrival
    pub due : deadline_of tasks item ≤ t

  -- what was done by u of the items that arrived at x or later and are due by t
  ran : ℕ → ℕ → ℕ
  ran x u = total (due tasks x t) (λ i. done log i.job u) plan

  ran_more : (x u : ℕ) → ran x u ≤ ran x (suc u)
  unfolding ran
  ran_more x u = total_le (due tasks x t) (due tasks x t) (λ i. done log i.job u) (λ i. done log i.job (suc u)) plan (λ i is h. (h, (done_step log i.job u).0))

  ran_urgent : (x u : ℕ) → IsUrgent x u → ran x u < ran x (suc u)
  unfolding ran
  ran_urgent x u k =
      let s = done_yes log k.item.job u k.names in
      total_lt (due tasks x t) (λ i. done log i.job u) (λ i. done log i.job (suc u)) plan (λ i is h. (done_step log i.job u).0) k.item k.has (due_from tasks x t k.item k.arrival k.due) (omega arith)

  ran_less : (x : ℕ) → x ≤ t → (m : PlanItem) → Has plan m → x ≤ m.arrival → deadline_of tasks m ≤ t → done log m.job t < m.cost → ran x t < demand tasks (t - x)
  unfolding ran
  ran_less x le m is arrival by missed =
      let lt = total_lt (due tasks x t) (λ i. done log i.job t) its_cost plan (λ i has h. capped tasks plan legal log rule i has t) m is (due_from tasks x t m arrival by) missed in
      let all = due_cost tasks set plan legal x t le in
      omega arith

  -- a span in which each tick is urgent or counts for ψ
  span : (ψ : ℕ → ℕ) (from x : ℕ) → from ≤ t → x ≤ t → ((u : ℕ) → ψ u ≤ ψ (suc u)) → ((u : ℕ) → from ≤ u → u < t → (ψ u < ψ (suc u)) ⊎ IsUrgent x u) →
      (m : PlanItem) → Has plan m → x ≤ m.arrival → deadline_of tasks m ≤ t → done log m.job t < m.cost → t + ψ from < from + ψ t + demand tasks (t - x)
  span ψ from x a b grows each m is arrival by missed =
      let φ : ℕ → ℕ = λ u. ψ u + ran x u in
      let up = climbs φ from t a (λ u c d. ⊎_elim
      (λ (l : ψ u < ψ (suc u)). let r = ran_more x u in omega arith)
      (λ (k : IsUrgent x u). let r = ran_urgent x u k in let g = grows u in omega arith)
      (each u c d)) in
      let less = ran_less x b m is arrival by missed in
      omega arith

  -- with no urgent item from before x there is no miss
  fresh_span : ((s : ℕ) → 1 ≤ s → demand tasks s ≤ s) → (x : ℕ) → ((u : ℕ) → x ≤ u → u < t → IsUrgent x u) → (m : PlanItem) → Has plan m → x ≤ m.arrival → deadline_of tasks m ≤ t → done log m.job t < m.cost → ⊥
  fresh_span fits x each m is arrival by missed =
      let g = good_item tasks plan legal m is in
      let w = (set (its_task tasks m) (has_task tasks m.job.task g.from_one g.in_set)).due in
      let d = deadline_is tasks m in
      let s = span (λ u. 0) x x (omega arith) (omega arith) (λ u. omega arith) (λ u a b. inr (each u a b)) m is arrival by missed in
      let f = fits (t - x) (omega arith) in
      omega arith

  -- a tick that is idle, or that goes to an item due later than t
  Other : ℕ → Type 0
  Other u = (tick log u ≡ None) ⊎ ((i : PlanItem) × (Has plan i) × (tick log u ≡ Some i.job) × (t < deadline_of tasks i))

  classify_at : (u : ℕ) (o : Option Job) → tick log u ≡ o → IsUrgent 0 u ⊎ Other u
  unfolding Other
  classify_at u None e = inr (inl e)
  classify_at u (Some j) e =
      let c = chosen tasks plan log rule u j e in
      let i = c.0 in
      let named : tick log u ≡ Some i.job = e ∙ ap (λ (x : Job). Some x) (sym c.1) in
      ⊎_elim
      (λ (l : t < deadline_of tasks i). inr (inr (i, c.2.has, named, l)))
      (λ (l : deadline_of tasks i ≤ t). inl (record { item = i; has = c.2.has; names = named; arrival = omega arith; due = l }))
      (cases_lt t (deadline_of tasks i))

  classify : (u : ℕ) → IsUrgent 0 u ⊎ Other u
  classify u = classify_at u (tick log u) refl

  -- the last tick below n that is not urgent
  last_other : (n : ℕ) → ((u : ℕ) → u < n → IsUrgent 0 u) ⊎ ((s : ℕ) × (s < n) × (Other s) × ((u : ℕ) → s < u → u < n → IsUrgent 0 u))
  last_other zero = inl (λ u h. absurd (omega arith))
  last_other (suc n) =
      let upto : (s : ℕ) → ((u : ℕ) → s ≤ u → u < n → IsUrgent 0 u) → IsUrgent 0 n → (u : ℕ) → s ≤ u → u < suc n → IsUrgent 0 u =
      λ s below here u a b. ⊎_elim (λ (l : u < n). below u a l) (λ (l : n ≤ u). let e : n ≡ u = omega arith in let P : ℕ → Type 0 = λ v. IsUrgent 0 v in subst P e here) (cases_lt u n) in
      ⊎_elim
      (λ (k : IsUrgent 0 n). ⊎_elim
      (λ (all : (u : ℕ) → u < n → IsUrgent 0 u). inl (λ u h. upto 0 (λ v a b. all v b) k u (omega arith) h))
      (λ (r : (s : ℕ) × (s < n) × (Other s) × ((u : ℕ) → s < u → u < n → IsUrgent 0 u)).
      let below = r.1 in
      inr (r.0, omega arith, r.2, λ u a b. upto (suc r.0) (λ v c d. r.3 v c d) k u a b))
      (last_other n))
      (λ (o : Other n). inr (n, omega arith, o, λ u a b. absurd (omega arith)))
      (classify n)

  -- a begun item whose current deadline is t or earlier, though its own is later
  pub record IsHeld (i : PlanItem) (u : ℕ) : Type 0 where
    pub begun : 0 < done log i.job u
    pub resource : 0 < (its_task tasks i).resource
    pub early : first_tick log i.job u + 1 + floor_at tasks (its_task tasks i) ≤ t

  held_from : (i : PlanItem) → Has plan i → (u : ℕ) → current_deadline tasks log u i ≤ t → t < deadline_of tasks i → IsHeld i u
  held_from i is u a b =
      ⊎_elim
      (λ (z : done log i.job u ≡ 0). let e = current_fresh tasks log u i z in absurd (omega arith))
      (λ (nz : done log i.job u ≡ 0 → ⊥). ⊎_elim
      (λ (z : (its_task tasks i).resource ≡ 0). let e = current_free tasks log u i z in absurd (omega arith))
      (λ (nr : (its_task tasks i).resource ≡ 0 → ⊥).
      let p : 0 < done log i.job u = omega arith in
      let q : 0 < (its_task tasks i).resource = omega arith in
      let e = current_held tasks log u i (has_item tasks plan legal i is) p q in
      record { begun = p; resource = q; early = omega arith })
      (cases_eq (its_task tasks i).resource 0))
      (cases_eq (done log i.job u) 0)

  -- an item j that is not urgent holds its resource at s, from the tick b on
  module _ (end : t ≤ length log) (j : PlanItem) (has_j : Has plan j) (late : t < deadline_of tasks j) (s : ℕ) (s_t : s < t) (named : tick log s ≡ Some j.job) (held : IsHeld j s) where
    b : ℕ
    b = first_tick log j.job s

    b_is : IsFirst log j.job b s
    unfolding b
    b_is = first_is log j.job s held.begun

    at_b : IsChosen tasks plan log b j
    at_b = chosen_item tasks plan legal log rule j has_j b b_is.names

    at_s : IsChosen tasks plan log s j
    at_s = chosen_item tasks plan legal log rule j has_j s named

    -- no urgent item waits at b
    quiet : (k : PlanItem) → Has plan k → IsWaiting log b k → current_deadline tasks log b k ≤ t → ⊥
    quiet k is w early =
        let e = current_fresh tasks log b j b_is.fresh in
        let c = at_b.earliest k is w in
        omega arith

    -- an urgent item that waits later arrived after b
    arrives_after : (k : PlanItem) → Has plan k → deadline_of tasks k ≤ t → (u : ℕ) → b ≤ u → done log k.job u < k.cost → suc b ≤ k.arrival
    arrives_after k is by u le unfinished =
        ⊎_elim
        (λ (l : b < k.arrival). l)
        (λ (l : k.arrival ≤ b).
        let g = done_grows log k.job b u le in
        let c = current_le tasks log b k in
        absurd (quiet k is (record { arrived = l; unfinished = omega arith }) (omega arith)))
        (cases_lt b k.arrival)

    -- after b, j holds its resource until s
    record Holds (u : ℕ) : Type 0 where
      waiting : IsWaiting log u j
      early : current_deadline tasks log u j ≤ t

    holds : (u : ℕ) → b < u → u ≤ s → Holds u
    unfolding b
    holds u lt le =
        let r = running tasks plan legal log rule j has_j s held.begun u s lt le le at_s.waiting.unfinished in
        let e = current_held tasks log u j (has_item tasks plan legal j has_j) r.begun held.resource in
        let f = r.first in
        let h = held.early in
        record { waiting = r.waiting; early = omega arith }

    -- no third item runs from b to s
    no_third : (k : PlanItem) → Has plan k → t < deadline_of tasks k → (u : ℕ) → b < u → u ≤ s → tick log u ≡ Some k.job → (k.job ≡ j.job → ⊥) → ⊥
    no_third k is late_k u lt le e other =
        let w = holds u lt le in
        let c = chosen_item tasks plan legal log rule k is u e in
        let first = c.earliest j has_j w.waiting in
        let early = w.early in
        let h = held_from k is u (omega arith) late_k in
        let f = first_is log k.job u h.begun in
        let d = first_tick log k.job u in
        ⊎_elim
        (λ (q : d ≡ b). let x = ap (tick log) q in let y = b_is.names in let z = f.names in other (cc))
        (λ (q : (d < b) ⊎ (b < d)). ⊎_elim
        (λ (l : d < b).
        let r = running tasks plan legal log rule k is u h.begun b u l (omega arith) (omega arith) c.waiting.unfinished in
        let m = current_held tasks log b k (has_item tasks plan legal k is) r.begun h.resource in
        let g = r.first in
        let n = h.early in
        quiet k is r.waiting (omega arith))
        (λ (l : b < d).
        let below = f.below in
        let v = holds d l (omega arith) in
        let a = chosen_item tasks plan legal log rule k is d f.names in
        let x = a.earliest j has_j v.waiting in
        let y = current_fresh tasks log d k f.fresh in
        let z = v.early in
        omega arith)
        q)
        (cases_order d b)

    -- each tick from b on goes to j or to an urgent item that arrived after b
    after_b : ((u : ℕ) → s < u → u < t → IsUrgent 0 u) → (u : ℕ) → b ≤ u → u < t → (done log j.job u < done log j.job (suc u)) ⊎ IsUrgent (suc b) u
    unfolding Other
    after_b urgent u le lt =
        let raised : IsUrgent 0 u → IsUrgent (suc b) u = λ k.
        let c = chosen_item tasks plan legal log rule k.item k.has u k.names in
        record { item = k.item; has = k.has; names = k.names; arrival = arrives_after k.item k.has k.due u le c.waiting.unfinished; due = k.due } in
        ⊎_elim
        (λ (l : s < u). inr (raised (urgent u l lt)))
        (λ (l : u ≤ s).
        ⊎_elim
        (λ (e : tick log u ≡ Some j.job). let d = done_yes log j.job u e in inl (omega arith))
        (λ (never : tick log u ≡ Some j.job → ⊥).
        let ne : u ≡ b → ⊥ = λ e. never (ap (tick log) e ∙ b_is.names) in
        let b_u : b < u = omega arith in
        let w = holds u b_u l in
        ⊎_elim
        (λ (k : IsUrgent 0 u). inr (raised k))
        (λ (o : (tick log u ≡ None) ⊎ ((i : PlanItem) × (Has plan i) × (tick log u ≡ Some i.job) × (t < deadline_of tasks i))). ⊎_elim
        (λ (e : tick log u ≡ None). absurd (conserving tasks plan legal log rule u (omega arith) e j has_j w.waiting))
        (λ (k : (i : PlanItem) × (Has plan i) × (tick log u ≡ Some i.job) × (t < deadline_of tasks i)).
        absurd (no_third k.0 k.1 k.3 u b_u l k.2 (λ e. never (k.2 ∙ ap (λ (x : Job). Some x) e))))
        o)
        (classify u))
        (tick_or_not log j.job u))
        (cases_lt s u)

    early_b : b + 1 + floor_at tasks (its_task tasks j) ≤ t
    unfolding b
    early_b = held.early

    -- so the blocking condition fails
    blocked : BlockingFits tasks → ((u : ℕ) → s < u → u < t → IsUrgent 0 u) → (m : PlanItem) → Has plan m → deadline_of tasks m ≤ t → done log m.job t < m.cost → ⊥
    blocked fits urgent m is by missed =
        let below = b_is.below in
        let arrival = arrives_after m is by t (omega arith) missed in
        let sp = span (done log j.job) b (suc b) (omega arith) (omega arith) (λ u. (done_step log j.job u).0) (after_b urgent) m is arrival by missed in
        let z = b_is.fresh in
        let cap = capped tasks plan legal log rule j has_j t in
        let g = good_item tasks plan legal j has_j in
        let most = g.most in
        let task = its_task tasks j in
        let early : b + 1 + floor_at tasks task ≤ t = early_b in
        let d = deadline_is tasks j in
        let arrived = at_b.waiting.arrived in
        let f = fits task (has_task tasks j.job.task g.from_one g.in_set) held.resource (t - b) (omega arith) (omega arith) in
        let e : demand tasks (t - b - 1) ≡ demand tasks (t - suc b) = ap (demand tasks) (omega arith) in
        omega arith

  -- no item misses
  pub no_miss : ((s : ℕ) → 1 ≤ s → demand tasks s ≤ s) → BlockingFits tasks → t ≤ length log → (m : PlanItem) → Has plan m → deadline_of tasks m ≡ t → done log m.job t < m.cost → ⊥
  unfolding Other
  no_miss fits blocking end m is e missed =
      ⊎_elim
      (λ (all : (u : ℕ) → u < t → IsUrgent 0 u). fresh_span fits 0 (λ u a b. all u b) m is (omega arith) (omega arith) missed)
      (λ (r : (s : ℕ) × (s < t) × ((tick log s ≡ None) ⊎ ((i : PlanItem) × (Has plan i) × (tick log s ≡ Some i.job) × (t < deadline_of tasks i))) × ((u : ℕ) → s < u → u < t → IsUrgent 0 u)).
      let s = r.0 in
      let s_t : s < t = r.1 in
      let urgent = r.3 in
      ⊎_elim
      (λ (w : (i : PlanItem) × (Has plan i) × (record { by : deadline_of tasks i ≤ t; waiting : IsWaiting log s i })).
      ⊎_elim
      (λ (n : tick log s ≡ None). conserving tasks plan legal log rule s (omega arith) n w.0 w.1 w.2.waiting)
      (λ (k : (i : PlanItem) × (Has plan i) × (tick log s ≡ Some i.job) × (t < deadline_of tasks i)).
      let j = k.0 in
      let c = chosen_item tasks plan legal log rule j k.1 s k.2 in
      let a = c.earliest w.0 w.1 w.2.waiting in
      let b = current_le tasks log s w.0 in
      let by = w.2.by in
      let held = held_from j k.1 s (omega arith) k.3 in
      blocked end j k.1 k.3 s s_t k.2 held blocking urgent m is (omega arith) missed)
      r.2)
      (λ (none : (i : PlanItem) → Has plan i → record { by : deadline_of tasks i ≤ t; waiting : IsWaiting log s i } → ⊥).
      let after : (i : PlanItem) → Has plan i → deadline_of tasks i ≤ t → (u : ℕ) → s ≤ u → done log i.job u < i.cost → suc s ≤ i.arrival = λ i has by u le unfinished.
      ⊎_elim
      (λ (l : s < i.arrival). l)
      (λ (l : i.arrival ≤ s). let g = done_grows log i.job s u le in absurd (none i has (record { by = by; waiting = record { arrived = l; unfinished = omega arith } })))
      (cases_lt s i.arrival) in
      fresh_span fits (suc s) (λ u a b.
      let k = urgent u a b in
      let c = chosen_item tasks plan legal log rule k.item k.has u k.names in
      record { item = k.item; has = k.has; names = k.names; arrival = after k.item k.has k.due u (omega arith) c.waiting.unfinished; due = k.due })
      m is (after m is (omega arith) t (omega arith) missed) (omega arith) missed)
      (search_items (λ i. record { by : deadline_of tasks i ≤ t; waiting : IsWaiting log s i }) (λ i.
      ⊎_elim
      (λ (l : t < deadline_of tasks i). inr (λ x. let y = x.by in omega arith))
      (λ (l : deadline_of tasks i ≤ t). ⊎_elim
      (λ (k : s < i.arrival). inr (λ x. let y = x.waiting.arrived in omega arith))
      (λ (k : i.arrival ≤ s). ⊎_elim
      (λ (d : done log i.job s < i.cost). inl (record { by = l; waiting = record { arrived = k; unfinished = d } }))
      (λ (d : i.cost ≤ done log i.job s). inr (λ x. let y = x.waiting.unfinished in omega arith))
      (cases_lt (done log i.job s) i.cost))
      (cases_lt s i.arrival))
      (cases_lt t (deadline_of tasks i))) plan))
      (last_other t)
