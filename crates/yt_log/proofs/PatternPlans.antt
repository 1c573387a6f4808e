-- The plan of a pattern is legal, and has each of its jobs.
use Rattle.std.proofs.Common.{◌≡◌, ℕ, zero, suc, ◌+◌, ◌*◌, ◌<◌, ◌≤◌, true, false, cond, eqb, List, [], ◌∷◌, ◌++◌, length, get_or, refl, sym, ap, subst, ◌∙◌, ⊎_elim, arith, eq-eqb, ne_eqb}
use Rattle.std.proofs.lemmas.Bool.{cases_Bool, cases_eq, cond-true, cond-false}
use Rattle.yt_set.specs.declared.task.Task.{Task}
use Rattle.yt_log.specs.declared.plan.PlanItem.{PlanItem}
use Rattle.yt_log.specs.Tasks.{Has, task_of, no_task}
use Rattle.yt_log.specs.Plan.{its_task, jobs_of, IsLegal}
use Rattle.yt_order.specs.Sorting.{insert_by, sort_by}
use Rattle.yt_log.specs.Patterns.{Arrivals, jobs_arriving, all_arriving, item_before, pattern_plan, arrivals_from}
use Rattle.yt_order.proofs.Lemmas.{insert_behind, insert_in_front}
use Rattle.yt_log.proofs.Forms.{IsUsable, AreUsable}
use Rattle.yt_log.proofs.Plans.{IsGood, jobs_of-cons}
use Rattle.yt_log.proofs.Appends.{has_push, jobs_push_same, jobs_push_other, jobs_none}
use Rattle.yt_log.proofs.Demands.{has_task, task_of-suc}
use Rattle.yt_log.proofs.Members.{has_append, has_insert, has_sorted}
use Rattle.yt_log.proofs.Inserts.{IsLegalFrom, legal_whole, legal_same, legal_insert}

-- items put in, the last one first
abbrev insert_all : List PlanItem → List PlanItem → List PlanItem
insert_all [] plan = plan
insert_all (x ∷ xs) plan = insert_by item_before x (insert_all xs plan)

insert_all-append : (xs ys plan : List PlanItem) → insert_all (xs ++ ys) plan ≡ insert_all xs (insert_all ys plan)
insert_all-append [] ys plan = refl
insert_all-append (x ∷ xs) ys plan = ap (insert_by item_before x) (insert_all-append xs ys plan)

sort_append : (xs ys : List PlanItem) → sort_by item_before (xs ++ ys) ≡ insert_all xs (sort_by item_before ys)
sort_append [] ys = refl
sort_append (x ∷ xs) ys = ap (insert_by item_before x) (sort_append xs ys)

-- how many jobs of a task it has
jobs_of-insert : (m : ℕ) (x : PlanItem) (ys : List PlanItem) → jobs_of m (insert_by item_before x ys) ≡ jobs_of m (x ∷ ys)
jobs_of-insert m x [] = refl
jobs_of-insert m x (y ∷ ys) =
    ⊎_elim
    (λ (b : item_before y x ≡ true).
    let e = ap (jobs_of m) (insert_behind item_before x y ys b) in
    let r = jobs_of-insert m x ys in
    let p = jobs_of-cons m y (insert_by item_before x ys) in
    let q = jobs_of-cons m y ys in
    let s = jobs_of-cons m x ys in
    let t = jobs_of-cons m x (y ∷ ys) in
    omega arith)
    (λ (b : item_before y x ≡ false). ap (jobs_of m) (insert_in_front item_before x y ys b))
    (cases_Bool (item_before y x))

jobs_of-sort : (m : ℕ) (xs : List PlanItem) → jobs_of m (sort_by item_before xs) ≡ jobs_of m xs
jobs_of-sort m [] = refl
jobs_of-sort m (x ∷ xs) =
    let a = jobs_of-insert m x (sort_by item_before xs) in
    let b = jobs_of-sort m xs in
    let c = jobs_of-cons m x xs in
    let d = jobs_of-cons m x (sort_by item_before xs) in
    omega arith

jobs_of-append : (m : ℕ) (xs ys : List PlanItem) → jobs_of m (xs ++ ys) ≡ jobs_of m xs + jobs_of m ys
jobs_of-append m [] ys = let z = jobs_none m in omega arith
jobs_of-append m (x ∷ xs) ys =
    let a = jobs_of-append m xs ys in
    let b = jobs_of-cons m x xs in
    let c = jobs_of-cons m x (xs ++ ys) in
    omega arith

-- the jobs of one task
abbrev nth : ℕ → Arrivals → ℕ → PlanItem
nth n a k = record { job = record { task = n; number = suc k }; arrival = a.first + k * a.step; cost = a.cost }

pub record IsJobOf (n : ℕ) (a : Arrivals) (k : ℕ) (e : PlanItem) : Type 0 where
  pub task : e.job.task ≡ n
  pub started : a.first ≤ e.arrival
  pub ends : e.arrival + a.step ≤ a.first + k * a.step
  pub cost : e.cost ≡ a.cost

has_job : (n : ℕ) (a : Arrivals) (k : ℕ) (e : PlanItem) → Has (jobs_arriving n a k) e → IsJobOf n a k e
has_job n a zero e h = absurd h
has_job n a (suc k) e h =
    ⊎_elim
    (λ (l : Has (jobs_arriving n a k) e). let j = has_job n a k e l in let b = j.ends in record { task = j.task; started = j.started; ends = omega arith; cost = j.cost })
    (λ (q : e ≡ nth n a k). let P : PlanItem → Type 0 = λ w. IsJobOf n a (suc k) w in subst P (sym q) (record { task = refl; started = omega arith; ends = omega arith; cost = refl }))
    (has_push (jobs_arriving n a k) (nth n a k) e h)

jobs_same : (n : ℕ) (a : Arrivals) (k : ℕ) → jobs_of n (jobs_arriving n a k) ≡ k
jobs_same n a zero = jobs_none n
jobs_same n a (suc k) = let p = jobs_push_same n (jobs_arriving n a k) (nth n a k) refl in let r = jobs_same n a k in omega arith

jobs_other : (m n : ℕ) (a : Arrivals) (k : ℕ) → (n ≡ m → ⊥) → jobs_of m (jobs_arriving n a k) ≡ 0
jobs_other m n a zero ne = jobs_none m
jobs_other m n a (suc k) ne = let p = jobs_push_other m (jobs_arriving n a k) (nth n a k) ne in let r = jobs_other m n a k ne in omega arith

-- the jobs of a task, put into a plan of jobs that are not earlier, from the last on
module _ (tasks : List Task) (n : ℕ) (from_one : 1 ≤ n) (in_set : n ≤ length tasks) (is : IsUsable (task_of tasks n))
    (a : Arrivals) (steps : a.step ≡ (task_of tasks n).period) (costs : a.cost ≡ (task_of tasks n).cost) where
  less_one : (ℕ → ℕ) → ℕ → ℕ → ℕ
  less_one off k m = cond (eqb m n) k (off m)

  less_here : (off : ℕ → ℕ) (k m : ℕ) → m ≡ n → less_one off k m ≡ k
  unfolding less_one
  less_here off k m e = cond-true (eqb m n) k (off m) (eq-eqb m n e)

  less_other : (off : ℕ → ℕ) (k m : ℕ) → (m ≡ n → ⊥) → less_one off k m ≡ off m
  unfolding less_one
  less_other off k m ne = cond-false (eqb m n) k (off m) (ne_eqb m n ne)

  jobs_in : (k : ℕ) (off off' : ℕ → ℕ) → off n ≡ k → off' n ≡ 0 → ((m : ℕ) → (m ≡ n → ⊥) → off' m ≡ off m) → (plan : List PlanItem) →
      ((z : PlanItem) → Has plan z → z.job.task ≡ n → a.first + k * a.step ≤ z.arrival) →
      IsLegalFrom off tasks [] plan → IsLegalFrom off' tasks [] (insert_all (jobs_arriving n a k) plan)
  jobs_in zero off off' here none others plan late legal =
      legal_same off off' tasks [] plan (λ e h. ⊎_elim
      (λ (q : e.job.task ≡ n).
      let P : ℕ → Type 0 = λ m. off' m ≡ off m in
      subst P (sym q) (omega arith))
      (λ (ne : e.job.task ≡ n → ⊥). others e.job.task ne)
      (cases_eq e.job.task n)) legal
  jobs_in (suc k) off off' here none others plan late legal =
      let x = nth n a k in
      let off1 = less_one off k in
      let c = is.costs in
      let p = is.in_period in
      let d = is.due in
      let h = less_here off k n refl in
      let good : IsGood tasks x = record { from_one = from_one; in_set = in_set; some = omega arith; most = omega arith } in
      let put = legal_insert off off1 tasks x good (omega arith) (omega arith) (λ m ne. less_other off k m ne) (omega arith) plan
      (λ z is s.
      let l = late z is s in
      let q : (its_task tasks z).period ≡ (task_of tasks n).period = ap (λ (m : ℕ). (task_of tasks m).period) s in
      omega arith)
      legal in
      let more = jobs_in k off1 off' h none (λ m ne. others m ne ∙ sym (less_other off k m ne)) (insert_by item_before x plan)
      (λ z is s. ⊎_elim
      (λ (q : z ≡ x). let P : PlanItem → Type 0 = λ w. a.first + k * a.step ≤ w.arrival in subst P (sym q) (omega arith))
      (λ (m : Has plan z). let l = late z m s in omega arith)
      (has_insert item_before x plan z is))
      put in
      let P : List PlanItem → Type 0 = λ zs. IsLegalFrom off' tasks [] zs in
      subst P (sym (insert_all-append (jobs_arriving n a k) (x ∷ []) plan)) more

-- the jobs of all tasks
module _ (tasks : List Task) (set : AreUsable tasks) (start count : ℕ → ℕ) where
  -- an item of the pattern's plan
  pub record IsItemOf (e : PlanItem) : Type 0 where
    pub started : start e.job.task ≤ e.arrival
    pub apart : e.arrival + (its_task tasks e).period ≤ start e.job.task + count e.job.task * (its_task tasks e).period
    pub full : e.cost ≡ (its_task tasks e).cost

  -- the tasks from number n on
  abbrev Follow : ℕ → List Task → Type 0
  Follow n rest = (i : ℕ) → i < length rest → get_or rest i no_task ≡ task_of tasks (n + i)

  follow_more : (n : ℕ) (task : Task) (rest : List Task) → Follow n (task ∷ rest) → Follow (suc n) rest
  follow_more n task rest f i lt = f (suc i) (omega arith) ∙ ap (task_of tasks) (omega arith)

  follow_first : (n : ℕ) (task : Task) (rest : List Task) → Follow n (task ∷ rest) → task ≡ task_of tasks n
  follow_first n task rest f = f 0 (omega arith) ∙ ap (task_of tasks) (omega arith)

  abbrev of_task : ℕ → Task → Arrivals
  of_task n task = record { first = start n; step = task.period; count = count n; cost = task.cost }

  record IsFrom (n : ℕ) (e : PlanItem) : Type 0 where
    above : n ≤ e.job.task
    item : IsItemOf e

  has_item_of : (n : ℕ) (rest : List Task) → Follow n rest → (e : PlanItem) → Has (all_arriving n (arrivals_from start count n rest)) e → IsFrom n e
  has_item_of n [] f e h = absurd h
  has_item_of n (task ∷ rest) f e h =
      ⊎_elim
      (λ (l : Has (jobs_arriving n (of_task n task) (count n)) e).
      let j = has_job n (of_task n task) (count n) e l in
      let t = follow_first n task rest f in
      let q = j.task in
      let p : task.period ≡ (its_task tasks e).period = ap (λ (τ : Task). τ.period) t ∙ ap (λ (m : ℕ). (task_of tasks m).period) (sym q) in
      let c : task.cost ≡ (its_task tasks e).cost = ap (λ (τ : Task). τ.cost) t ∙ ap (λ (m : ℕ). (task_of tasks m).cost) (sym q) in
      let s : start e.job.task ≡ start n = ap start q in
      let k : count e.job.task * (its_task tasks e).period ≡ count n * task.period = ap (λ (m : ℕ). count m * (its_task tasks e).period) q ∙ ap (λ (m : ℕ). count n * m) (sym p) in
      let a = j.started in
      let b = j.ends in
      let d = j.cost in
      record { above = omega arith; item = record { started = omega arith; apart = omega arith; full = omega arith } })
      (λ (r : Has (all_arriving (suc n) (arrivals_from start count (suc n) rest)) e).
      let k = has_item_of (suc n) rest (follow_more n task rest f) e r in
      let a = k.above in
      record { above = omega arith; item = k.item })
      (has_append (jobs_arriving n (of_task n task) (count n)) (all_arriving (suc n) (arrivals_from start count (suc n) rest)) e h)

  jobs_below : (m n : ℕ) (rest : List Task) → m < n → jobs_of m (all_arriving n (arrivals_from start count n rest)) ≡ 0
  jobs_below m n [] lt = jobs_none m
  jobs_below m n (task ∷ rest) lt =
      let a = jobs_of-append m (jobs_arriving n (of_task n task) (count n)) (all_arriving (suc n) (arrivals_from start count (suc n) rest)) in
      let b = jobs_other m n (of_task n task) (count n) (λ e. absurd (omega arith)) in
      let c = jobs_below m (suc n) rest (omega arith) in
      omega arith

  jobs_at : (m n : ℕ) (rest : List Task) → n ≤ m → m < n + length rest → jobs_of m (all_arriving n (arrivals_from start count n rest)) ≡ count m
  jobs_at m n [] le lt = absurd (omega arith)
  jobs_at m n (task ∷ rest) le lt =
      let a = jobs_of-append m (jobs_arriving n (of_task n task) (count n)) (all_arriving (suc n) (arrivals_from start count (suc n) rest)) in
      ⊎_elim
      (λ (e : n ≡ m).
      let P : ℕ → Type 0 = λ i. jobs_of i (jobs_arriving n (of_task n task) (count n)) ≡ count i in
      let b : jobs_of m (jobs_arriving n (of_task n task) (count n)) ≡ count m = subst P e (jobs_same n (of_task n task) (count n)) in
      let c = jobs_below m (suc n) rest (omega arith) in
      omega arith)
      (λ (ne : n ≡ m → ⊥).
      let b = jobs_other m n (of_task n task) (count n) ne in
      let c = jobs_at m (suc n) rest (omega arith) (omega arith) in
      omega arith)
      (cases_eq n m)

  abbrev none : ℕ → ℕ
  none m = 0

  sorted_legal : (n : ℕ) (rest : List Task) → 1 ≤ n → n + length rest ≡ suc (length tasks) → Follow n rest →
      IsLegalFrom none tasks [] (sort_by item_before (all_arriving n (arrivals_from start count n rest)))
  sorted_legal n [] a b f = tt
  sorted_legal n (task ∷ rest) a b f =
      let follow = follow_more n task rest f in
      let more = all_arriving (suc n) (arrivals_from start count (suc n) rest) in
      let later = sort_by item_before more in
      let t = follow_first n task rest f in
      let is = set (task_of tasks n) (has_task tasks n a (omega arith)) in
      let off : ℕ → ℕ = λ m. cond (eqb m n) (count n) 0 in
      let above : (e : PlanItem) → Has later e → n < e.job.task = λ e h. let k = (has_item_of (suc n) rest follow e (has_sorted item_before more e h)).above in omega arith in
      let begun = legal_same none off tasks [] later (λ e h. let l = above e h in cond-false (eqb e.job.task n) (count n) 0 (ne_eqb e.job.task n (λ q. absurd (omega arith))))
      (sorted_legal (suc n) rest (omega arith) (omega arith) follow) in
      let here : off n ≡ count n = cond-true (eqb n n) (count n) 0 (eq-eqb n n refl) in
      let whole = jobs_in tasks n a (omega arith) is (of_task n task) (ap (λ (τ : Task). τ.period) t) (ap (λ (τ : Task). τ.cost) t) (count n) off none here refl
      (λ m ne. sym (cond-false (eqb m n) (count n) 0 (ne_eqb m n ne))) later
      (λ z h s. let l = above z h in absurd (omega arith)) begun in
      let P : List PlanItem → Type 0 = λ zs. IsLegalFrom none tasks [] zs in
      subst P (sym (sort_append (jobs_arriving n (of_task n task) (count n)) more)) whole

  follow_all : Follow 1 tasks
  follow_all i lt = sym (task_of-suc tasks i) ∙ ap (task_of tasks) (omega arith)

  -- what is known of the plan of the pattern
  pub record IsPlanOf (plan : List PlanItem) : Type 0 where
    pub legal : IsLegal tasks plan
    pub items : (e : PlanItem) → Has plan e → IsItemOf e
    pub counts : (m : ℕ) → 1 ≤ m → m ≤ length tasks → jobs_of m plan ≡ count m

  pub planned : IsPlanOf (pattern_plan (arrivals_from start count 1 tasks))
  planned =
      let all = all_arriving 1 (arrivals_from start count 1 tasks) in
      record {
        legal = legal_whole none tasks [] (sort_by item_before all) (λ m. refl) (sorted_legal 1 tasks (omega arith) (omega arith) follow_all);
        items = λ e h. (has_item_of 1 tasks follow_all e (has_sorted item_before all e h)).item;
        counts = λ m a b. jobs_of-sort m all ∙ jobs_at m 1 tasks a (omega arith);
      }
