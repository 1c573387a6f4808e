-- Jobs put into a legal plan, each in front of the later ones of its task.
use Rattle.std.proofs.Common.{◌≡◌, ℕ, ◌+◌, ◌≤◌, ◌⊎◌, true, false, cond, eqb, List, [], ◌∷◌, refl, sym, ap, subst, inl, inr, ⊎_elim, arith, eq-eqb, ne_eqb}
use Rattle.std.proofs.lemmas.Bool.{cases_Bool, cases_eq, cond-true, cond-false}
use Rattle.yt_set.specs.declared.task.Task.{Task}
use Rattle.yt_log.specs.declared.plan.PlanItem.{PlanItem}
use Rattle.yt_log.specs.Tasks.{Has, task_of}
use Rattle.yt_log.specs.Plan.{its_task, jobs_of, IsLegalAfter}
use Rattle.yt_order.specs.Sorting.{insert_by}
use Rattle.yt_order.proofs.Lemmas.{first_no_greater, first_no_less, insert_behind, insert_in_front}
use Rattle.yt_log.specs.Patterns.{item_before}
use Rattle.yt_log.proofs.Plans.{IsGood, jobs_of-cons}
use Rattle.yt_log.proofs.Appends.{jobs_none}

-- an item may follow those before it and, of each task, as many as `off` says
pub record IsNextFrom (off : ℕ → ℕ) (tasks : List Task) (before : List PlanItem) (item : PlanItem) : Type 0 where
  pub good : IsGood tasks item
  pub number : item.job.number ≡ 1 + (off item.job.task + jobs_of item.job.task before)
  pub order : (earlier : PlanItem) → Has before earlier → earlier.arrival ≤ item.arrival
  pub apart : (earlier : PlanItem) → Has before earlier → earlier.job.task ≡ item.job.task → earlier.arrival + (its_task tasks item).period ≤ item.arrival

abbrev pub IsLegalFrom : (ℕ → ℕ) → List Task → List PlanItem → List PlanItem → Type 0
IsLegalFrom off tasks before [] = Unit {0}
IsLegalFrom off tasks before (item ∷ items) = IsNextFrom off tasks before item × IsLegalFrom off tasks (item ∷ before) items

-- a legal plan misses none
pub legal_whole : (off : ℕ → ℕ) (tasks : List Task) (before xs : List PlanItem) → ((m : ℕ) → off m ≡ 0) → IsLegalFrom off tasks before xs → IsLegalAfter tasks before xs
legal_whole off tasks before [] none legal = tt
legal_whole off tasks before (x ∷ xs) none legal = (
  record {
    from_one = legal.0.good.from_one;
    in_set = legal.0.good.in_set;
    number = let z = none x.job.task in let n = legal.0.number in omega arith;
    order = legal.0.order;
    apart = legal.0.apart;
    some = legal.0.good.some;
    most = legal.0.good.most;
  },
  legal_whole off tasks (x ∷ before) xs none legal.1,
)

-- only what is missing of the tasks in the plan counts
pub legal_same : (off off' : ℕ → ℕ) (tasks : List Task) (before xs : List PlanItem) → ((e : PlanItem) → Has xs e → off' e.job.task ≡ off e.job.task) → IsLegalFrom off tasks before xs → IsLegalFrom off' tasks before xs
legal_same off off' tasks before [] same legal = tt
legal_same off off' tasks before (x ∷ xs) same legal = (
  record {
    good = legal.0.good;
    number = let s = same x (inl refl) in let n = legal.0.number in omega arith;
    order = legal.0.order;
    apart = legal.0.apart;
  },
  legal_same off off' tasks (x ∷ before) xs (λ e is. same e (inr is)) legal.1,
)

-- what follows an item arrives no earlier
after_first : (off : ℕ → ℕ) (tasks : List Task) (before xs : List PlanItem) → IsLegalFrom off tasks before xs → (y z : PlanItem) → Has before y → Has xs z → y.arrival ≤ z.arrival
after_first off tasks before [] legal y z early late = absurd late
after_first off tasks before (x ∷ xs) legal y z early late =
    ⊎_elim
    (λ (e : z ≡ x). let P : PlanItem → Type 0 = λ w. y.arrival ≤ w.arrival in subst P (sym e) (legal.0.order y early))
    (λ (k : Has xs z). after_first off tasks (x ∷ before) xs legal.1 y z (inr early) k)
    late

-- one more item before those of a plan
legal_wider : (off off' : ℕ → ℕ) (tasks : List Task) (x : PlanItem) (b b' zs : List PlanItem) →
    ((e : PlanItem) → Has b' e → (e ≡ x) ⊎ Has b e) →
    ((m : ℕ) → off' m + jobs_of m b' ≡ off m + jobs_of m b) →
    ((z : PlanItem) → Has zs z → x.arrival ≤ z.arrival) →
    ((z : PlanItem) → Has zs z → z.job.task ≡ x.job.task → x.arrival + (its_task tasks z).period ≤ z.arrival) →
    IsLegalFrom off tasks b zs → IsLegalFrom off' tasks b' zs
legal_wider off off' tasks x b b' [] has counts late apart legal = tt
legal_wider off off' tasks x b b' (z ∷ zs) has counts late apart legal = (
  record {
    good = legal.0.good;
    number = let c = counts z.job.task in let n = legal.0.number in omega arith;
    order = λ e h. ⊎_elim
        (λ (q : e ≡ x). let P : PlanItem → Type 0 = λ w. w.arrival ≤ z.arrival in subst P (sym q) (late z (inl refl)))
        (λ (k : Has b e). legal.0.order e k)
        (has e h);
    apart = λ e h s. ⊎_elim
        (λ (q : e ≡ x).
        let P : PlanItem → Type 0 = λ w. w.job.task ≡ z.job.task → w.arrival + (its_task tasks z).period ≤ z.arrival in
        subst P (sym q) (λ t. apart z (inl refl) (sym t)) s)
        (λ (k : Has b e). legal.0.apart e k s)
        (has e h);
  },
  legal_wider off off' tasks x (z ∷ b) (z ∷ b') zs
      (λ e h. ⊎_elim
      (λ (q : e ≡ z). inr (inl q))
      (λ (k : Has b' e). ⊎_elim (λ (q : e ≡ x). inl q) (λ (l : Has b e). inr (inr l)) (has e k))
      h)
      (λ m. let c = counts m in let p = jobs_of-cons m z b in let q = jobs_of-cons m z b' in omega arith)
      (λ y h. late y (inr h))
      (λ y h. apart y (inr h))
      legal.1,
)

module _ (off off' : ℕ → ℕ) (tasks : List Task) (x : PlanItem) (good : IsGood tasks x) (period : 1 ≤ (its_task tasks x).period)
    (less : off x.job.task ≡ 1 + off' x.job.task) (others : (m : ℕ) → (m ≡ x.job.task → ⊥) → off' m ≡ off m) (number : x.job.number ≡ 1 + off' x.job.task) where
  -- what an item put in knows of those before it
  record IsPlace (before : List PlanItem) : Type 0 where
    order : (e : PlanItem) → Has before e → e.arrival ≤ x.arrival
    none : (e : PlanItem) → Has before e → e.job.task ≡ x.job.task → ⊥
    zero : jobs_of x.job.task before ≡ 0

  next : (before : List PlanItem) → IsPlace before → IsNextFrom off' tasks before x
  next before p = record {
    good = good;
    number = let z = p.zero in omega arith;
    order = p.order;
    apart = λ e h s. absurd (p.none e h s);
  }

  counts : (before : List PlanItem) (m : ℕ) → off' m + jobs_of m (x ∷ before) ≡ off m + jobs_of m before
  counts before m =
      let c = jobs_of-cons m x before in
      ⊎_elim
      (λ (e : x.job.task ≡ m).
      let k : cond {A = ℕ} (eqb x.job.task m) 1 0 ≡ 1 = cond-true (eqb x.job.task m) 1 0 (eq-eqb x.job.task m e) in
      let l : off m ≡ 1 + off' m = let P : ℕ → Type 0 = λ i. off i ≡ 1 + off' i in subst P e less in
      omega arith)
      (λ (ne : x.job.task ≡ m → ⊥).
      let k : cond {A = ℕ} (eqb x.job.task m) 1 0 ≡ 0 = cond-false (eqb x.job.task m) 1 0 (ne_eqb x.job.task m ne) in
      let l = others m (λ e. ne (sym e)) in
      omega arith)
      (cases_eq x.job.task m)

  insert_at : (before xs : List PlanItem) → IsPlace before →
      ((z : PlanItem) → Has xs z → z.job.task ≡ x.job.task → x.arrival + (its_task tasks z).period ≤ z.arrival) →
      IsLegalFrom off tasks before xs → IsLegalFrom off' tasks before (insert_by item_before x xs)
  insert_at before [] p apart legal = (next before p, tt)
  insert_at before (y ∷ ys) p apart legal =
      let P : List PlanItem → Type 0 = λ zs. IsLegalFrom off' tasks before zs in
      ⊎_elim
      (λ (h : item_before y x ≡ true).
      let early : y.arrival ≤ x.arrival = first_no_greater (λ (i : PlanItem). i.arrival) (λ (i : PlanItem). i.job.task) y x h in
      let ne : y.job.task ≡ x.job.task → ⊥ = λ e.
      let a = apart y (inl refl) e in
      let q : (its_task tasks y).period ≡ (its_task tasks x).period = ap (λ (m : ℕ). (task_of tasks m).period) e in
      omega arith in
      let place : IsPlace (y ∷ before) = record {
        order = λ e is. ⊎_elim (λ (q : e ≡ y). let Q : PlanItem → Type 0 = λ w. w.arrival ≤ x.arrival in subst Q (sym q) early) (λ (k : Has before e). p.order e k) is;
        none = λ e is s. ⊎_elim (λ (q : e ≡ y). let Q : PlanItem → Type 0 = λ w. w.job.task ≡ x.job.task → ⊥ in subst Q (sym q) ne s) (λ (k : Has before e). p.none e k s) is;
        zero =
            let c = jobs_of-cons x.job.task y before in
            let k : cond {A = ℕ} (eqb y.job.task x.job.task) 1 0 ≡ 0 = cond-false (eqb y.job.task x.job.task) 1 0 (ne_eqb y.job.task x.job.task ne) in
            let z = p.zero in
            omega arith;
      } in
      let first : IsNextFrom off' tasks before y = record {
        good = legal.0.good;
        number = let o = others y.job.task ne in let n = legal.0.number in omega arith;
        order = legal.0.order;
        apart = legal.0.apart;
      } in
      subst P (sym (insert_behind item_before x y ys h)) (first, insert_at (y ∷ before) ys place (λ z is. apart z (inr is)) legal.1))
      (λ (h : item_before y x ≡ false).
      let late : x.arrival ≤ y.arrival = first_no_less (λ (i : PlanItem). i.arrival) (λ (i : PlanItem). i.job.task) y x h in
      subst P (sym (insert_in_front item_before x y ys h)) (
        next before p,
        legal_wider off off' tasks x before (x ∷ before) (y ∷ ys) (λ e is. is) (counts before)
            (λ z is. ⊎_elim
            (λ (q : z ≡ y). let Q : PlanItem → Type 0 = λ w. x.arrival ≤ w.arrival in subst Q (sym q) late)
            (λ (k : Has ys z). let a = after_first off tasks (y ∷ before) ys legal.1 y z (inl refl) k in omega arith)
            is)
            apart legal,
      ))
      (cases_Bool (item_before y x))

  -- an item put into a plan
  pub legal_insert : (xs : List PlanItem) → ((z : PlanItem) → Has xs z → z.job.task ≡ x.job.task → x.arrival + (its_task tasks z).period ≤ z.arrival) →
      IsLegalFrom off tasks [] xs → IsLegalFrom off' tasks [] (insert_by item_before x xs)
  legal_insert xs apart legal = insert_at [] xs (record { order = λ e is. absurd is; none = λ e is s. is; zero = jobs_none x.job.task }) apart legal
