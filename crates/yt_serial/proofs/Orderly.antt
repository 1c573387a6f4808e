-- Jobs that come in the order of their numbers make a legal plan, once they are in order of arrival.
use Rattle.std.proofs.Common.{◌≡◌, ℕ, ◌+◌, ◌≤◌, cond, eqb, List, [], ◌∷◌, ◌++◌, refl, sym, subst, inl, inr, ⊎_elim, arith, eq-eqb, ne_eqb}
use Rattle.std.proofs.lemmas.Bool.{cond-true, cond-false}
use Rattle.yt_set.specs.declared.task.Task.{Task}
use Rattle.yt_log.specs.declared.plan.PlanItem.{PlanItem}
use Rattle.yt_order.specs.Sorting.{sort_by}
use Rattle.yt_log.specs.Patterns.{item_before}
use Rattle.yt_log.specs.Plan.{its_task, jobs_of, IsLegal}
use Rattle.yt_log.specs.Tasks.{Has}
use Rattle.yt_log.proofs.Lemmas.{has_push, jobs_none}
use Rattle.yt_log.proofs.Lemmas.{IsLegalFrom, legal_whole, legal_insert}
use Rattle.yt_log.proofs.Lemmas.{has_sorted}
use Rattle.yt_log.proofs.Lemmas.{IsGood, jobs_of-cons}

-- the counts of jobs with one job more
abbrev pub more : (ℕ → ℕ) → PlanItem → ℕ → ℕ
more off x m = off m + cond (eqb x.job.task m) 1 0

-- an item may come after as many of its task as are counted, and before these
pub record IsFirstOf (off : ℕ → ℕ) (tasks : List Task) (x : PlanItem) (xs : List PlanItem) : Type 0 where
  pub good : IsGood tasks x
  pub period : 1 ≤ (its_task tasks x).period
  pub number : x.job.number ≡ 1 + off x.job.task
  pub later : (z : PlanItem) → Has xs z → z.job.task ≡ x.job.task → x.arrival + (its_task tasks z).period ≤ z.arrival

-- each task's jobs come in the order of their numbers, at least its period apart
abbrev pub AreOrderly : (ℕ → ℕ) → List Task → List PlanItem → Type 0
AreOrderly off tasks [] = Unit {0}
AreOrderly off tasks (x ∷ xs) = IsFirstOf off tasks x xs × AreOrderly (more off x) tasks xs

sorted : (off : ℕ → ℕ) (tasks : List Task) (xs : List PlanItem) → AreOrderly off tasks xs → IsLegalFrom off tasks [] (sort_by item_before xs)
sorted off tasks [] orderly = tt
sorted off tasks (x ∷ xs) orderly =
    let first = orderly.0 in
    let n = first.number in
    let here : cond {A = ℕ} (eqb x.job.task x.job.task) 1 0 ≡ 1 = cond-true (eqb x.job.task x.job.task) 1 0 (eq-eqb x.job.task x.job.task refl) in
    legal_insert (more off x) off tasks x first.good first.period (omega arith)
    (λ m ne. let other : cond {A = ℕ} (eqb x.job.task m) 1 0 ≡ 0 = cond-false (eqb x.job.task m) 1 0 (ne_eqb x.job.task m (λ e. ne (sym e))) in omega arith)
    (omega arith) (sort_by item_before xs)
    (λ z is s. first.later z (has_sorted item_before xs z is) s)
    (sorted (more off x) tasks xs orderly.1)

abbrev pub none : ℕ → ℕ
none m = 0

pub sorted_legal : (tasks : List Task) (xs : List PlanItem) → AreOrderly none tasks xs → IsLegal tasks (sort_by item_before xs)
sorted_legal tasks xs orderly = legal_whole none tasks [] (sort_by item_before xs) (λ m. refl) (sorted none tasks xs orderly)

-- one more job
pub orderly_push : (off : ℕ → ℕ) (tasks : List Task) (xs : List PlanItem) (y : PlanItem) → IsGood tasks y → 1 ≤ (its_task tasks y).period
    → y.job.number ≡ 1 + (off y.job.task + jobs_of y.job.task xs)
    → ((z : PlanItem) → Has xs z → z.job.task ≡ y.job.task → z.arrival + (its_task tasks y).period ≤ y.arrival)
    → AreOrderly off tasks xs → AreOrderly off tasks (xs ++ y ∷ [])
orderly_push off tasks [] y good period number apart orderly =
    let n = jobs_none y.job.task in
    (record { good = good; period = period; number = omega arith; later = λ z is s. absurd is }, tt)
orderly_push off tasks (x ∷ xs) y good period number apart orderly =
    let c = jobs_of-cons y.job.task x xs in (
      record {
        good = orderly.0.good;
        period = orderly.0.period;
        number = orderly.0.number;
        later = λ z is s. ⊎_elim
            (λ (k : Has xs z). orderly.0.later z k s)
            (λ (q : z ≡ y).
            let P : PlanItem → Type 0 = λ w. w.job.task ≡ x.job.task → x.arrival + (its_task tasks w).period ≤ w.arrival in
            subst P (sym q) (λ t. apart x (inl refl) (sym t)) s)
            (has_push xs y z is);
      },
      orderly_push (more off x) tasks xs y good period (omega arith) (λ z is s. apart z (inr is) s) orderly.1,
    )
