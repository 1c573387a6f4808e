-- The last releases of a plan's tasks.
use Rattle.std.proofs.Common.{◌≡◌, ◌⊎◌, ℕ, ◌+◌, ◌<◌, ◌≤◌, cond, eqb, List, [], ◌∷◌, ◌++◌, refl, sym, ap, subst, ◌∙◌, inl, inr, ⊎_elim, arith, eq-eqb, ne_eqb}
use Rattle.std.proofs.lemmas.Bool.{cases_eq, cond-true, cond-false}
use Rattle.yt_set.specs.declared.task.Task.{Task}
use Rattle.yt_log.specs.declared.plan.PlanItem.{PlanItem}
use Rattle.yt_log.specs.Tasks.{Has}
use Rattle.yt_log.specs.Plan.{jobs_of, IsNext, IsLegalAfter, IsLegal}
use Rattle.yt_log.proofs.Lemmas.{jobs_of-cons}
use Rattle.yt_log.proofs.Lemmas.{jobs_none}
use Rattle.yt_log.specs.declared.last_jobs.LastJob.{LastJob}
use Rattle.yt_exec.specs.Moments.{no_release}
use Rattle.yt_exec.specs.StandsFor.{last_release}

abbrev of_item : PlanItem → LastJob
of_item item = record { number = item.job.number; arrival = item.arrival }

cons_yes : (last : LastJob) (n : ℕ) (x : PlanItem) (xs : List PlanItem) → x.job.task ≡ n → last_release last n (x ∷ xs) ≡ last_release (of_item x) n xs
unfolding last_release
cons_yes last n x xs e = ap (λ (r : LastJob). last_release r n xs) (cond-true (eqb x.job.task n) (of_item x) last (eq-eqb x.job.task n e))

cons_no : (last : LastJob) (n : ℕ) (x : PlanItem) (xs : List PlanItem) → (x.job.task ≡ n → ⊥) → last_release last n (x ∷ xs) ≡ last_release last n xs
unfolding last_release
cons_no last n x xs ne = ap (λ (r : LastJob). last_release r n xs) (cond-false (eqb x.job.task n) (of_item x) last (ne_eqb x.job.task n ne))

-- one item more
pub push_yes : (last : LastJob) (n : ℕ) (xs : List PlanItem) (y : PlanItem) → y.job.task ≡ n → last_release last n (xs ++ y ∷ []) ≡ record { number = y.job.number; arrival = y.arrival }
unfolding last_release
push_yes last n [] y e = cons_yes last n y [] e
push_yes last n (x ∷ xs) y e = push_yes (cond (eqb x.job.task n) (of_item x) last) n xs y e

pub push_no : (last : LastJob) (n : ℕ) (xs : List PlanItem) (y : PlanItem) → (y.job.task ≡ n → ⊥) → last_release last n (xs ++ y ∷ []) ≡ last_release last n xs
unfolding last_release
push_no last n [] y ne = cons_no last n y [] ne
push_no last n (x ∷ xs) y ne = push_no (cond (eqb x.job.task n) (of_item x) last) n xs y ne

-- an item is of a job that was released by then
pub record IsUpTo (i : PlanItem) (last : LastJob) : Type 0 where
  pub some : 1 ≤ last.number
  pub number : i.job.number ≤ last.number
  pub arrival : i.arrival ≤ last.arrival

up_to_same : (i : PlanItem) (a b : LastJob) → a ≡ b → IsUpTo i b → IsUpTo i a
up_to_same i a b e h = let P : LastJob → Type 0 = λ r. IsUpTo i r in subst P (sym e) h

-- it has the count of the task's items for its number, and none of them comes later
record IsLast (n count : ℕ) (items : List PlanItem) (last : LastJob) : Type 0 where
  number : last.number ≡ count
  latest : (i : PlanItem) → Has items i → i.job.task ≡ n → IsUpTo i last

itself : (tasks : List Task) (before : List PlanItem) (x i : PlanItem) → IsNext tasks before x → i ≡ x → IsUpTo i (of_item x)
itself tasks before x i next q = let P : PlanItem → Type 0 = λ y. IsUpTo y (of_item x) in subst P (sym q) (let n = next.number in record { some = omega arith; number = omega arith; arrival = omega arith })

last_after : (tasks : List Task) (n : ℕ) (last : LastJob) (before xs : List PlanItem) → IsLegalAfter tasks before xs → IsLast n (jobs_of n before) before last →
    (last_release last n xs).number ≡ jobs_of n before + jobs_of n xs
    × ((i : PlanItem) → Has before i ⊎ Has xs i → i.job.task ≡ n → IsUpTo i (last_release last n xs))
unfolding last_release
last_after tasks n last before [] legal is = (let z = jobs_none n in let e = is.number in omega arith, λ i has. ⊎_elim (λ (h : Has before i). is.latest i h) (λ (h : Has [] i). absurd h) has)
last_after tasks n last before (x ∷ xs) legal is =
    let c = jobs_of-cons n x xs in
    let b = jobs_of-cons n x before in
    ⊎_elim
    (λ (e : x.job.task ≡ n).
    let y : cond {A = ℕ} (eqb x.job.task n) 1 0 ≡ 1 = cond-true (eqb x.job.task n) 1 0 (eq-eqb x.job.task n e) in
    let s : jobs_of x.job.task before ≡ jobs_of n before = ap (λ (m : ℕ). jobs_of m before) e in
    let f = legal.0.number in
    let g = is.number in
    let next : IsLast n (jobs_of n (x ∷ before)) (x ∷ before) (of_item x) = record {
      number = omega arith;
      latest = λ i has same. ⊎_elim
          (λ (q : i ≡ x). itself tasks before x i legal.0 q)
          (λ (h : Has before i). let u = is.latest i h same in let o = legal.0.order i h in let v = u.number in record { some = omega arith; number = omega arith; arrival = omega arith })
          has;
    } in
    let rest = last_after tasks n (of_item x) (x ∷ before) xs legal.1 next in
    let is_rest = cons_yes last n x xs e in
    let number : (last_release last n (x ∷ xs)).number ≡ (last_release (of_item x) n xs).number = ap (λ (r : LastJob). r.number) is_rest in
    (let m = rest.0 in omega arith, λ i has same. up_to_same i _ _ is_rest (rest.1 i (⊎_elim (λ (h : Has before i). inl (inr h)) (λ (h : Has (x ∷ xs) i). ⊎_elim (λ (q : i ≡ x). inl (inl q)) (λ (k : Has xs i). inr k) h) has) same)))
    (λ (ne : x.job.task ≡ n → ⊥).
    let y : cond {A = ℕ} (eqb x.job.task n) 1 0 ≡ 0 = cond-false (eqb x.job.task n) 1 0 (ne_eqb x.job.task n ne) in
    let f = is.number in
    let next : IsLast n (jobs_of n (x ∷ before)) (x ∷ before) last = record {
      number = omega arith;
      latest = λ i has same. ⊎_elim (λ (q : i ≡ x). absurd (ne (sym (ap (λ (k : PlanItem). k.job.task) q) ∙ same))) (λ (h : Has before i). is.latest i h same) has;
    } in
    let rest = last_after tasks n last (x ∷ before) xs legal.1 next in
    let is_rest = cons_no last n x xs ne in
    let number : (last_release last n (x ∷ xs)).number ≡ (last_release last n xs).number = ap (λ (r : LastJob). r.number) is_rest in
    (let m = rest.0 in omega arith, λ i has same. up_to_same i _ _ is_rest (rest.1 i (⊎_elim (λ (h : Has before i). inl (inr h)) (λ (h : Has (x ∷ xs) i). ⊎_elim (λ (q : i ≡ x). inl (inl q)) (λ (k : Has xs i). inr k) h) has) same)))
    (cases_eq x.job.task n)

-- of a legal plan
module _ (tasks : List Task) (plan : List PlanItem) (legal : IsLegal tasks plan) (n : ℕ) where
  whole : (last_release no_release n plan).number ≡ jobs_of n [] + jobs_of n plan
      × ((i : PlanItem) → Has [] i ⊎ Has plan i → i.job.task ≡ n → IsUpTo i (last_release no_release n plan))
  whole = last_after tasks n no_release [] plan legal (record { number = sym (jobs_none n); latest = λ i has same. absurd has })

  pub last_number : (last_release no_release n plan).number ≡ jobs_of n plan
  last_number = let w = whole.0 in let z = jobs_none n in omega arith

  pub last_latest : (i : PlanItem) → Has plan i → i.job.task ≡ n → IsUpTo i (last_release no_release n plan)
  last_latest i has = whole.1 i (inr has)

-- the last release is of an item, where there was one
last_from : (last : LastJob) (n : ℕ) (xs : List PlanItem) → (last_release last n xs ≡ last) ⊎ ((e : PlanItem) × (Has xs e) × (e.job.task ≡ n) × (of_item e ≡ last_release last n xs))
unfolding last_release
last_from last n [] = inl refl
last_from last n (x ∷ xs) =
    ⊎_elim
    (λ (e : x.job.task ≡ n).
    let c = cons_yes last n x xs e in
    ⊎_elim
    (λ (q : last_release (of_item x) n xs ≡ of_item x). inr (x, inl refl, e, sym (c ∙ q)))
    (λ (q : (y : PlanItem) × (Has xs y) × (y.job.task ≡ n) × (of_item y ≡ last_release (of_item x) n xs)). inr (q.0, inr q.1, q.2, q.3 ∙ sym c))
    (last_from (of_item x) n xs))
    (λ (ne : x.job.task ≡ n → ⊥).
    let c = cons_no last n x xs ne in
    ⊎_elim
    (λ (q : last_release last n xs ≡ last). inl (c ∙ q))
    (λ (q : (y : PlanItem) × (Has xs y) × (y.job.task ≡ n) × (of_item y ≡ last_release last n xs)). inr (q.0, inr q.1, q.2, q.3 ∙ sym c))
    (last_from last n xs))
    (cases_eq x.job.task n)

pub last_item : (n : ℕ) (xs : List PlanItem) → 0 < (last_release no_release n xs).number → (e : PlanItem) × (Has xs e) × (e.job.task ≡ n) × (e.arrival ≡ (last_release no_release n xs).arrival)
last_item n xs some =
    ⊎_elim
    (λ (q : last_release no_release n xs ≡ no_release). let z : (last_release no_release n xs).number ≡ 0 = ap (λ (r : LastJob). r.number) q in absurd (omega arith))
    (λ (q : (y : PlanItem) × (Has xs y) × (y.job.task ≡ n) × (of_item y ≡ last_release no_release n xs)). (q.0, q.1, q.2, ap (λ (r : LastJob). r.arrival) q.3))
    (last_from no_release n xs)
