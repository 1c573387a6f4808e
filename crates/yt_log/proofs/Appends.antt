-- A plan with one more item at its end.
use Rattle.std.proofs.Common.{◌≡◌, ℕ, suc, ◌+◌, ◌≤◌, ◌⊎◌, cond, eqb, List, [], ◌∷◌, ◌++◌, refl, inl, inr, ⊎_elim, arith, eq-eqb, ne_eqb}
use Rattle.std.proofs.lemmas.Bool.{cases_eq, cond-true, cond-false}
use Rattle.yt_set.specs.declared.task.Task.{Task}
use Rattle.yt_log.specs.declared.plan.PlanItem.{PlanItem}
use Rattle.yt_log.specs.Tasks.{Has}
use Rattle.yt_log.specs.Plan.{jobs_of, IsNext, IsLegalAfter, IsLegal}
use Rattle.yt_log.proofs.Plans.{jobs_of-cons}

-- xs from its last item on, and then ys
unfoldable pub rev_onto : List PlanItem → List PlanItem → List PlanItem
rev_onto [] ys = ys
rev_onto (x ∷ xs) ys = rev_onto xs (x ∷ ys)

pub has_rev_onto : (xs ys : List PlanItem) (e : PlanItem) → Has (rev_onto xs ys) e → Has xs e ⊎ Has ys e
unfolding rev_onto
has_rev_onto [] ys e h = inr h
has_rev_onto (x ∷ xs) ys e h =
    ⊎_elim
    (λ (k : Has xs e). inl (inr k))
    (λ (k : (e ≡ x) ⊎ Has ys e). ⊎_elim (λ (q : e ≡ x). inl (inl q)) (λ (q : Has ys e). inr q) k)
    (has_rev_onto xs (x ∷ ys) e h)

jobs_of-nil : (n : ℕ) → jobs_of n [] ≡ 0
unfolding jobs_of
jobs_of-nil n = refl

jobs_of-rev_onto : (n : ℕ) (xs ys : List PlanItem) → jobs_of n (rev_onto xs ys) ≡ jobs_of n xs + jobs_of n ys
unfolding rev_onto
jobs_of-rev_onto n [] ys = let a = jobs_of-nil n in omega arith
jobs_of-rev_onto n (x ∷ xs) ys = let a = jobs_of-rev_onto n xs (x ∷ ys) in let b = jobs_of-cons n x ys in let c = jobs_of-cons n x xs in omega arith

pub legal_more : (tasks : List Task) (before xs : List PlanItem) (i : PlanItem) → IsLegalAfter tasks before xs → IsNext tasks (rev_onto xs before) i → IsLegalAfter tasks before (xs ++ i ∷ [])
unfolding rev_onto
legal_more tasks before [] i legal next = (next, tt)
legal_more tasks before (x ∷ xs) i legal next = (legal.0, legal_more tasks (x ∷ before) xs i legal.1 next)

pub legal_push : (tasks : List Task) (plan : List PlanItem) (i : PlanItem) → IsLegal tasks plan → IsNext tasks plan i → IsLegal tasks (plan ++ i ∷ [])
legal_push tasks plan i legal next =
    let back : (e : PlanItem) → Has (rev_onto plan []) e → Has plan e = λ e h. ⊎_elim (λ (k : Has plan e). k) (λ (k : Has [] e). absurd k) (has_rev_onto plan [] e h) in
    let a = jobs_of-rev_onto i.job.task plan [] in
    let b = jobs_of-nil i.job.task in
    let c = next.number in
    legal_more tasks [] plan i legal (record {
      from_one = next.from_one;
      in_set = next.in_set;
      number = omega arith;
      order = λ e h. next.order e (back e h);
      apart = λ e h s. next.apart e (back e h) s;
      some = next.some;
      most = next.most;
    })

pub has_push : (xs : List PlanItem) (y e : PlanItem) → Has (xs ++ y ∷ []) e → Has xs e ⊎ (e ≡ y)
has_push [] y e h = ⊎_elim (λ (q : e ≡ y). inr q) (λ (k : Has [] e). absurd k) h
has_push (x ∷ xs) y e h =
    ⊎_elim
    (λ (q : e ≡ x). inl (inl q))
    (λ (k : Has (xs ++ y ∷ []) e). ⊎_elim (λ (l : Has xs e). inl (inr l)) (λ (l : e ≡ y). inr l) (has_push xs y e k))
    h

jobs_of-push : (n : ℕ) (xs : List PlanItem) (y : PlanItem) → jobs_of n (xs ++ y ∷ []) ≡ jobs_of n xs + cond (eqb y.job.task n) 1 0
jobs_of-push n [] y = let a = jobs_of-cons n y [] in let b = jobs_of-nil n in omega arith
jobs_of-push n (x ∷ xs) y = let a = jobs_of-cons n x xs in let b = jobs_of-cons n x (xs ++ y ∷ []) in let c = jobs_of-push n xs y in omega arith

pub jobs_push_same : (n : ℕ) (xs : List PlanItem) (y : PlanItem) → y.job.task ≡ n → jobs_of n (xs ++ y ∷ []) ≡ suc (jobs_of n xs)
jobs_push_same n xs y e = let a = jobs_of-push n xs y in let c : cond {A = ℕ} (eqb y.job.task n) 1 0 ≡ 1 = cond-true (eqb y.job.task n) 1 0 (eq-eqb y.job.task n e) in omega arith

pub jobs_push_other : (n : ℕ) (xs : List PlanItem) (y : PlanItem) → (y.job.task ≡ n → ⊥) → jobs_of n (xs ++ y ∷ []) ≡ jobs_of n xs
jobs_push_other n xs y e = let a = jobs_of-push n xs y in let c : cond {A = ℕ} (eqb y.job.task n) 1 0 ≡ 0 = cond-false (eqb y.job.task n) 1 0 (ne_eqb y.job.task n e) in omega arith

pub jobs_none : (n : ℕ) → jobs_of n [] ≡ 0
jobs_none n = jobs_of-nil n

-- a task with a job has an item
pub some_item : (n : ℕ) (xs : List PlanItem) → 1 ≤ jobs_of n xs → (e : PlanItem) × (Has xs e) × (e.job.task ≡ n)
some_item n [] h = let a = jobs_of-nil n in absurd (omega arith)
some_item n (x ∷ xs) h =
    let a = jobs_of-cons n x xs in
    ⊎_elim
    (λ (e : x.job.task ≡ n). (x, inl refl, e))
    (λ (ne : x.job.task ≡ n → ⊥).
    let c : cond {A = ℕ} (eqb x.job.task n) 1 0 ≡ 0 = cond-false (eqb x.job.task n) 1 0 (ne_eqb x.job.task n ne) in
    let r = some_item n xs (omega arith) in
    (r.0, inr r.1, r.2))
    (cases_eq x.job.task n)
