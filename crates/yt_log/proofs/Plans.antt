-- What a legal plan has: its jobs differ, and the jobs of a task are apart.
use Rattle.std.proofs.Common.{◌≡◌, ℕ, ◌+◌, ◌<◌, ◌≤◌, cond, eqb, List, [], ◌∷◌, length, refl, sym, ap, subst, ◌∙◌, inl, inr, ⊎_elim, arith, eq-eqb}
use Rattle.std.proofs.lemmas.Bool.{cond-true}
use Rattle.yt_set.specs.declared.task.Task.{Task}
use Rattle.yt_log.specs.declared.job.Job.{Job}
use Rattle.yt_log.specs.declared.plan.PlanItem.{PlanItem}
use Rattle.yt_log.specs.Tasks.{Has}
use Rattle.yt_log.specs.Plan.{its_task, jobs_of, IsNext, IsLegalAfter, IsLegal}

-- what is known of an item by itself
pub record IsGood (tasks : List Task) (item : PlanItem) : Type 0 where
  pub from_one : 1 ≤ item.job.task
  pub in_set : item.job.task ≤ length tasks
  pub some : 1 ≤ item.cost
  pub most : item.cost ≤ (its_task tasks item).cost

good_at : (tasks : List Task) (x i : PlanItem) → i ≡ x → IsGood tasks x → IsGood tasks i
good_at tasks x i e g = let P : PlanItem → Type 0 = λ y. IsGood tasks y in subst P (sym e) g

pub good_after : (tasks : List Task) (before xs : List PlanItem) → IsLegalAfter tasks before xs → (i : PlanItem) → Has xs i → IsGood tasks i
good_after tasks before [] legal i is = absurd is
good_after tasks before (x ∷ xs) legal i is =
    ⊎_elim
    (λ (e : i ≡ x). good_at tasks x i e (record { from_one = legal.0.from_one; in_set = legal.0.in_set; some = legal.0.some; most = legal.0.most }))
    (λ (k : Has xs i). good_after tasks (x ∷ before) xs legal.1 i k)
    is

-- a later item of a task arrives at least a period after an earlier one
pub apart_after : (tasks : List Task) (before xs : List PlanItem) → IsLegalAfter tasks before xs → (e i : PlanItem) → Has before e → Has xs i → e.job.task ≡ i.job.task → e.arrival + (its_task tasks i).period ≤ i.arrival
apart_after tasks before [] legal e i early late same = absurd late
apart_after tasks before (x ∷ xs) legal e i early late same =
    ⊎_elim
    (λ (q : i ≡ x).
    let P : PlanItem → Type 0 = λ y. e.job.task ≡ y.job.task → e.arrival + (its_task tasks y).period ≤ y.arrival in
    subst P (sym q) (λ s. legal.0.apart e early s) same)
    (λ (k : Has xs i). apart_after tasks (x ∷ before) xs legal.1 e i (inr early) k same)
    late

-- the numbers of the items before are no more than the counts of their tasks
abbrev pub AreCounted : List PlanItem → Type 0
AreCounted before = (i : PlanItem) → Has before i → i.job.number ≤ jobs_of i.job.task before

pub jobs_of-cons : (n : ℕ) (x : PlanItem) (xs : List PlanItem) → jobs_of n (x ∷ xs) ≡ cond (eqb x.job.task n) 1 0 + jobs_of n xs
unfolding jobs_of
jobs_of-cons n x xs = refl

pub counted_more : (tasks : List Task) (before : List PlanItem) (x : PlanItem) → IsNext tasks before x → AreCounted before → AreCounted (x ∷ before)
counted_more tasks before x next counted i is =
    ⊎_elim
    (λ (e : i ≡ x).
    let P : PlanItem → Type 0 = λ y. y.job.number ≤ jobs_of y.job.task (x ∷ before) in
    let c = jobs_of-cons x.job.task x before in
    let k : cond {A = ℕ} (eqb x.job.task x.job.task) 1 0 ≡ 1 = cond-true (eqb x.job.task x.job.task) 1 0 (eq-eqb x.job.task x.job.task refl) in
    let n = next.number in
    subst P (sym e) (omega arith))
    (λ (k : Has before i). let c = jobs_of-cons i.job.task x before in let n = counted i k in omega arith)
    is

pub numbered_after : (tasks : List Task) (before xs : List PlanItem) → IsLegalAfter tasks before xs → AreCounted before → (e i : PlanItem) → Has before e → Has xs i → e.job.task ≡ i.job.task → e.job.number < i.job.number
numbered_after tasks before [] legal counted e i early late same = absurd late
numbered_after tasks before (x ∷ xs) legal counted e i early late same =
    ⊎_elim
    (λ (q : i ≡ x).
    let P : PlanItem → Type 0 = λ y. e.job.task ≡ y.job.task → e.job.number < y.job.number in
    subst P (sym q) (λ s.
    let c = counted e early in
    let n = legal.0.number in
    let k : jobs_of e.job.task before ≡ jobs_of x.job.task before = ap (λ (m : ℕ). jobs_of m before) s in
    omega arith) same)
    (λ (k : Has xs i). numbered_after tasks (x ∷ before) xs legal.1 (counted_more tasks before x legal.0 counted) e i (inr early) k same)
    late

-- two items of one job are one
one_after : (tasks : List Task) (before xs : List PlanItem) → IsLegalAfter tasks before xs → AreCounted before → (a b : PlanItem) → Has xs a → Has xs b → a.job ≡ b.job → a ≡ b
one_after tasks before [] legal counted a b ha hb e = absurd ha
one_after tasks before (x ∷ xs) legal counted a b ha hb e =
    let more = counted_more tasks before x legal.0 counted in
    ⊎_elim
    (λ (p : a ≡ x). ⊎_elim
    (λ (q : b ≡ x). p ∙ sym q)
    (λ (k : Has xs b).
    let same : x.job.task ≡ b.job.task = ap (λ (i : PlanItem). i.job.task) (sym p) ∙ ap (λ (j : Job). j.task) e in
    let number : x.job.number ≡ b.job.number = ap (λ (i : PlanItem). i.job.number) (sym p) ∙ ap (λ (j : Job). j.number) e in
    let lt = numbered_after tasks (x ∷ before) xs legal.1 more x b (inl refl) k same in
    absurd (omega arith))
    hb)
    (λ (k : Has xs a). ⊎_elim
    (λ (q : b ≡ x).
    let same : x.job.task ≡ a.job.task = ap (λ (i : PlanItem). i.job.task) (sym q) ∙ ap (λ (j : Job). j.task) (sym e) in
    let number : x.job.number ≡ a.job.number = ap (λ (i : PlanItem). i.job.number) (sym q) ∙ ap (λ (j : Job). j.number) (sym e) in
    let lt = numbered_after tasks (x ∷ before) xs legal.1 more x a (inl refl) k same in
    absurd (omega arith))
    (λ (l : Has xs b). one_after tasks (x ∷ before) xs legal.1 more a b k l e)
    hb)
    ha

pub one_item : (tasks : List Task) (plan : List PlanItem) → IsLegal tasks plan → (a b : PlanItem) → Has plan a → Has plan b → a.job ≡ b.job → a ≡ b
one_item tasks plan legal = one_after tasks [] plan legal (λ i is. absurd is)

pub good_item : (tasks : List Task) (plan : List PlanItem) → IsLegal tasks plan → (i : PlanItem) → Has plan i → IsGood tasks i
good_item tasks plan legal = good_after tasks [] plan legal
