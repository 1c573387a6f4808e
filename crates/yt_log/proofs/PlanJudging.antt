-- Judging a plan item by item.
use Rattle.std.proofs.Common.{◌≡◌, ℕ, zero, suc, ◌+◌, ◌-◌, ◌<◌, ◌≤◌, ◌⊎◌, Bool, true, false, ◌&&◌, ◌||◌, eqb, leb, List, [], ◌∷◌, length, get_or, take, drop, reverse, Some, refl, sym, ap, ap₂, subst, ◌∙◌, ⊎_elim, inl, inr, arith, eq-eqb, eqb-true}
use Rattle.std.proofs.lemmas.Bool.{and_parts, and_from, or_left, or_right, leb-true, le-leb}
use Rattle.std.proofs.lemmas.List.{take_more, drop_more, reverse-append}
use Rattle.std.proofs.lemmas.List.Elements.{All-nil, All-cons, All-head, All-tail}
use Rattle.std.specs.List.{All}
use Rattle.yt_list.specs.Numbered.{numbered}
use Rattle.yt_set.specs.declared.task.Task.{Task}
use Rattle.yt_log.specs.declared.plan.PlanItem.{PlanItem}
use Rattle.yt_log.specs.declared.last_jobs.LastJob.{LastJob}
use Rattle.yt_log.specs.Tasks.{Has}
use Rattle.yt_log.specs.Plan.{its_task, jobs_of, IsNext, IsLegalAfter, IsLegalPlan, ArriveFrom}
use Rattle.yt_log.specs.LastJobs.{last_of, last_job}
use Rattle.yt_log.specs.Inside.LastJobs.{AreLast, may_follow, may_come}
use Rattle.yt_log.proofs.LastItems.{last_at}
use Rattle.yt_log.proofs.Demands.{task_read}
use Rattle.yt_log.proofs.LastItems.{last_item, IsNewest, newest_more, counted_item}

or_true : (x y : Bool) → (x || y) ≡ true → (x ≡ true) ⊎ (y ≡ true)
or_true true y e = inl refl
or_true false y e = inr e

none_or_some : (n : ℕ) → (n ≡ 0) ⊎ (1 ≤ n)
none_or_some zero = inl refl
none_or_some (suc n) = inr (omega arith)

-- what may come is next, and arrives in time
pub next_item : (tasks : List Task) (before : List PlanItem) (x : PlanItem) → IsNewest before → ((e : PlanItem) → Has before e → e.arrival ≤ x.arrival) → 1 ≤ (its_task tasks x).period →
    may_come tasks before x ≡ true → IsNext tasks before x × (x.arrival ≤ 8000000)
next_item tasks before x newest order some h =
    let its = its_task tasks x in
    let last = last_job x.job.task before in
    let a = and_parts _ _ h in
    let b = and_parts _ _ a.1 in
    let c = and_parts _ _ b.1 in
    let d = and_parts _ _ c.1 in
    let e = and_parts _ _ d.1 in
    let f = and_parts _ _ e.1 in
    let number : x.job.number ≡ jobs_of x.job.task before + 1 = eqb-true _ _ c.0 in (
      record {
        from_one = leb-true 1 x.job.task a.0;
        in_set = leb-true x.job.task (length tasks) b.0;
        number = omega arith;
        order = order;
        apart = λ earlier is same.
            ⊎_elim
            (λ (z : eqb last.number 0 ≡ true).
            let none : jobs_of x.job.task before ≡ 0 = eqb-true last.number 0 z in
            let Q : ℕ → Type 0 = λ n. 1 ≤ jobs_of n before in
            let one = subst Q same (counted_item before earlier is) in
            absurd (omega arith))
            (λ (l : leb its.period (x.arrival - last.arrival) ≡ true).
            let far = leb-true its.period (x.arrival - last.arrival) l in
            let Q : ℕ → Type 0 = λ n. earlier.arrival ≤ last_of n before in
            let new = subst Q same (newest earlier is) in
            omega arith)
            (or_true _ _ d.0);
        some = leb-true 1 x.cost e.0;
        most = leb-true x.cost its.cost f.0;
      },
      leb-true x.arrival 8000000 f.1,
    )

-- the next item that arrives in time may come
pub item_comes : (tasks : List Task) (before : List PlanItem) (x : PlanItem) → IsNext tasks before x → x.arrival ≤ 8000000 → may_come tasks before x ≡ true
item_comes tasks before x next early =
    let its = its_task tasks x in
    let last = last_job x.job.task before in
    let number = next.number in
    let apart : (eqb last.number 0 || leb its.period (x.arrival - last.arrival)) ≡ true =
    ⊎_elim
    (λ (z : jobs_of x.job.task before ≡ 0). or_left _ _ (eq-eqb last.number 0 z))
    (λ (some : 1 ≤ jobs_of x.job.task before).
    let e = last_item x.job.task before some in
    let far = next.apart e.0 e.1 e.2 in
    let is = e.3 in
    or_right _ _ (le-leb its.period (x.arrival - last.arrival) (omega arith)))
    (none_or_some (jobs_of x.job.task before)) in
    and_from _ _ (le-leb 1 x.job.task next.from_one)
    (and_from _ _ (le-leb x.job.task (length tasks) next.in_set)
    (and_from _ _ (eq-eqb x.job.number (last.number + 1) (omega arith))
    (and_from _ _ apart
    (and_from _ _ (le-leb 1 x.cost next.some) (and_from _ _ (le-leb x.cost its.cost next.most) (le-leb x.arrival 8000000 early))))))

-- the items that are left may follow, and arrive in time
abbrev pub Rest : List Task → List PlanItem → List PlanItem → Type 0
Rest tasks before rest = IsLegalAfter tasks before rest × All (λ (i : PlanItem). i.arrival ≤ 8000000) rest

-- the items before were found good, and the rest decides whether the plan is legal
pub record IsJudged (tasks : List Task) (plan before rest : List PlanItem) : Type 0 where
  pub to : IsLegalPlan tasks plan → Rest tasks before rest
  pub from : Rest tasks before rest → IsLegalPlan tasks plan
  pub newest : IsNewest before
  pub earlier : (e x : PlanItem) → Has before e → Has rest x → e.arrival ≤ x.arrival
  pub order : ArriveFrom 0 rest

pub judged_none : (tasks : List Task) (plan : List PlanItem) → ArriveFrom 0 plan → IsJudged tasks plan [] plan
judged_none tasks plan order = record {
  to = λ h. (h.legal, h.early);
  from = λ h. record { legal = h.0; early = h.1 };
  newest = λ e is. absurd is;
  earlier = λ e x is there. absurd is;
  order = order;
}

-- no item arrives before the first
from_first : (t : ℕ) (xs : List PlanItem) → ArriveFrom t xs → (x : PlanItem) → Has xs x → t ≤ x.arrival
from_first t [] h x is = absurd is
from_first t (y ∷ xs) h x is =
    ⊎_elim
    (λ (e : x ≡ y). let P : PlanItem → Type 0 = λ i. t ≤ i.arrival in subst P (sym e) h.0)
    (λ (k : Has xs x). let le = h.0 in let later = from_first y.arrival xs h.1 x k in omega arith)
    is

later_from : (t u : ℕ) (xs : List PlanItem) → u ≤ t → ArriveFrom t xs → ArriveFrom u xs
later_from t u [] le h = tt
later_from t u (x ∷ xs) le h = let a = h.0 in (omega arith, h.1)

-- an item that may come is judged with those before it
pub judged_more : (tasks : List Task) (plan before rest : List PlanItem) (x : PlanItem) → 1 ≤ (its_task tasks x).period → may_come tasks before x ≡ true →
    IsJudged tasks plan before (x ∷ rest) → IsJudged tasks plan (x ∷ before) rest
judged_more tasks plan before rest x some may j =
    let behind : (e : PlanItem) → Has before e → e.arrival ≤ x.arrival = λ e is. j.earlier e x is (inl refl) in
    let next = next_item tasks before x j.newest behind some may in
    let early = λ (i : PlanItem). i.arrival ≤ 8000000 in
    record {
      to = λ h. let r = j.to h in (r.0.1, All-tail early x rest r.1);
      from = λ h. j.from ((next.0, h.0), All-cons early x rest next.1 h.1);
      newest = newest_more before x j.newest behind;
      earlier = λ e y is there.
          ⊎_elim
          (λ (q : e ≡ x). let P : PlanItem → Type 0 = λ i. i.arrival ≤ y.arrival in subst P (sym q) (from_first x.arrival rest j.order.1 y there))
          (λ (k : Has before e). j.earlier e y k (inr there))
          is;
      order = later_from x.arrival 0 rest (omega arith) j.order.1;
    }

-- one that may not makes the plan illegal
pub judged_never : (tasks : List Task) (plan before rest : List PlanItem) (x : PlanItem) → IsJudged tasks plan before (x ∷ rest) → IsLegalPlan tasks plan → may_come tasks before x ≡ true
judged_never tasks plan before rest x j h =
    let r = j.to h in
    item_comes tasks before x r.0.0 (All-head (λ (i : PlanItem). i.arrival ≤ 8000000) x rest r.1)

pub judged_all : (tasks : List Task) (plan before : List PlanItem) → IsJudged tasks plan before [] → IsLegalPlan tasks plan
judged_all tasks plan before j = j.from (tt, All-nil (λ (i : PlanItem). i.arrival ≤ 8000000))

-- the tests of an item's task give what may come
pub comes_by_tests : (tasks : List Task) (before : List PlanItem) (x : PlanItem) (its : Task) (jobs : List LastJob) (last : LastJob) (b : Bool) → 1 ≤ x.job.task → x.job.task ≤ length tasks → x.job.task ≤ 64 →
    numbered tasks x.job.task ≡ Some its → AreLast jobs before → numbered jobs x.job.task ≡ Some last → b ≡ may_follow its last x → b ≡ may_come tasks before x
comes_by_tests tasks before x its jobs last b low high few at are got is =
    let task = sym (task_read tasks x.job.task its at) in
    let same : last ≡ last_job x.job.task before = last_at jobs before x.job.task last low few are got in
    is ∙
    ap₂ (λ (t : Task) (l : LastJob). may_follow t l x) task same ∙
    sym (ap₂ (λ (p q : Bool). p && (q && may_follow (its_task tasks x) (last_job x.job.task before) x)) (le-leb 1 x.job.task low) (le-leb x.job.task (length tasks) high))

-- what may come is of a task of the set, and has the next number
pub coming_number : (tasks : List Task) (before : List PlanItem) (x : PlanItem) → may_come tasks before x ≡ true → x.job.number ≡ jobs_of x.job.task before + 1
coming_number tasks before x h =
    let a = and_parts _ _ h in
    let b = and_parts _ _ a.1 in
    let c = and_parts _ _ b.1 in
    eqb-true _ _ c.0

abbrev pub no_item : PlanItem
no_item = record { job = record { task = 0; number = 0 }; arrival = 0; cost = 0 }

-- the items below i, from the last, and then the i-th
pub before_more : (xs : List PlanItem) (i : ℕ) → i < length xs → reverse (take (i + 1) xs) ≡ get_or xs i no_item ∷ reverse (take i xs)
before_more xs i lt = ap reverse (take_more xs i no_item lt) ∙ reverse-append (take i xs) (get_or xs i no_item ∷ [])

-- the i-th item is judged with those below it
pub judged_next : (tasks : List Task) (plan xs : List PlanItem) (i : ℕ) → i < length xs → 1 ≤ (its_task tasks (get_or xs i no_item)).period → may_come tasks (reverse (take i xs)) (get_or xs i no_item) ≡ true →
    IsJudged tasks plan (reverse (take i xs)) (drop i xs) → IsJudged tasks plan (reverse (take (i + 1) xs)) (drop (i + 1) xs)
judged_next tasks plan xs i lt some may j =
    let x = get_or xs i no_item in
    let P : List PlanItem → Type 0 = λ rest. IsJudged tasks plan (reverse (take i xs)) rest in
    let Q : List PlanItem → Type 0 = λ before. IsJudged tasks plan before (drop (i + 1) xs) in
    subst Q (sym (before_more xs i lt)) (judged_more tasks plan (reverse (take i xs)) (drop (i + 1) xs) x some may (subst P (drop_more xs i no_item lt) j))

-- where the i-th item may not come, the plan is not legal
pub never_at : (tasks : List Task) (plan xs : List PlanItem) (i : ℕ) → i < length xs → IsJudged tasks plan (reverse (take i xs)) (drop i xs) → IsLegalPlan tasks plan →
    may_come tasks (reverse (take i xs)) (get_or xs i no_item) ≡ true
never_at tasks plan xs i lt j h =
    let P : List PlanItem → Type 0 = λ rest. IsJudged tasks plan (reverse (take i xs)) rest in
    judged_never tasks plan (reverse (take i xs)) (drop (i + 1) xs) (get_or xs i no_item) (subst P (drop_more xs i no_item lt) j) h

pub has_at : (xs : List PlanItem) (i : ℕ) → i < length xs → Has xs (get_or xs i no_item)
has_at [] i lt = absurd (omega arith)
has_at (x ∷ xs) zero lt = inl refl
has_at (x ∷ xs) (suc i) lt = inr (has_at xs i (omega arith))
