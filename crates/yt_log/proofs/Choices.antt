-- What the deadline-modified rule gives a tick to.
use Rattle.std.proofs.Common.{◌≡◌, ℕ, ◌+◌, ◌<◌, ◌≤◌, min, Bool, true, false, cond, eqb, leb, ltb, List, [], ◌∷◌, length, Option, Some, None, refl, sym, ap, subst, ◌∙◌, inl, inr, ⊎_elim, arith, eq-eqb, ne_eqb, ltb-true, lt-ltb, leb-true, le-leb}
use Rattle.std.proofs.lemmas.Bool.{cases_Bool, cases_lt, cases_eq, and_parts, and_from, cond-true, cond-false, both_ways}
use Rattle.std.proofs.lemmas.List.{get_or_past}
use Rattle.yt_order.proofs.Lemmas.{precedes_less, precedes_same, precedes_one_way, precedes_either}
use Rattle.yt_set.specs.declared.task.Task.{Task}
use Rattle.yt_set.specs.Tasks.{floor_of}
use Rattle.yt_log.specs.declared.job.Job.{Job}
use Rattle.yt_log.specs.declared.plan.PlanItem.{PlanItem}
use Rattle.yt_log.specs.Tasks.{Has}
use Rattle.yt_log.specs.Plan.{its_task, deadline_of}
use Rattle.yt_log.specs.Ticks.{Ticks, tick, done, first_tick, IsWaiting}
use Rattle.yt_log.specs.EdfDdm.{lowered, current_deadline, rank, waits, sooner, least, job_of, choice, IsEdfDdm}
use Rattle.yt_order.specs.Words.{precedes}
use Rattle.yt_log.proofs.Floors.{floor_at, floor_some, floor_none}

-- an item of the list that passes, and that none which passes precedes
pub record IsFirstOf (key : PlanItem → List ℕ) (passes : PlanItem → Bool) (xs : List PlanItem) (r : PlanItem) : Type 0 where
  pub has : Has xs r
  pub passing : passes r ≡ true
  pub first : (k : PlanItem) → Has xs k → passes k ≡ true → precedes (key k) (key r) ≡ true → ⊥

abbrev pub IsLeast : (PlanItem → List ℕ) → (PlanItem → Bool) → List PlanItem → Option PlanItem → Type 0
IsLeast key passes xs None = (k : PlanItem) → Has xs k → passes k ≡ true → ⊥
IsLeast key passes xs (Some r) = IsFirstOf key passes xs r

-- one more item
first_more : (key : PlanItem → List ℕ) (passes : PlanItem → Bool) (x : PlanItem) (xs : List PlanItem) → passes x ≡ true → (o : Option PlanItem) → IsLeast key passes xs o → IsLeast key passes (x ∷ xs) (Some (sooner key x o))
unfolding sooner
first_more key passes x xs px None h = record {
  has = inl refl;
  passing = px;
  first = λ k is pk b. ⊎_elim (λ (e : k ≡ x). precedes_one_way (key k) (key x) b (let P : PlanItem → Type 0 = λ y. precedes (key y) (key k) ≡ true in subst P e (let Q : PlanItem → Type 0 = λ y. precedes (key k) (key y) ≡ true in subst Q (sym e) b))) (λ (m : Has xs k). h k m pk) is;
}
first_more key passes x xs px (Some r) h =
    let P : PlanItem → Type 0 = λ y. IsFirstOf key passes (x ∷ xs) y in
    ⊎_elim
    (λ (b : precedes (key r) (key x) ≡ true).
    subst P (sym (cond-true (precedes (key r) (key x)) r x b)) (record {
      has = inr h.has;
      passing = h.passing;
      first = λ k is pk c. ⊎_elim
          (λ (e : k ≡ x). let Q : PlanItem → Type 0 = λ y. precedes (key y) (key r) ≡ true in precedes_one_way (key r) (key x) b (subst Q e c))
          (λ (m : Has xs k). h.first k m pk c) is;
    }))
    (λ (b : precedes (key r) (key x) ≡ false).
    subst P (sym (cond-false (precedes (key r) (key x)) r x b)) (record {
      has = inl refl;
      passing = px;
      first = λ k is pk c. ⊎_elim
          (λ (e : k ≡ x). let Q : PlanItem → Type 0 = λ y. precedes (key y) (key x) ≡ true in let c' : precedes (key x) (key x) ≡ true = subst Q e c in precedes_one_way (key x) (key x) c' c')
          (λ (m : Has xs k). ⊎_elim
          (λ (l : precedes (key k) (key r) ≡ true). h.first k m pk l)
          (λ (l : precedes (key r) (key x) ≡ true). both_ways (precedes (key r) (key x)) b l)
          (precedes_either (key k) (key r) (key x) c)) is;
    }))
    (cases_Bool (precedes (key r) (key x)))

least_more : (key : PlanItem → List ℕ) (passes : PlanItem → Bool) (x : PlanItem) (xs : List PlanItem) (o : Option PlanItem) → passes x ≡ false → IsLeast key passes xs o → IsLeast key passes (x ∷ xs) o
least_more key passes x xs None px h = λ k is pk. ⊎_elim (λ (e : k ≡ x). both_ways (passes x) px (ap passes (sym e) ∙ pk)) (λ (m : Has xs k). h k m pk) is
least_more key passes x xs (Some r) px h = record {
  has = inr h.has;
  passing = h.passing;
  first = λ k is pk c. ⊎_elim (λ (e : k ≡ x). both_ways (passes x) px (ap passes (sym e) ∙ pk)) (λ (m : Has xs k). h.first k m pk c) is;
}

pub least_is : (key : PlanItem → List ℕ) (passes : PlanItem → Bool) (xs : List PlanItem) → IsLeast key passes xs (least key passes xs)
unfolding least
least_is key passes [] = λ k is pk. is
least_is key passes (x ∷ xs) =
    let P : Option PlanItem → Type 0 = λ o. IsLeast key passes (x ∷ xs) o in
    let rest = least_is key passes xs in
    ⊎_elim
    (λ (px : passes x ≡ true). subst P (sym (cond-true (passes x) (Some (sooner key x (least key passes xs))) (least key passes xs) px)) (first_more key passes x xs px (least key passes xs) rest))
    (λ (px : passes x ≡ false). subst P (sym (cond-false (passes x) (Some (sooner key x (least key passes xs))) (least key passes xs) px)) (least_more key passes x xs (least key passes xs) px rest))
    (cases_Bool (passes x))

-- what waits, as a test
pub waits_true : (log : Ticks) (t : ℕ) (i : PlanItem) → waits log t i ≡ true → IsWaiting log t i
unfolding waits
waits_true log t i h =
    let q = and_parts (leb i.arrival t) (ltb (done log i.job t) i.cost) h in
    record { arrived = leb-true i.arrival t q.0; unfinished = ltb-true (done log i.job t) i.cost q.1 }

pub waits_from : (log : Ticks) (t : ℕ) (i : PlanItem) → IsWaiting log t i → waits log t i ≡ true
unfolding waits
waits_from log t i w = and_from (leb i.arrival t) (ltb (done log i.job t) i.cost) (le-leb i.arrival t w.arrived) (lt-ltb (done log i.job t) i.cost w.unfinished)

-- the rank's first two numbers
begun_rank : Ticks → ℕ → PlanItem → ℕ
begun_rank log t i = cond (eqb (done log i.job t) 0) 1 0

begun_rank_none : (log : Ticks) (t : ℕ) (i : PlanItem) → done log i.job t ≡ 0 → begun_rank log t i ≡ 1
unfolding begun_rank
begun_rank_none log t i e = cond-true (eqb (done log i.job t) 0) 1 0 (eq-eqb (done log i.job t) 0 e)

begun_rank_some : (log : Ticks) (t : ℕ) (i : PlanItem) → 0 < done log i.job t → begun_rank log t i ≡ 0
unfolding begun_rank
begun_rank_some log t i h = cond-false (eqb (done log i.job t) 0) 1 0 (ne_eqb (done log i.job t) 0 (λ e. absurd (omega arith)))

rest_of_rank : PlanItem → List ℕ
rest_of_rank i = i.arrival ∷ i.job.task ∷ i.job.number ∷ []

rank-is : (tasks : List Task) (log : Ticks) (t : ℕ) (i : PlanItem) → rank tasks log t i ≡ current_deadline tasks log t i ∷ begun_rank log t i ∷ rest_of_rank i
unfolding rank begun_rank rest_of_rank
rank-is tasks log t i = refl

-- the item that a tick of the log goes to
pub record IsChosen (tasks : List Task) (plan : List PlanItem) (log : Ticks) (t : ℕ) (item : PlanItem) : Type 0 where
  pub has : Has plan item
  pub waiting : IsWaiting log t item
  pub earliest : (k : PlanItem) → Has plan k → IsWaiting log t k → current_deadline tasks log t item ≤ current_deadline tasks log t k
  pub begun_first : (k : PlanItem) → Has plan k → IsWaiting log t k → current_deadline tasks log t k ≤ current_deadline tasks log t item → 0 < done log k.job t → 0 < done log item.job t

chosen_earliest : (tasks : List Task) (log : Ticks) (t : ℕ) (i k : PlanItem) → (precedes (rank tasks log t k) (rank tasks log t i) ≡ true → ⊥) → current_deadline tasks log t i ≤ current_deadline tasks log t k
chosen_earliest tasks log t i k h =
    let ci = current_deadline tasks log t i in
    let ck = current_deadline tasks log t k in
    let P : List ℕ → Type 0 = λ xs. precedes (rank tasks log t k) xs ≡ true → ⊥ in
    let Q : List ℕ → Type 0 = λ xs. precedes xs (ci ∷ begun_rank log t i ∷ rest_of_rank i) ≡ true → ⊥ in
    let h' = subst Q (rank-is tasks log t k) (subst P (rank-is tasks log t i) h) in
    ⊎_elim
    (λ (lt : ck < ci). absurd (h' (precedes_less ck ci (begun_rank log t k ∷ rest_of_rank k) (begun_rank log t i ∷ rest_of_rank i) lt)))
    (λ (ge : ci ≤ ck). ge)
    (cases_lt ck ci)

chosen_begun : (tasks : List Task) (log : Ticks) (t : ℕ) (i k : PlanItem) → (precedes (rank tasks log t k) (rank tasks log t i) ≡ true → ⊥) → current_deadline tasks log t k ≡ current_deadline tasks log t i → 0 < done log k.job t → 0 < done log i.job t
chosen_begun tasks log t i k h e begun =
    let ci = current_deadline tasks log t i in
    let ck = current_deadline tasks log t k in
    let P : List ℕ → Type 0 = λ xs. precedes (rank tasks log t k) xs ≡ true → ⊥ in
    let Q : List ℕ → Type 0 = λ xs. precedes xs (ci ∷ begun_rank log t i ∷ rest_of_rank i) ≡ true → ⊥ in
    let h' = subst Q (rank-is tasks log t k) (subst P (rank-is tasks log t i) h) in
    ⊎_elim
    (λ (none : done log i.job t ≡ 0).
    let a = begun_rank_some log t k begun in
    let b = begun_rank_none log t i none in
    absurd (h' (precedes_same ck ci (begun_rank log t k ∷ rest_of_rank k) (begun_rank log t i ∷ rest_of_rank i) e (precedes_less (begun_rank log t k) (begun_rank log t i) (rest_of_rank k) (rest_of_rank i) (omega arith)))))
    (λ (ne : done log i.job t ≡ 0 → ⊥). omega arith)
    (cases_eq (done log i.job t) 0)

-- what a choice says of the items
abbrev IsChoice : List Task → List PlanItem → Ticks → ℕ → Option Job → Type 0
IsChoice tasks plan log t None = (k : PlanItem) → Has plan k → IsWaiting log t k → ⊥
IsChoice tasks plan log t (Some job) = (item : PlanItem) × (item.job ≡ job) × IsChosen tasks plan log t item

choice_from : (tasks : List Task) (plan : List PlanItem) (log : Ticks) (t : ℕ) (o : Option PlanItem) → IsLeast (rank tasks log t) (waits log t) plan o → IsChoice tasks plan log t (job_of o)
unfolding job_of
choice_from tasks plan log t None h = λ k is w. h k is (waits_from log t k w)
choice_from tasks plan log t (Some r) h =
    let early : (k : PlanItem) → Has plan k → IsWaiting log t k → current_deadline tasks log t r ≤ current_deadline tasks log t k = λ k is w. chosen_earliest tasks log t r k (h.first k is (waits_from log t k w)) in (
      r,
      refl,
      record {
        has = h.has;
        waiting = waits_true log t r h.passing;
        earliest = early;
        begun_first = λ k is w le. chosen_begun tasks log t r k (h.first k is (waits_from log t k w)) (let e = early k is w in omega arith);
      },
    )

choice_is : (tasks : List Task) (plan : List PlanItem) (log : Ticks) (t : ℕ) → IsChoice tasks plan log t (choice tasks plan log t)
unfolding choice
choice_is tasks plan log t = choice_from tasks plan log t (least (rank tasks log t) (waits log t) plan) (least_is (rank tasks log t) (waits log t) plan)

tick_past : (log : Ticks) (t : ℕ) → length log ≤ t → tick log t ≡ None
unfolding tick
tick_past log t h = get_or_past log t None h

pub below_end : (log : Ticks) (t : ℕ) (j : Job) → tick log t ≡ Some j → t < length log
below_end log t j e =
    ⊎_elim (λ (lt : t < length log). lt) (λ (ge : length log ≤ t). let p = tick_past log t ge in cc) (cases_lt t (length log))

-- a tick of the log that goes to a job
pub chosen : (tasks : List Task) (plan : List PlanItem) (log : Ticks) → IsEdfDdm tasks plan log → (t : ℕ) (j : Job) → tick log t ≡ Some j → (item : PlanItem) × (item.job ≡ j) × IsChosen tasks plan log t item
chosen tasks plan log rule t j e =
    let P : Option Job → Type 0 = λ o. IsChoice tasks plan log t o in
    subst P (sym (rule t (below_end log t j e)) ∙ e) (choice_is tasks plan log t)

-- an idle tick of the log
pub idle : (tasks : List Task) (plan : List PlanItem) (log : Ticks) → IsEdfDdm tasks plan log → (t : ℕ) → t < length log → tick log t ≡ None → (k : PlanItem) → Has plan k → IsWaiting log t k → ⊥
idle tasks plan log rule t lt e =
    let P : Option Job → Type 0 = λ o. IsChoice tasks plan log t o in
    subst P (sym (rule t lt) ∙ e) (choice_is tasks plan log t)

-- the current deadline
pub current_fresh : (tasks : List Task) (log : Ticks) (t : ℕ) (i : PlanItem) → done log i.job t ≡ 0 → current_deadline tasks log t i ≡ deadline_of tasks i
unfolding current_deadline
current_fresh tasks log t i e =
    cond-true (eqb (done log i.job t) 0) (deadline_of tasks i) (lowered (deadline_of tasks i) (first_tick log i.job t) (floor_of tasks (its_task tasks i).resource)) (eq-eqb (done log i.job t) 0 e)

pub current_begun : (tasks : List Task) (log : Ticks) (t : ℕ) (i : PlanItem) → 0 < done log i.job t →
    current_deadline tasks log t i ≡ lowered (deadline_of tasks i) (first_tick log i.job t) (floor_of tasks (its_task tasks i).resource)
unfolding current_deadline
current_begun tasks log t i h =
    cond-false (eqb (done log i.job t) 0) (deadline_of tasks i) (lowered (deadline_of tasks i) (first_tick log i.job t) (floor_of tasks (its_task tasks i).resource))
    (ne_eqb (done log i.job t) 0 (λ e. absurd (omega arith)))

lowered_none : (deadline first : ℕ) (floor : Option ℕ) → floor ≡ None → lowered deadline first floor ≡ deadline
unfolding lowered
lowered_none deadline first floor e = ap (lowered deadline first) e

lowered_some : (deadline first : ℕ) (floor : Option ℕ) (f : ℕ) → floor ≡ Some f → lowered deadline first floor ≡ min deadline (first + 1 + f)
unfolding lowered
lowered_some deadline first floor f e = ap (lowered deadline first) e

lowered_le : (deadline first : ℕ) (floor : Option ℕ) → lowered deadline first floor ≤ deadline
unfolding lowered
lowered_le deadline first None = omega arith
lowered_le deadline first (Some f) = omega arith

pub current_free : (tasks : List Task) (log : Ticks) (t : ℕ) (i : PlanItem) → (its_task tasks i).resource ≡ 0 → current_deadline tasks log t i ≡ deadline_of tasks i
current_free tasks log t i e =
    ⊎_elim
    (λ (a : done log i.job t ≡ 0). current_fresh tasks log t i a)
    (λ (a : done log i.job t ≡ 0 → ⊥).
    current_begun tasks log t i (omega arith) ∙ lowered_none (deadline_of tasks i) (first_tick log i.job t) (floor_of tasks (its_task tasks i).resource) (floor_none tasks (its_task tasks i).resource e))
    (cases_eq (done log i.job t) 0)

pub current_held : (tasks : List Task) (log : Ticks) (t : ℕ) (i : PlanItem) → Has tasks (its_task tasks i) → 0 < done log i.job t → 0 < (its_task tasks i).resource →
    current_deadline tasks log t i ≡ min (deadline_of tasks i) (first_tick log i.job t + 1 + floor_at tasks (its_task tasks i))
current_held tasks log t i is a b =
    current_begun tasks log t i a
    ∙ lowered_some (deadline_of tasks i) (first_tick log i.job t) (floor_of tasks (its_task tasks i).resource) (floor_at tasks (its_task tasks i)) (floor_some tasks (its_task tasks i) is b)

pub current_le : (tasks : List Task) (log : Ticks) (t : ℕ) (i : PlanItem) → current_deadline tasks log t i ≤ deadline_of tasks i
current_le tasks log t i =
    ⊎_elim
    (λ (a : done log i.job t ≡ 0). let e = current_fresh tasks log t i a in omega arith)
    (λ (a : done log i.job t ≡ 0 → ⊥).
    let e = current_begun tasks log t i (omega arith) in
    let l = lowered_le (deadline_of tasks i) (first_tick log i.job t) (floor_of tasks (its_task tasks i).resource) in
    omega arith)
    (cases_eq (done log i.job t) 0)
