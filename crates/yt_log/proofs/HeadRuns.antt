-- A stretch of ticks in which no head arrives: the least head keeps the ticks, or none does.
use Rattle.std.proofs.Common.{◌≡◌, ℕ, zero, suc, ◌+◌, ◌<◌, ◌≤◌, true, false, cond, eqb, List, [], ◌∷◌, length, Option, Some, None, refl, sym, ap, ap₂, subst, ◌∙◌, ⊎_elim, arith, eq-eqb, ne_eqb}
use Rattle.std.proofs.lemmas.Bool.{cases_Bool, cases_lt, cases_eq, cond-true, cond-false, both_ways, false_from_ne_true}
use Rattle.yt_set.specs.declared.task.Task.{Task}
use Rattle.yt_set.specs.Tasks.{IsTaskSet, floor_of}
use Rattle.yt_log.specs.declared.job.Job.{Job}
use Rattle.yt_log.specs.declared.plan.PlanItem.{PlanItem}
use Rattle.yt_log.specs.declared.judge.heads.Head.{Head}
use Rattle.yt_log.specs.Plan.{its_task, IsLegal}
use Rattle.yt_log.specs.Ticks.{Ticks, tick}
use Rattle.yt_log.specs.EdfDdm.{lowered, choice}
use Rattle.yt_order.specs.Words.{precedes}
use Rattle.yt_log.specs.Inside.Heads.{item_at, item_of, IsHead, AreHeads, AreUnfinished, Waits, IsLeastHead, head_rank, ran}
use Rattle.yt_order.proofs.Lemmas.{precedes_less, precedes_same, precedes_parts, precedes_one_way}
use Rattle.yt_log.proofs.HeadChoices.{none_chosen, head_chosen}
use Rattle.yt_log.proofs.HeadSteps.{head_stays, head_runs}

-- a rank with an earlier deadline, and begun where the other was
pub better : (x a d' d b' b : ℕ) (xs ys : List ℕ) → d' ≤ d → b' ≤ b → precedes (x ∷ a ∷ xs) (d' ∷ b' ∷ ys) ≡ true → precedes (x ∷ a ∷ xs) (d ∷ b ∷ ys) ≡ true
better x a d' d b' b xs ys dd bb p =
    ⊎_elim
    (λ (lt : x < d'). precedes_less x d (a ∷ xs) (b ∷ ys) (omega arith))
    (λ (q : (x ≡ d') × (precedes (a ∷ xs) (b' ∷ ys) ≡ true)).
    let xd = q.0 in
    ⊎_elim
    (λ (lt : x < d). precedes_less x d (a ∷ xs) (b ∷ ys) lt)
    (λ (ge : d ≤ x). precedes_same x d (a ∷ xs) (b ∷ ys) (omega arith) (
    ⊎_elim
    (λ (lt : a < b'). precedes_less a b xs ys (omega arith))
    (λ (r : (a ≡ b') × (precedes xs ys ≡ true)).
    let ab = r.0 in
    ⊎_elim
    (λ (lt : a < b). precedes_less a b xs ys lt)
    (λ (ge : b ≤ a). precedes_same a b xs ys (omega arith) r.1)
    (cases_lt a b))
    (precedes_parts a b' xs ys q.1)))
    (cases_lt x d))
    (precedes_parts x d' (a ∷ xs) (b' ∷ ys) p)

-- a head with an earlier deadline that has begun: no head comes before it that came not before it till then
pub still_first : (plan : List PlanItem) (other head next : Head) → next.place ≡ head.place → next.due ≤ head.due → 0 < next.had → precedes (head_rank plan other) (head_rank plan head) ≡ false → precedes (head_rank plan other) (head_rank plan next) ≡ false
unfolding head_rank
still_first plan other head next place due had before =
    let begun : cond {A = ℕ} (eqb next.had 0) 1 0 ≡ 0 = cond-false (eqb next.had 0) 1 0 (ne_eqb next.had 0 (λ e. absurd (omega arith))) in
    let same : item_of plan next ≡ item_of plan head = ap (item_at plan) place in
    false_from_ne_true _ (λ p.
    let P : PlanItem → Type 0 = λ i. precedes (head_rank plan other) (next.due ∷ cond (eqb next.had 0) 1 0 ∷ i.arrival ∷ i.job.task ∷ i.job.number ∷ []) ≡ true in
    both_ways _ before (better _ _ next.due head.due (cond (eqb next.had 0) 1 0) (cond (eqb head.had 0) 1 0) _ _ due (omega arith) (subst P same p)))

-- the heads with another one at a number
abbrev pub with_head : (ℕ → Head) → ℕ → Head → ℕ → Head
with_head heads n head k = cond (eqb k n) head (heads k)

pub with_same : (heads : ℕ → Head) (n : ℕ) (head : Head) → with_head heads n head n ≡ head
with_same heads n head = cond-true (eqb n n) head (heads n) (eq-eqb n n refl)

pub with_other : (heads : ℕ → Head) (n k : ℕ) (head : Head) → (k ≡ n → ⊥) → with_head heads n head k ≡ heads k
with_other heads n k head ne = cond-false (eqb k n) head (heads k) (ne_eqb k n ne)

-- what holds of the head and of the others holds of all
pub with_all : (P : ℕ → Head → Type 0) (heads : ℕ → Head) (n count : ℕ) (head : Head) → P n head → ((k : ℕ) → k < count → (k ≡ n → ⊥) → P k (heads k)) → (k : ℕ) → k < count → P k (with_head heads n head k)
with_all P heads n count head mine others k lt =
    ⊎_elim
    (λ (e : k ≡ n).
    let Q : ℕ → Type 0 = λ m. P m (with_head heads n head m) in
    let R : Head → Type 0 = λ h. P n h in
    subst Q (sym e) (subst R (sym (with_same heads n head)) mine))
    (λ (ne : k ≡ n → ⊥). let R : Head → Type 0 = λ h. P k h in subst R (sym (with_other heads n k head ne)) (others k lt ne))
    (cases_eq k n)

-- from t to before `to` no head arrives
abbrev pub IsQuiet : List PlanItem → ℕ → ℕ → ℕ → (ℕ → Head) → Type 0
IsQuiet plan t to count heads = (n : ℕ) → n < count → (heads n).place < length plan → t < (item_of plan (heads n)).arrival → to ≤ (item_of plan (heads n)).arrival

-- so a head that waits in it waited at its start
waited : (plan : List PlanItem) (t to count u : ℕ) (heads : ℕ → Head) → IsQuiet plan t to count heads → u < to → (n : ℕ) → n < count → Waits plan u (heads n) → Waits plan t (heads n)
waited plan t to count u heads quiet below n lt w =
    let arrived = w.arrived in
    ⊎_elim
    (λ (late : t < (item_of plan (heads n)).arrival). let q = quiet n lt w.within late in absurd (omega arith))
    (λ (early : (item_of plan (heads n)).arrival ≤ t). record { within = w.within; arrived = early; unfinished = w.unfinished })
    (cases_lt t (item_of plan (heads n)).arrival)

lowered_most : (deadline first : ℕ) (floor : Option ℕ) → lowered deadline first floor ≤ deadline
unfolding lowered
lowered_most deadline first None = omega arith
lowered_most deadline first (Some f) = omega arith

ran_due : (tasks : List Task) (plan : List PlanItem) (t ticks : ℕ) (head : Head) → (ran tasks plan t ticks head).due ≤ head.due
ran_due tasks plan t ticks head =
    let floor = floor_of tasks (its_task tasks (item_of plan head)).resource in
    let low = lowered_most head.due t floor in
    ⊎_elim
    (λ (e : eqb head.had 0 ≡ true). let c : cond (eqb head.had 0) (lowered head.due t floor) head.due ≡ lowered head.due t floor = cond-true (eqb head.had 0) (lowered head.due t floor) head.due e in omega arith)
    (λ (e : eqb head.had 0 ≡ false). let c : cond (eqb head.had 0) (lowered head.due t floor) head.due ≡ head.due = cond-false (eqb head.had 0) (lowered head.due t floor) head.due e in omega arith)
    (cases_Bool (eqb head.had 0))

-- a tick more
ran_more : (tasks : List Task) (plan : List PlanItem) (t k u : ℕ) (head : Head) → 0 < k → ran tasks plan u 1 (ran tasks plan t k head) ≡ ran tasks plan t (k + 1) head
ran_more tasks plan t k u head pos =
    let floor = floor_of tasks (its_task tasks (item_of plan head)).resource in
    let due = (ran tasks plan t k head).due in
    let made : ℕ → ℕ → Head = λ h d. record { place = head.place; had = h; due = d } in
    ap₂ made (omega arith) (cond-false (eqb (head.had + k) 0) (lowered due u floor) due (ne_eqb (head.had + k) 0 (λ e. absurd (omega arith))))

some_same : (a b : Job) → Some a ≡ Some b → a ≡ b
some_same a b e = cc

module _ (tasks : List Task) (set : IsTaskSet tasks) (plan : List PlanItem) (legal : IsLegal tasks plan) (log : Ticks) where
  -- the ticks from t to before t + k went where the rule gives them
  abbrev pub RuledFor : ℕ → ℕ → Type 0
  RuledFor t k = (u : ℕ) → t ≤ u → u < t + k → tick log u ≡ choice tasks plan log u

  last_one : (t k : ℕ) → tick log (t + k) ≡ choice tasks plan log (t + k) → RuledFor t k → (u : ℕ) → t ≤ u → u < t + suc k → tick log u ≡ choice tasks plan log u
  last_one t k rule before u from below =
      ⊎_elim
      (λ (lt : u < t + k). before u from lt)
      (λ (ge : t + k ≤ u). let P : ℕ → Type 0 = λ v. tick log v ≡ choice tasks plan log v in let e : t + k ≡ u = omega arith in subst P e rule)
      (cases_lt u (t + k))

  module _ (t to count : ℕ) (heads : ℕ → Head) (all : length tasks ≤ count) (are : AreHeads tasks plan log t count heads) (more : AreUnfinished plan count heads) (quiet : IsQuiet plan t to count heads) where
    -- while none waits and the ticks are idle the heads stay
    pub idles : ((n : ℕ) → n < count → Waits plan t (heads n) → ⊥) → (k : ℕ) → t + k ≤ to → ((u : ℕ) → t ≤ u → u < t + k → tick log u ≡ None) → AreHeads tasks plan log (t + k) count heads × RuledFor t k
    idles none zero soon idle =
        let P : ℕ → Type 0 = λ u. AreHeads tasks plan log u count heads in
        let e : t ≡ t + 0 = omega arith in
        (subst P e are, λ u from below. absurd (omega arith))
    idles none (suc k) soon idle =
        let before = idles none k (omega arith) (λ u from below. idle u from (omega arith)) in
        let here = idle (t + k) (omega arith) (omega arith) in
        let P : ℕ → Type 0 = λ u. AreHeads tasks plan log u count heads in
        let e : suc (t + k) ≡ t + suc k = omega arith in
        let rule : tick log (t + k) ≡ choice tasks plan log (t + k) =
        here ∙ sym (none_chosen tasks set plan legal log (t + k) count heads all before.0 more (λ n lt w. none n lt (waited plan t to count (t + k) heads quiet (omega arith) n lt w))) in (
          subst P e (λ n lt. head_stays tasks plan log (t + k) (suc n) (heads n) (before.0 n lt) (λ m below of named. let x = sym here ∙ named in cc)),
          λ u from below. last_one t k rule before.1 u from below,
        )

    -- while the ticks go to the least head's item the others stay, and it stays the least
    pub record HasRun (n k : ℕ) : Type 0 where
      pub mine : IsHead tasks plan log (t + k) (suc n) (ran tasks plan t k (heads n))
      pub others : (m : ℕ) → m < count → (m ≡ n → ⊥) → IsHead tasks plan log (t + k) (suc m) (heads m)
      pub rule : RuledFor t k

    -- one tick more, which goes to the head's item
    goes_on : (n : ℕ) → n < count → (k : ℕ) (head : Head) → IsHead tasks plan log (t + k) (suc n) head → head.place < length plan → head.had < (item_of plan head).cost → tick log (t + k) ≡ Some (item_of plan head).job →
        ((m : ℕ) → m < count → (m ≡ n → ⊥) → IsHead tasks plan log (t + k) (suc m) (heads m)) → (m : ℕ) → m < count → (m ≡ n → ⊥) → IsHead tasks plan log (suc (t + k)) (suc m) (heads m)
    goes_on n lt k head h within short named others m below ne =
        let of = (h.here within).of_task in
        head_stays tasks plan log (t + k) (suc m) (heads m) (others m below ne) (λ j under task other.
        let same : (item_of plan head).job ≡ (item_at plan j).job = some_same _ _ (sym named ∙ other) in
        let e : (item_of plan head).job.task ≡ (item_at plan j).job.task = ap (λ (x : Job). x.task) same in
        ne (omega arith))

    first_run : (n : ℕ) → IsLeastHead plan t count heads n → tick log t ≡ Some (item_of plan (heads n)).job → HasRun n 1
    first_run n least named =
        let w = least.waits in
        let rule : tick log t ≡ choice tasks plan log t = named ∙ sym (head_chosen tasks set plan legal log t count heads all are more n least) in
        let e : suc t ≡ t + 1 = omega arith in
        let z : t ≡ t + 0 = omega arith in
        let P : ℕ → Type 0 = λ u. IsHead tasks plan log u (suc n) (ran tasks plan t 1 (heads n)) in
        let here : ℕ → Type 0 = λ u. (m : ℕ) → m < count → IsHead tasks plan log u (suc m) (heads m) in
        let now = subst here z are in
        let named' = (let Q : ℕ → Type 0 = λ u. tick log u ≡ Some (item_of plan (heads n)).job in subst Q z named) in
        record {
          mine = subst P e (head_runs tasks plan legal log t (suc n) (heads n) (are n least.within) w.within w.unfinished named);
          others = λ m lt ne.
              let R : ℕ → Type 0 = λ u. IsHead tasks plan log u (suc m) (heads m) in
              let s : suc (t + 0) ≡ t + 1 = omega arith in
              subst R s (goes_on n least.within 0 (heads n) (now n least.within) w.within w.unfinished named' (λ j below other. now j below) m lt ne);
          rule = λ u from below. let Q : ℕ → Type 0 = λ v. tick log v ≡ choice tasks plan log v in let u_t : t ≡ u = omega arith in subst Q u_t rule;
        }

    -- the head that has run is still the least
    still_least : (n : ℕ) → IsLeastHead plan t count heads n → (k : ℕ) → 0 < k → t + k < to → (heads n).had + k < (item_of plan (heads n)).cost → IsLeastHead plan (t + k) count (with_head heads n (ran tasks plan t k (heads n))) n
    still_least n least k pos soon short =
        let head = ran tasks plan t k (heads n) in
        let w = least.waits in
        let arrived = w.arrived in
        let P : Head → Type 0 = λ h. Waits plan (t + k) h in
        let Q : Head → Type 0 = λ h. (m : ℕ) → m < count → Waits plan (t + k) (with_head heads n head m) → precedes (head_rank plan (with_head heads n head m)) (head_rank plan h) ≡ false in
        record {
          within = least.within;
          waits = subst P (sym (with_same heads n head)) (record { within = w.within; arrived = omega arith; unfinished = short });
          first = subst Q (sym (with_same heads n head)) (with_all (λ m h. Waits plan (t + k) h → precedes (head_rank plan h) (head_rank plan head) ≡ false) heads n count head
              (λ _. false_from_ne_true _ (λ p. precedes_one_way _ _ p p))
              (λ m lt ne now. still_first plan (heads m) (heads n) head refl (ran_due tasks plan t k (heads n)) (omega arith) (least.first m lt (waited plan t to count (t + k) heads quiet soon m lt now))));
        }

    pub runs : (n : ℕ) → IsLeastHead plan t count heads n → (k : ℕ) → t + suc k ≤ to → (heads n).had + suc k ≤ (item_of plan (heads n)).cost → ((u : ℕ) → t ≤ u → u < t + suc k → tick log u ≡ Some (item_of plan (heads n)).job) → HasRun n (suc k)
    runs n least zero soon most named = first_run n least (named t (omega arith) (omega arith))
    runs n least (suc k) soon most named =
        let before = runs n least k (omega arith) (omega arith) (λ u from below. named u from (omega arith)) in
        let head = ran tasks plan t (suc k) (heads n) in
        let w = least.waits in
        let here = named (t + suc k) (omega arith) (omega arith) in
        let now = with_all (λ m h. IsHead tasks plan log (t + suc k) (suc m) h) heads n count head before.mine before.others in
        let still = still_least n least (suc k) (omega arith) (omega arith) (omega arith) in
        let unfinished = with_all (λ m h. h.place < length plan → h.had < (item_of plan h).cost) heads n count head (λ _. omega arith) (λ m lt ne. more m lt) in
        let same : (item_of plan (with_head heads n head n)).job ≡ (item_of plan (heads n)).job = ap (λ (h : Head). (item_of plan h).job) (with_same heads n head) in
        let chosen = head_chosen tasks set plan legal log (t + suc k) count (with_head heads n head) all now unfinished n still in
        let rule : tick log (t + suc k) ≡ choice tasks plan log (t + suc k) = here ∙ sym (chosen ∙ ap (λ (j : Job). Some j) same) in
        let e : suc (t + suc k) ≡ t + suc (suc k) = omega arith in
        let next = head_runs tasks plan legal log (t + suc k) (suc n) head before.mine w.within (omega arith) here in
        let ran' : ran tasks plan (t + suc k) 1 head ≡ ran tasks plan t (suc k + 1) (heads n) = ran_more tasks plan t (suc k) (t + suc k) (heads n) (omega arith) in
        let ticks : ran tasks plan t (suc k + 1) (heads n) ≡ ran tasks plan t (suc (suc k)) (heads n) = ap (λ (m : ℕ). ran tasks plan t m (heads n)) (omega arith) in
        let P : ℕ → Type 0 = λ u. IsHead tasks plan log u (suc n) (ran tasks plan t (suc (suc k)) (heads n)) in
        let Q : Head → Type 0 = λ h. IsHead tasks plan log (suc (t + suc k)) (suc n) h in
        record {
          mine = subst P e (subst Q (ran' ∙ ticks) next);
          others = λ m lt ne.
              let R : ℕ → Type 0 = λ u. IsHead tasks plan log u (suc m) (heads m) in
              subst R e (goes_on n least.within (suc k) head before.mine w.within (omega arith) here before.others m lt ne);
          rule = last_one t (suc k) rule before.rule;
        }
