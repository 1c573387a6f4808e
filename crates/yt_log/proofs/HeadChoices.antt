-- The heads of the tasks tell what the rule gives a tick to.
use Rattle.std.proofs.Common.{◌≡◌, ℕ, suc, ◌+◌, ◌-◌, ◌<◌, ◌≤◌, ◌⊎◌, true, false, cond, eqb, List, [], ◌∷◌, length, Option, Some, None, sym, ap, ap₂, subst, ◌∙◌, inl, inr, ⊎_elim, arith}
use Rattle.std.proofs.lemmas.Bool.{cases_lt, both_ways, false_from_ne_true}
use Rattle.yt_set.specs.declared.task.Task.{Task}
use Rattle.yt_set.specs.Tasks.{IsTaskSet}
use Rattle.yt_log.specs.declared.plan.PlanItem.{PlanItem}
use Rattle.yt_log.specs.declared.judge.heads.Head.{Head}
use Rattle.yt_log.specs.Tasks.{Has}
use Rattle.yt_log.specs.Plan.{deadline_of, IsLegal}
use Rattle.yt_log.specs.Ticks.{Ticks, done, IsWaiting}
use Rattle.yt_log.specs.EdfDdm.{current_deadline, rank, choice}
use Rattle.yt_order.specs.Words.{precedes}
use Rattle.yt_log.specs.Inside.Heads.{item_at, item_of, TellsItem, IsHead, AreHeads, AreUnfinished, Waits, IsLeastHead, Leads, head_rank}
use Rattle.yt_log.proofs.Plans.{good_item}
use Rattle.yt_log.proofs.Choices.{current_fresh, current_le}
use Rattle.yt_order.proofs.Lemmas.{precedes_less, precedes_either, precedes_one_way}
use Rattle.yt_log.proofs.Leasts.{rule_is_least}
use Rattle.yt_log.proofs.Places.{placed, has_place, follows, due_later}

-- a head has its item's rank
pub rank_of_head : (tasks : List Task) (plan : List PlanItem) (log : Ticks) (t task : ℕ) (head : Head) → TellsItem tasks log t task head (item_of plan head) → rank tasks log t (item_of plan head) ≡ head_rank plan head
unfolding rank head_rank
rank_of_head tasks plan log t task head tells =
    let item = item_of plan head in
    let made : ℕ → ℕ → List ℕ = λ d n. d ∷ cond (eqb n 0) 1 0 ∷ item.arrival ∷ item.job.task ∷ item.job.number ∷ [] in
    ap₂ made tells.due tells.had

-- what is due later comes later
before_rank : (tasks : List Task) (plan : List PlanItem) (log : Ticks) (t : ℕ) (head : Head) (item : PlanItem) → head.due < current_deadline tasks log t item → precedes (head_rank plan head) (rank tasks log t item) ≡ true
unfolding head_rank rank
before_rank tasks plan log t head item lt = precedes_less head.due (current_deadline tasks log t item) _ _ lt

at_or_before : (a b : ℕ) → a ≤ b → (a ≡ b) ⊎ (a < b)
at_or_before a b le = ⊎_elim (λ (lt : a < b). inr lt) (λ (ge : b ≤ a). inl (omega arith)) (cases_lt a b)

-- an item that waits is its task's head, or stands behind it
pub record IsBehind (plan : List PlanItem) (head : Head) (item : PlanItem) : Type 0 where
  pub place : ℕ
  pub within : place < length plan
  pub is : item_at plan place ≡ item
  pub from : head.place ≤ place

module _ (tasks : List Task) (set : IsTaskSet tasks) (plan : List PlanItem) (legal : IsLegal tasks plan) (log : Ticks) where
  pub behind_head : (t task : ℕ) (head : Head) → IsHead tasks plan log t task head → (item : PlanItem) → Has plan item → item.job.task ≡ task → done log item.job t < item.cost → IsBehind plan head item
  behind_head t task head h item has same short =
      let p = placed plan item has in
      let w = p.within in
      ⊎_elim
      (λ (lt : p.place < head.place).
      let P : PlanItem → Type 0 = λ i. i.job.task ≡ task → i.cost ≤ done log i.job t in
      let full = subst P p.is (h.before p.place lt) same in
      absurd (omega arith))
      (λ (ge : head.place ≤ p.place). record { place = p.place; within = w; is = p.is; from = ge })
      (cases_lt p.place head.place)

  -- so the head waits too, and its item comes no later in the order than the other
  pub record Precedes (t : ℕ) (head : Head) (item : PlanItem) : Type 0 where
    pub waits : Waits plan t head
    pub sooner : (rank tasks log t item ≡ head_rank plan head) ⊎ (precedes (head_rank plan head) (rank tasks log t item) ≡ true)

  head_first : (t task : ℕ) (head : Head) → IsHead tasks plan log t task head → (head.place < length plan → head.had < (item_of plan head).cost) → (item : PlanItem) → Has plan item → item.job.task ≡ task → IsWaiting log t item → Precedes t head item
  head_first t task head h more item has same waiting =
      let b = behind_head t task head h item has same waiting.unfinished in
      let w = b.within in
      let from = b.from in
      let is = b.is in
      let within : head.place < length plan = omega arith in
      let tells = h.here within in
      let mine = rank_of_head tasks plan log t task head tells in
      ⊎_elim
      (λ (e : head.place ≡ b.place).
      let it : item_of plan head ≡ item = ap (item_at plan) e ∙ is in
      record {
        waits = record { within = within; arrived = (let P : PlanItem → Type 0 = λ i. i.arrival ≤ t in subst P (sym it) waiting.arrived); unfinished = more within };
        sooner = inl (ap (rank tasks log t) (sym it) ∙ mine);
      })
      (λ (lt : head.place < b.place).
      let P : PlanItem → Type 0 = λ i. (item_of plan head).job.task ≡ i.job.task in
      let one = subst P (sym is) (tells.of_task ∙ sym same) in
      let f = follows tasks plan legal head.place b.place lt w one in
      let later = due_later tasks set plan legal head.place b.place lt w one in
      let apart = f.apart in
      let Q : PlanItem → Type 0 = λ i. i.arrival ≤ t in
      let arrived = subst Q (sym is) waiting.arrived in
      let R : PlanItem → Type 0 = λ i. i.job.task ≡ task → done log i.job t ≡ 0 in
      let none = subst R is (h.behind b.place lt w) same in
      let dues = current_fresh tasks log t item none in
      let most = current_le tasks log t (item_of plan head) in
      let due = tells.due in
      let same_due : deadline_of tasks (item_at plan b.place) ≡ deadline_of tasks item = ap (deadline_of tasks) is in
      record {
        waits = record { within = within; arrived = omega arith; unfinished = more within };
        sooner = inr (before_rank tasks plan log t head item (omega arith));
      })
      (at_or_before head.place b.place from)

  -- the head of an item's task
  pub number_of : PlanItem → ℕ
  number_of item = item.job.task - 1

  module _ (t count : ℕ) (heads : ℕ → Head) (all : length tasks ≤ count) (are : AreHeads tasks plan log t count heads) (more : AreUnfinished plan count heads) where
    -- an item that waits, and the head of its task
    pub record HasHead (item : PlanItem) : Type 0 where
      pub number : ℕ
      pub within : number < count
      pub first : Precedes t (heads number) item

    pub has_head : (item : PlanItem) → Has plan item → IsWaiting log t item → HasHead item
    has_head item has waiting =
        let g = good_item tasks plan legal item has in
        let from = g.from_one in
        let to = g.in_set in
        let n = item.job.task - 1 in
        let lt : n < count = omega arith in
        let e : item.job.task ≡ suc n = omega arith in
        record { number = n; within = lt; first = head_first t (suc n) (heads n) (are n lt) (more n lt) item has e waiting }

    -- where no head waits, the rule gives the tick to none
    pub none_chosen : ((n : ℕ) → n < count → Waits plan t (heads n) → ⊥) → choice tasks plan log t ≡ None
    none_chosen none = rule_is_least.none tasks plan log t (λ item has waiting. let h = has_head item has waiting in none h.number h.within h.first.waits)

    -- the rule gives the tick to the least head's item
    pub head_chosen : (n : ℕ) → IsLeastHead plan t count heads n → choice tasks plan log t ≡ Some (item_of plan (heads n)).job
    head_chosen n least =
        let w = least.waits in
        let head = heads n in
        let tells = (are n least.within).here w.within in
        let mine = rank_of_head tasks plan log t (suc n) head tells in
        let had = tells.had in
        let short = w.unfinished in
        rule_is_least.some tasks plan log t (item_of plan head) (record {
          has = has_place plan head.place w.within;
          waiting = record { arrived = w.arrived; unfinished = omega arith };
          first = λ other has waiting. false_from_ne_true _ (λ p.
              let h = has_head other has waiting in
              let P : List ℕ → Type 0 = λ r. precedes (rank tasks log t other) r ≡ true in
              let q = subst P mine p in
              let f = least.first h.number h.within h.first.waits in
              ⊎_elim
              (λ (e : rank tasks log t other ≡ head_rank plan (heads h.number)).
              let Q : List ℕ → Type 0 = λ r. precedes r (head_rank plan head) ≡ true in
              both_ways _ f (subst Q e q))
              (λ (s : precedes (head_rank plan (heads h.number)) (rank tasks log t other) ≡ true).
              ⊎_elim
              (λ (x : precedes (rank tasks log t other) (head_rank plan (heads h.number)) ≡ true). precedes_one_way _ _ x s)
              (λ (x : precedes (head_rank plan (heads h.number)) (head_rank plan head) ≡ true). both_ways _ f x)
              (precedes_either _ (head_rank plan (heads h.number)) _ q))
              h.first.sooner);
        })

-- the least head of one head more: where none waited before, and where it comes before the least till then
pub lead_alone : (plan : List PlanItem) (t n : ℕ) (heads : ℕ → Head) (least : Option ℕ) → least ≡ None → Leads plan t n heads least → Waits plan t (heads n) → IsLeastHead plan t (n + 1) heads n
lead_alone plan t n heads least is leads waits =
    let P : Option ℕ → Type 0 = λ o. Leads plan t n heads o in
    let none : (k : ℕ) → k < n → Waits plan t (heads k) → ⊥ = subst P is leads in
    record {
      within = omega arith;
      waits = waits;
      first = λ k lt w.
          ⊎_elim
          (λ (a : k < n). absurd (none k a w))
          (λ (a : n ≤ k).
          let e : n ≡ k = omega arith in
          let Q : ℕ → Type 0 = λ m. precedes (head_rank plan (heads m)) (head_rank plan (heads n)) ≡ false in
          subst Q e (false_from_ne_true _ (λ p. precedes_one_way _ _ p p)))
          (cases_lt k n);
    }

pub lead_new : (plan : List PlanItem) (t n m : ℕ) (heads : ℕ → Head) (least : Option ℕ) → least ≡ Some m → Leads plan t n heads least → Waits plan t (heads n) → precedes (head_rank plan (heads n)) (head_rank plan (heads m)) ≡ true → IsLeastHead plan t (n + 1) heads n
lead_new plan t n m heads least is leads waits sooner =
    let P : Option ℕ → Type 0 = λ o. Leads plan t n heads o in
    let old : IsLeastHead plan t n heads m = subst P is leads in
    record {
      within = omega arith;
      waits = waits;
      first = λ k lt w. false_from_ne_true _ (λ p.
          ⊎_elim
          (λ (a : k < n).
          let before = old.first k a w in
          ⊎_elim
          (λ (x : precedes (head_rank plan (heads k)) (head_rank plan (heads m)) ≡ true). both_ways _ before x)
          (λ (x : precedes (head_rank plan (heads m)) (head_rank plan (heads n)) ≡ true). precedes_one_way _ _ x sooner)
          (precedes_either _ (head_rank plan (heads m)) _ p))
          (λ (a : n ≤ k).
          let e : k ≡ n = omega arith in
          let Q : ℕ → Type 0 = λ j. precedes (head_rank plan (heads j)) (head_rank plan (heads n)) ≡ true in
          let q = subst Q e p in
          precedes_one_way _ _ q q)
          (cases_lt k n));
    }
