-- How the heads of the tasks go on from tick to tick.
use Rattle.std.proofs.Common.{◌≡◌, ℕ, suc, ◌+◌, ◌<◌, ◌≤◌, cond, eqb, List, length, min, Option, Some, None, sym, ap, ap₂, subst, ◌∙◌, ⊎_elim, arith, eq-eqb, ne_eqb}
use Rattle.std.proofs.lemmas.Bool.{cases_lt, cases_eq, cond-true, cond-false}
use Rattle.yt_list.specs.Numbered.{numbered}
use Rattle.yt_set.specs.declared.task.Task.{Task}
use Rattle.yt_set.specs.Tasks.{floor_of}
use Rattle.yt_log.specs.declared.job.Job.{Job}
use Rattle.yt_log.specs.declared.plan.PlanItem.{PlanItem}
use Rattle.yt_log.specs.declared.judge.heads.Head.{Head}
use Rattle.yt_log.specs.Plan.{its_task, deadline_of, IsLegal}
use Rattle.yt_log.specs.Ticks.{Ticks, tick, done}
use Rattle.yt_log.specs.EdfDdm.{lowered, current_deadline}
use Rattle.yt_log.specs.Inside.Heads.{item_at, item_of, TellsItem, IsHead, ran, Starts}
use Rattle.yt_log.proofs.Ticks.{done-zero, done_yes, done_no, done_grows, first-suc_zero, first-suc}
use Rattle.yt_log.proofs.Choices.{current_fresh, current_begun}
use Rattle.yt_log.proofs.Demands.{task_read}
use Rattle.yt_log.proofs.Places.{one_place}

-- a tick that goes elsewhere leaves an item's deadline
current_stays : (tasks : List Task) (log : Ticks) (t : ℕ) (item : PlanItem) → (tick log t ≡ Some item.job → ⊥) → current_deadline tasks log (suc t) item ≡ current_deadline tasks log t item
current_stays tasks log t item never =
    let same = done_no log item.job t never in
    ⊎_elim
    (λ (none : done log item.job t ≡ 0). current_fresh tasks log (suc t) item (same ∙ none) ∙ sym (current_fresh tasks log t item none))
    (λ (some : done log item.job t ≡ 0 → ⊥).
    let pos : 0 < done log item.job t = omega arith in
    current_begun tasks log (suc t) item (omega arith)
    ∙ ap (λ (b : ℕ). lowered (deadline_of tasks item) b (floor_of tasks (its_task tasks item).resource)) (first-suc log item.job t pos)
    ∙ sym (current_begun tasks log t item pos))
    (cases_eq (done log item.job t) 0)

-- a tick of an item
current_runs : (tasks : List Task) (log : Ticks) (t : ℕ) (item : PlanItem) → tick log t ≡ Some item.job →
    current_deadline tasks log (suc t) item ≡ cond (eqb (done log item.job t) 0) (lowered (current_deadline tasks log t item) t (floor_of tasks (its_task tasks item).resource)) (current_deadline tasks log t item)
current_runs tasks log t item named =
    let next = done_yes log item.job t named in
    let floor = floor_of tasks (its_task tasks item).resource in
    let now = current_deadline tasks log t item in
    let begun = current_begun tasks log (suc t) item (omega arith) in
    ⊎_elim
    (λ (none : done log item.job t ≡ 0).
    begun
    ∙ ap₂ (λ (d b : ℕ). lowered d b floor) (sym (current_fresh tasks log t item none)) (first-suc_zero log item.job t none)
    ∙ sym (cond-true (eqb (done log item.job t) 0) (lowered now t floor) now (eq-eqb (done log item.job t) 0 none)))
    (λ (some : done log item.job t ≡ 0 → ⊥).
    let pos : 0 < done log item.job t = omega arith in
    begun
    ∙ ap (λ (b : ℕ). lowered (deadline_of tasks item) b floor) (first-suc log item.job t pos)
    ∙ sym (current_begun tasks log t item pos)
    ∙ sym (cond-false (eqb (done log item.job t) 0) (lowered now t floor) now (ne_eqb (done log item.job t) 0 some)))
    (cases_eq (done log item.job t) 0)

-- a tick that goes to no job of the task leaves its head
pub head_stays : (tasks : List Task) (plan : List PlanItem) (log : Ticks) (t task : ℕ) (head : Head) → IsHead tasks plan log t task head →
    ((k : ℕ) → k < length plan → (item_at plan k).job.task ≡ task → tick log t ≡ Some (item_at plan k).job → ⊥) → IsHead tasks plan log (suc t) task head
head_stays tasks plan log t task head h never = record {
  within = h.within;
  before = λ k lt of. let a = h.before k lt of in let g = done_grows log (item_at plan k).job t (suc t) (omega arith) in omega arith;
  behind = λ k lt below of. done_no log (item_at plan k).job t (never k below of) ∙ h.behind k lt below of;
  here = λ below.
      let tells = h.here below in
      let other = never head.place below tells.of_task in
      record {
        of_task = tells.of_task;
        had = done_no log (item_of plan head).job t other ∙ tells.had;
        most = tells.most;
        due = current_stays tasks log t (item_of plan head) other ∙ tells.due;
      };
}

module _ (tasks : List Task) (plan : List PlanItem) (legal : IsLegal tasks plan) (log : Ticks) where
  -- a tick that goes to a head's item
  pub head_runs : (t task : ℕ) (head : Head) → IsHead tasks plan log t task head → head.place < length plan → head.had < (item_of plan head).cost → tick log t ≡ Some (item_of plan head).job → IsHead tasks plan log (suc t) task (ran tasks plan t 1 head)
  head_runs t task head h below short named =
      let item = item_of plan head in
      let tells = h.here below in
      let had = tells.had in
      let next = done_yes log item.job t named in
      let floor = floor_of tasks (its_task tasks item).resource in
      let due : current_deadline tasks log (suc t) item ≡ cond (eqb head.had 0) (lowered head.due t floor) head.due =
      current_runs tasks log t item named ∙ ap₂ (λ (n d : ℕ). cond (eqb n 0) (lowered d t floor) d) had tells.due in
      record {
        within = h.within;
        before = λ k lt of. let a = h.before k lt of in let g = done_grows log (item_at plan k).job t (suc t) (omega arith) in omega arith;
        behind = λ k lt under of. done_no log (item_at plan k).job t (λ e.
            let same : item.job ≡ (item_at plan k).job = some_same item.job (item_at plan k).job (sym named ∙ e) in
            let p = one_place tasks plan legal head.place k below under same in
            omega arith) ∙ h.behind k lt under of;
        here = λ _. record {
          of_task = tells.of_task;
          had = omega arith;
          most = omega arith;
          due = due;
        };
      }
    where
      some_same : (a b : Job) → Some a ≡ Some b → a ≡ b
      some_same a b e = cc

  -- a head whose item is done gives way to the task's next item
  pub head_next : (t task : ℕ) (head next : Head) → IsHead tasks plan log t task head → head.place < length plan → head.had ≡ (item_of plan head).cost → Starts tasks plan task (head.place + 1) next → IsHead tasks plan log t task next
  head_next t task head next h below full starts =
      let after = starts.after in
      record {
        within = starts.within;
        before = λ k lt of.
            ⊎_elim
            (λ (a : k < head.place). h.before k a of)
            (λ (a : head.place ≤ k).
            ⊎_elim
            (λ (e : head.place ≡ k).
            let had = (h.here below).had in
            let P : ℕ → Type 0 = λ m. (item_at plan m).cost ≤ done log (item_at plan m).job t in
            subst P e (omega arith))
            (λ (ne : head.place ≡ k → ⊥). absurd (starts.between k (omega arith) lt of))
            (cases_eq head.place k))
            (cases_lt k head.place);
        behind = λ k lt under of. h.behind k (omega arith) under of;
        here = λ under. fresh_head t task next starts under (h.behind next.place (omega arith) under (starts.of_task under));
      }
    where
      fresh_head : (t task : ℕ) (next : Head) → {from : ℕ} → Starts tasks plan task from next → next.place < length plan → done log (item_of plan next).job t ≡ 0 → TellsItem tasks log t task next (item_of plan next)
      fresh_head t task next starts under none =
          let fresh = starts.fresh in
          record { of_task = starts.of_task under; had = none ∙ sym fresh; most = omega arith; due = current_fresh tasks log t (item_of plan next) none ∙ sym (starts.due under) }

  -- at first the head is the task's first item
  pub head_first : (task : ℕ) (head : Head) → Starts tasks plan task 0 head → IsHead tasks plan log 0 task head
  head_first task head starts = record {
    within = starts.within;
    before = λ k lt of. absurd (starts.between k (omega arith) lt of);
    behind = λ k lt under of. done-zero log (item_at plan k).job;
    here = λ under.
        let none = done-zero log (item_of plan head).job in
        let fresh = starts.fresh in
        record { of_task = starts.of_task under; had = none ∙ sym fresh; most = omega arith; due = current_fresh tasks log 0 (item_of plan head) none ∙ sym (starts.due under) };
  }

-- a deadline that a floor lowers, and where there is no floor
pub lowered-some : (deadline first : ℕ) (floor : Option ℕ) (f : ℕ) → floor ≡ Some f → lowered deadline first floor ≡ min deadline (first + 1 + f)
unfolding lowered
lowered-some deadline first floor f e = ap (lowered deadline first) e

pub lowered-none : (deadline first : ℕ) (floor : Option ℕ) → floor ≡ None → lowered deadline first floor ≡ deadline
unfolding lowered
lowered-none deadline first floor e = ap (lowered deadline first) e

-- the floor that a set has for an item's task
pub floor_read : (tasks : List Task) (item : PlanItem) (task : Task) (floor : Option ℕ) → numbered tasks item.job.task ≡ Some task → floor ≡ floor_of tasks task.resource → floor_of tasks (its_task tasks item).resource ≡ floor
floor_read tasks item task floor at is = ap (λ (τ : Task). floor_of tasks τ.resource) (task_read tasks item.job.task task at) ∙ sym is
