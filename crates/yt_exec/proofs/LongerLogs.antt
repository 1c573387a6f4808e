-- A log with one more tick, and the entries at its end.
use Rattle.std.proofs.Common.{◌≡◌, ℕ, zero, suc, ◌+◌, ◌<◌, ◌≤◌, Bool, true, false, cond, eqb, List, [], ◌∷◌, ◌++◌, length, Option, Some, None, refl, sym, ap, ap₂, ◌∙◌, ⊎_elim, arith, length-append, eq-eqb, ne_eqb}
use Rattle.std.proofs.lemmas.Bool.{cases_eq, cond-true, cond-false}
use Rattle.std.proofs.lemmas.List.{get_or_append_left, get_or_at}
use Rattle.yt_set.specs.declared.task.Task.{Task}
use Rattle.yt_set.specs.Tasks.{floor_of}
use Rattle.yt_log.specs.declared.job.Job.{Job}
use Rattle.yt_log.specs.declared.plan.PlanItem.{PlanItem}
use Rattle.yt_log.specs.Plan.{its_task, deadline_of}
use Rattle.yt_log.specs.Ticks.{Ticks, tick, names, done, first_tick}
use Rattle.yt_log.specs.EdfDdm.{lowered, current_deadline, rank as log_rank}
use Rattle.yt_log.proofs.Lemmas.{done_yes, done_no, first-suc, first-suc_zero}
use Rattle.yt_log.proofs.Lemmas.{current_fresh}
use Rattle.yt_order.specs.Words.{precedes}
use Rattle.yt_ready.specs.declared.entry.Entry.{Entry}
use Rattle.yt_ready.specs.Order.{rank, comes_before}
use Rattle.yt_exec.specs.Moments.{after_tick}
use Rattle.yt_exec.specs.StandsFor.{entry_of}

module _ (log : Ticks) (o : Option Job) where
  more : Ticks
  more = log ++ o ∷ []

  tick_before : (t : ℕ) → t < length log → tick more t ≡ tick log t
  unfolding more tick
  tick_before t h = get_or_append_left log (o ∷ []) None t h

  tick_last : tick more (length log) ≡ o
  unfolding more tick
  tick_last = get_or_at log o [] None (length log) refl

  done_before : (j : Job) (t : ℕ) → t ≤ length log → done more j t ≡ done log j t
  unfolding done
  done_before j zero h = refl
  done_before j (suc t) h = ap₂ (λ (n : ℕ) (x : Option Job). n + cond (names x j) 1 0) (done_before j t (omega arith)) (tick_before t (omega arith))

  first_before : (j : Job) (t : ℕ) → t ≤ length log → first_tick more j t ≡ first_tick log j t
  unfolding first_tick
  first_before j zero h = refl
  first_before j (suc t) h = ap₂ (λ (n m : ℕ). cond (eqb n 0) t m) (done_before j t (omega arith)) (first_before j t (omega arith))

  long : length more ≡ suc (length log)
  unfolding more
  long = let l = length-append log (o ∷ []) in omega arith

  pub done_ran : (j : Job) → o ≡ Some j → done (log ++ o ∷ []) j (length (log ++ o ∷ [])) ≡ suc (done log j (length log))
  unfolding more
  done_ran j e = ap (done more j) long ∙ done_yes more j (length log) (tick_last ∙ e) ∙ ap suc (done_before j (length log) (omega arith))

  pub done_else : (j : Job) → (o ≡ Some j → ⊥) → done (log ++ o ∷ []) j (length (log ++ o ∷ [])) ≡ done log j (length log)
  unfolding more
  done_else j ne = ap (done more j) long ∙ done_no more j (length log) (λ e. ne (sym tick_last ∙ e)) ∙ done_before j (length log) (omega arith)

  first_more : (j : Job) → 0 < done log j (length log) → first_tick more j (length more) ≡ first_tick log j (length log)
  first_more j h =
      let d = done_before j (length log) (omega arith) in
      ap (first_tick more j) long ∙ first-suc more j (length log) (omega arith) ∙ first_before j (length log) (omega arith)

  first_new : (j : Job) → done log j (length log) ≡ 0 → first_tick more j (length more) ≡ length log
  first_new j h =
      let d = done_before j (length log) (omega arith) in
      ap (first_tick more j) long ∙ first-suc_zero more j (length log) (d ∙ h)

current_begun : (tasks : List Task) (log : Ticks) (t : ℕ) (i : PlanItem) → 0 < done log i.job t → current_deadline tasks log t i ≡ lowered (deadline_of tasks i) (first_tick log i.job t) (floor_of tasks (its_task tasks i).resource)
unfolding current_deadline
current_begun tasks log t i h =
    cond-false (eqb (done log i.job t) 0) (deadline_of tasks i) (lowered (deadline_of tasks i) (first_tick log i.job t) (floor_of tasks (its_task tasks i).resource)) (ne_eqb (done log i.job t) 0 (λ e. absurd (omega arith)))

begun_yes : (n : ℕ) → 0 < n → cond (eqb n 0) false true ≡ true
begun_yes n h = cond-false (eqb n 0) false true (ne_eqb n 0 (λ e. absurd (omega arith)))

begun_no : (n : ℕ) → n ≡ 0 → cond (eqb n 0) false true ≡ false
begun_no n h = cond-true (eqb n 0) false true (eq-eqb n 0 h)

pub entry_begun : (tasks : List Task) (log : Ticks) (i : PlanItem) → 0 < done log i.job (length log) → (entry_of tasks log i).begun ≡ true
entry_begun tasks log i h = begun_yes (done log i.job (length log)) h

pub entry_not : (tasks : List Task) (log : Ticks) (i : PlanItem) → done log i.job (length log) ≡ 0 → (entry_of tasks log i).begun ≡ false
entry_not tasks log i h = begun_no (done log i.job (length log)) h

made : PlanItem → ℕ → Bool → Entry
made i deadline begun = record { deadline = deadline; begun = begun; arrival = i.arrival; task = i.job.task; number = i.job.number }

module _ (tasks : List Task) (log : Ticks) (o : Option Job) (i : PlanItem) where
  d : ℕ
  d = deadline_of tasks i

  floor : Option ℕ
  floor = floor_of tasks (its_task tasks i).resource

  current_else : (o ≡ Some i.job → ⊥) → current_deadline tasks (log ++ o ∷ []) (length (log ++ o ∷ [])) i ≡ current_deadline tasks log (length log) i
  unfolding more
  current_else ne =
      let s = done_else log o i.job ne in
      ⊎_elim
      (λ (z : done log i.job (length log) ≡ 0). current_fresh tasks (log ++ o ∷ []) (length (log ++ o ∷ [])) i (s ∙ z) ∙ sym (current_fresh tasks log (length log) i z))
      (λ (nz : done log i.job (length log) ≡ 0 → ⊥).
      let h : 0 < done log i.job (length log) = omega arith in
      current_begun tasks (log ++ o ∷ []) (length (log ++ o ∷ [])) i (omega arith)
      ∙ ap (λ (t : ℕ). lowered (deadline_of tasks i) t (floor_of tasks (its_task tasks i).resource)) (first_more log o i.job h)
      ∙ sym (current_begun tasks log (length log) i h))
      (cases_eq (done log i.job (length log)) 0)

  -- a tick that goes to another job leaves an entry
  pub entry_else : (o ≡ Some i.job → ⊥) → entry_of tasks (log ++ o ∷ []) i ≡ entry_of tasks log i
  unfolding made
  entry_else ne =
      ap₂ (made i) (current_else ne) (ap (λ (n : ℕ). cond (eqb n 0) false true) (done_else log o i.job ne))

  -- a tick that goes to its job may lower its deadline
  pub entry_ran : o ≡ Some i.job → entry_of tasks (log ++ o ∷ []) i ≡ after_tick tasks (length log) (entry_of tasks log i)
  unfolding made more
  entry_ran e =
      let s = done_ran log o i.job e in
      let n = length log in
      let entry = entry_of tasks log i in
      let fl = floor_of tasks (its_task tasks i).resource in
      let now : current_deadline tasks (log ++ o ∷ []) (length (log ++ o ∷ [])) i ≡ lowered (deadline_of tasks i) (first_tick (log ++ o ∷ []) i.job (length (log ++ o ∷ []))) fl = current_begun tasks (log ++ o ∷ []) (length (log ++ o ∷ [])) i (omega arith) in
      let same : current_deadline tasks (log ++ o ∷ []) (length (log ++ o ∷ [])) i ≡ cond entry.begun entry.deadline (lowered entry.deadline n fl) =
      ⊎_elim
      (λ (z : done log i.job n ≡ 0).
      now
      ∙ ap₂ (λ (x t : ℕ). lowered x t fl) (sym (current_fresh tasks log n i z)) (first_new log o i.job z)
      ∙ sym (cond-false entry.begun entry.deadline (lowered entry.deadline n fl) (begun_no (done log i.job n) z)))
      (λ (nz : done log i.job n ≡ 0 → ⊥).
      let h : 0 < done log i.job n = omega arith in
      now
      ∙ ap (λ (t : ℕ). lowered (deadline_of tasks i) t fl) (first_more log o i.job h)
      ∙ sym (current_begun tasks log n i h)
      ∙ sym (cond-true entry.begun entry.deadline (lowered entry.deadline n fl) (begun_yes (done log i.job n) h)))
      (cases_eq (done log i.job n) 0) in
      ap₂ (made i) same (begun_yes (done (log ++ o ∷ []) i.job (length (log ++ o ∷ []))) (omega arith))

-- entries come in the order of the rule
same_word : (b : Bool) → cond {A = ℕ} (cond b false true) 0 1 ≡ cond {A = ℕ} b 1 0
same_word true = refl
same_word false = refl

same_rank : (tasks : List Task) (log : Ticks) (i : PlanItem) → rank (entry_of tasks log i) ≡ log_rank tasks log (length log) i
unfolding rank log_rank
same_rank tasks log i =
    ap (λ (w : ℕ). current_deadline tasks log (length log) i ∷ w ∷ i.arrival ∷ i.job.task ∷ i.job.number ∷ []) (same_word (eqb (done log i.job (length log)) 0))

pub same_order : (tasks : List Task) (log : Ticks) (a b : PlanItem) → comes_before (entry_of tasks log a) (entry_of tasks log b) ≡ precedes (log_rank tasks log (length log) a) (log_rank tasks log (length log) b)
same_order tasks log a b =
    ap₂ precedes (same_rank tasks log a) (same_rank tasks log b)
