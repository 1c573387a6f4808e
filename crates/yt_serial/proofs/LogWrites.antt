-- A log with one tick more, and what its ticks write.
use Rattle.std.proofs.Common.{◌≡◌, ◌⊎◌, ℕ, zero, suc, ◌+◌, ◌-◌, ◌<◌, ◌≤◌, cond, List, [], ◌∷◌, ◌++◌, length, Option, None, Some, refl, sym, ap, ap₂, ◌∙◌, inl, inr, ⊎_elim, arith, append-nil}
use Rattle.std.proofs.lemmas.Bool.{cases_eq, cases_lt, cond-true, cond-false}
use Rattle.std.proofs.lemmas.List.{length-append, get_or_push, get_or_past}
use Rattle.std.proofs.lemmas.Option.{none-some}
use Rattle.yt_graph.specs.declared.handled.Write.{Write}
use Rattle.yt_log.specs.declared.job.Job.{Job}
use Rattle.yt_log.specs.Plan.{same_job}
use Rattle.yt_log.specs.Tasks.{Has}
use Rattle.yt_log.specs.Ticks.{Ticks, tick, done}
use Rattle.yt_log.proofs.Lemmas.{same_job_other, same_job_refl}
use Rattle.yt_log.proofs.Lemmas.{done_yes, done_no, done_grows}
use Rattle.yt_serial.specs.Laws.{VariablesStay}
use Rattle.yt_serial.specs.SerialHandling.{Handled}
use Rattle.yt_log.proofs.Lemmas.{Agree, done_same}
use Rattle.yt_serial.proofs.Prefix.{agree_append, done-append}
use Rattle.yt_serial.specs.Variables.{after_writes, writes_at, writes_of, writes_in, writes_below}

pub writes_below-suc : (handled : List Handled) (log : Ticks) (t : ℕ) → writes_below handled log (suc t) ≡ writes_below handled log t ++ writes_in handled log t (tick log t)
unfolding writes_below
writes_below-suc handled log t = refl

writes_in_same : (handled : List Handled) (a b : Ticks) (t : ℕ) (o : Option Job) → Agree a b t → writes_in handled a t o ≡ writes_in handled b t o
unfolding writes_in
writes_in_same handled a b t None h = refl
writes_in_same handled a b t (Some j) h = ap (λ (n : ℕ). writes_at n (writes_of handled j)) (done_same a b j t h)

pub writes_below_same : (handled : List Handled) (a b : Ticks) (t : ℕ) → Agree a b t → writes_below handled a t ≡ writes_below handled b t
unfolding writes_below
writes_below_same handled a b zero h = refl
writes_below_same handled a b (suc t) h =
    let less : Agree a b t = λ u l. h u (omega arith) in
    ap₂ (λ (xs ys : List Write). xs ++ ys) (writes_below_same handled a b t less)
    (writes_in_same handled a b t (tick a t) less ∙ ap (writes_in handled b t) (h t (omega arith)))

pub writes_below_prefix : (handled : List Handled) (log more : Ticks) (t : ℕ) → t ≤ length log → writes_below handled (log ++ more) t ≡ writes_below handled log t
writes_below_prefix handled log more t le = writes_below_same handled (log ++ more) log t (agree_append log more t le)

pub writes_in_job : (handled : List Handled) (log : Ticks) (t : ℕ) (j : Job) → writes_in handled log t (Some j) ≡ writes_at (done log j t) (writes_of handled j)
unfolding writes_in
writes_in_job handled log t j = refl

pub writes_in_idle : (handled : List Handled) (log : Ticks) (t : ℕ) → writes_in handled log t None ≡ []
unfolding writes_in
writes_in_idle handled log t = refl

-- the writes of another job
pub writes_of_push_other : (handled : List Handled) (x : Handled) (j : Job) → (x.item.job ≡ j → ⊥) → writes_of (handled ++ x ∷ []) j ≡ writes_of handled j
unfolding writes_of
writes_of_push_other [] x j ne = cond-false (same_job x.item.job j) x.writes [] (same_job_other x.item.job j ne)
writes_of_push_other (y ∷ handled) x j ne = ap (λ (ws : List Write). cond (same_job y.item.job j) y.writes ws) (writes_of_push_other handled x j ne)

-- the writes of a job that is new
pub writes_of_push_same : (handled : List Handled) (x : Handled) → ((z : Handled) → Has handled z → z.item.job ≡ x.item.job → ⊥) → writes_of (handled ++ x ∷ []) x.item.job ≡ x.writes
unfolding writes_of
writes_of_push_same [] x fresh = cond-true (same_job x.item.job x.item.job) x.writes [] (same_job_refl x.item.job)
writes_of_push_same (y ∷ handled) x fresh =
    cond-false (same_job y.item.job x.item.job) y.writes (writes_of (handled ++ x ∷ []) x.item.job) (same_job_other y.item.job x.item.job (fresh y (inl refl)))
    ∙ writes_of_push_same handled x (λ z h. fresh z (inr h))

writes_in_push : (handled : List Handled) (x : Handled) (log : Ticks) (t : ℕ) (o : Option Job) → (o ≡ Some x.item.job → ⊥) → writes_in (handled ++ x ∷ []) log t o ≡ writes_in handled log t o
unfolding writes_in
writes_in_push handled x log t None ne = refl
writes_in_push handled x log t (Some j) ne = ap (writes_at (done log j t)) (writes_of_push_other handled x j (λ e. ne (ap (λ (k : Job). Some k) (sym e))))

-- a job that has no tick so far adds no writes
pub writes_below_more : (handled : List Handled) (x : Handled) (log : Ticks) (t : ℕ) → done log x.item.job t ≡ 0 → writes_below (handled ++ x ∷ []) log t ≡ writes_below handled log t
unfolding writes_below
writes_below_more handled x log zero none = refl
writes_below_more handled x log (suc t) none =
    let g = done_grows log x.item.job t (suc t) (omega arith) in
    ap₂ (λ (xs ys : List Write). xs ++ ys) (writes_below_more handled x log t (omega arith))
    (writes_in_push handled x log t (tick log t) (λ e. let y = done_yes log x.item.job t e in absurd (omega arith)))

pub writes_below_zero : (handled : List Handled) (log : Ticks) → writes_below handled log 0 ≡ []
unfolding writes_below
writes_below_zero handled log = refl

module _ (log : Ticks) (o : Option Job) where
  pub length_push : length (log ++ o ∷ []) ≡ suc (length log)
  length_push = length-append log (o ∷ []) ∙ omega arith

  pub tick_last : tick (log ++ o ∷ []) (length log) ≡ o
  unfolding tick
  tick_last = get_or_push log o None (length log) refl

  pub tick_past : (t : ℕ) → length log < t → tick (log ++ o ∷ []) t ≡ None
  unfolding tick
  tick_past t lt = let n = length_push in get_or_past (log ++ o ∷ []) t None (omega arith)

  pub tick_before : (t : ℕ) → t < length log → tick (log ++ o ∷ []) t ≡ tick log t
  tick_before t lt = agree_append log (o ∷ []) (length log) (omega arith) t lt

  pub done_before : (j : Job) (t : ℕ) → t ≤ length log → done (log ++ o ∷ []) j t ≡ done log j t
  done_before j t le = done-append log (o ∷ []) j t le

  -- a tick of the longer log is one of the log's, or the last
  pub tick_cases : (j : Job) (t : ℕ) → tick (log ++ o ∷ []) t ≡ Some j → ((t < length log) × (tick log t ≡ Some j)) ⊎ ((t ≡ length log) × (o ≡ Some j))
  tick_cases j t h =
      ⊎_elim
      (λ (lt : t < length log). inl (lt, sym (tick_before t lt) ∙ h))
      (λ (ge : length log ≤ t).
      ⊎_elim
      (λ (e : length log ≡ t). inr (sym e, sym tick_last ∙ ap (tick (log ++ o ∷ [])) e ∙ h))
      (λ (ne : length log ≡ t → ⊥). absurd (none-some j (sym (tick_past t (omega arith)) ∙ h)))
      (cases_eq (length log) t))
      (cases_lt t (length log))

  -- what is done of a job at the end of the longer log
  pub done_other : (j : Job) → (o ≡ Some j → ⊥) → done (log ++ o ∷ []) j (length (log ++ o ∷ [])) ≡ done log j (length log)
  done_other j ne =
      ap (done (log ++ o ∷ []) j) length_push
      ∙ done_no (log ++ o ∷ []) j (length log) (λ h. ne (sym tick_last ∙ h))
      ∙ done_before j (length log) (omega arith)

  pub done_this : (j : Job) → o ≡ Some j → done (log ++ o ∷ []) j (length (log ++ o ∷ [])) ≡ suc (done log j (length log))
  done_this j e =
      ap (done (log ++ o ∷ []) j) length_push
      ∙ done_yes (log ++ o ∷ []) j (length log) (tick_last ∙ e)
      ∙ ap suc (done_before j (length log) (omega arith))

  pub writes_below_push : (handled : List Handled)
      → writes_below handled (log ++ o ∷ []) (length (log ++ o ∷ [])) ≡ writes_below handled log (length log) ++ writes_in handled log (length log) o
  writes_below_push handled =
      ap (writes_below handled (log ++ o ∷ [])) length_push
      ∙ writes_below-suc handled (log ++ o ∷ []) (length log)
      ∙ ap₂ (λ (xs ys : List Write). xs ++ ys)
      (writes_below_same handled (log ++ o ∷ []) log (length log) (agree_append log (o ∷ []) (length log) (omega arith)))
      (ap (writes_in handled (log ++ o ∷ []) (length log)) tick_last ∙ writes_in_same handled (log ++ o ∷ []) log (length log) o (agree_append log (o ∷ []) (length log) (omega arith)))

none_past : (log : Ticks) (t : ℕ) → length log ≤ t → tick log t ≡ None
unfolding tick
none_past log t le = get_or_past log t None le

-- idle ticks write nothing
pub writes_idle : (handled : List Handled) (log : Ticks) (t n : ℕ) → ((u : ℕ) → t ≤ u → tick log u ≡ None) → writes_below handled log (t + n) ≡ writes_below handled log t
writes_idle handled log t zero idle = ap (writes_below handled log) (omega arith)
writes_idle handled log t (suc n) idle =
    ap (writes_below handled log) (omega arith)
    ∙ writes_below-suc handled log (t + n)
    ∙ ap (λ (ws : List Write). writes_below handled log (t + n) ++ ws) (ap (writes_in handled log (t + n)) (idle (t + n) (omega arith)) ∙ writes_in_idle handled log (t + n))
    ∙ append-nil (writes_below handled log (t + n))
    ∙ writes_idle handled log t n idle

pub variables_stay : VariablesStay
variables_stay vars handled log t le =
    let e : t ≡ length log + (t - length log) = omega arith in
    ap (λ (ws : List Write). after_writes ws vars) (ap (writes_below handled log) e ∙ writes_idle handled log (length log) (t - length log) (none_past log))
