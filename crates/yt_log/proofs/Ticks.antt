-- How what is done of a job grows, and its first tick.
use Rattle.std.proofs.Common.{◌≡◌, ℕ, zero, suc, ◌+◌, ◌<◌, ◌≤◌, ◌⊎◌, cond, eqb, Some, refl, sym, ap, subst, ◌∙◌, inl, inr, ⊎_elim, arith, eq-eqb, ne_eqb}
use Rattle.std.proofs.lemmas.Bool.{cases_Bool, cases_lt, cases_eq, false_from_ne_true, cond-true, cond-false, both_ways}
use Rattle.yt_log.specs.declared.job.Job.{Job}
use Rattle.yt_log.specs.Ticks.{Ticks, tick, names, done, first_tick}
use Rattle.yt_log.proofs.Jobs.{names_true, names_some}

pub done-zero : (log : Ticks) (j : Job) → done log j 0 ≡ 0
unfolding done
done-zero log j = refl

pub done-suc : (log : Ticks) (j : Job) (t : ℕ) → done log j (suc t) ≡ done log j t + cond (names (tick log t) j) 1 0
unfolding done
done-suc log j t = refl

-- a tick that goes to the job
pub done_yes : (log : Ticks) (j : Job) (t : ℕ) → tick log t ≡ Some j → done log j (suc t) ≡ suc (done log j t)
done_yes log j t e =
    let c : cond {A = ℕ} (names (tick log t) j) 1 0 ≡ 1 = cond-true (names (tick log t) j) 1 0 (names_some (tick log t) j e) in
    let s = done-suc log j t in
    omega arith

pub done_no : (log : Ticks) (j : Job) (t : ℕ) → (tick log t ≡ Some j → ⊥) → done log j (suc t) ≡ done log j t
done_no log j t never =
    let c : cond {A = ℕ} (names (tick log t) j) 1 0 ≡ 0 = cond-false (names (tick log t) j) 1 0 (false_from_ne_true (names (tick log t) j) (λ h. never (names_true (tick log t) j h))) in
    let s = done-suc log j t in
    omega arith

pub tick_or_not : (log : Ticks) (j : Job) (t : ℕ) → (tick log t ≡ Some j) ⊎ (tick log t ≡ Some j → ⊥)
tick_or_not log j t = ⊎_elim (λ h. inl (names_true (tick log t) j h)) (λ h. inr (λ e. both_ways (names (tick log t) j) h (names_some (tick log t) j e))) (cases_Bool (names (tick log t) j))

pub done_step : (log : Ticks) (j : Job) (t : ℕ) → (done log j t ≤ done log j (suc t)) × (done log j (suc t) ≤ suc (done log j t))
done_step log j t =
    ⊎_elim
    (λ (e : tick log t ≡ Some j). let s = done_yes log j t e in omega arith)
    (λ (never : tick log t ≡ Some j → ⊥). let s = done_no log j t never in omega arith)
    (tick_or_not log j t)

pub done_grows : (log : Ticks) (j : Job) (t u : ℕ) → t ≤ u → done log j t ≤ done log j u
done_grows log j t zero h = let e : t ≡ 0 = omega arith in let P : ℕ → Type 0 = λ x. done log j x ≤ done log j 0 in subst P (sym e) (omega arith)
done_grows log j t (suc u) h =
    ⊎_elim
    (λ (lt : t < suc u). let g = done_grows log j t u (omega arith) in let s = done_step log j u in omega arith)
    (λ (ge : suc u ≤ t). let e : t ≡ suc u = omega arith in let P : ℕ → Type 0 = λ x. done log j x ≤ done log j (suc u) in subst P (sym e) (omega arith))
    (cases_lt t (suc u))

-- the first tick of a job that has begun: it names the job, of which nothing was done
pub record IsFirst (log : Ticks) (j : Job) (b t : ℕ) : Type 0 where
  pub below : b < t
  pub names : tick log b ≡ Some j
  pub fresh : done log j b ≡ 0

pub first-suc_zero : (log : Ticks) (j : Job) (t : ℕ) → done log j t ≡ 0 → first_tick log j (suc t) ≡ t
unfolding first_tick
first-suc_zero log j t e = cond-true (eqb (done log j t) 0) t (first_tick log j t) (eq-eqb (done log j t) 0 e)

pub first-suc : (log : Ticks) (j : Job) (t : ℕ) → 0 < done log j t → first_tick log j (suc t) ≡ first_tick log j t
unfolding first_tick
first-suc log j t h = cond-false (eqb (done log j t) 0) t (first_tick log j t) (ne_eqb (done log j t) 0 (λ e. absurd (omega arith)))

pub first_is : (log : Ticks) (j : Job) (t : ℕ) → 0 < done log j t → IsFirst log j (first_tick log j t) t
first_is log j zero h = let z = done-zero log j in absurd (omega arith)
first_is log j (suc t) h =
    ⊎_elim
    (λ (e : done log j t ≡ 0).
    let names : tick log t ≡ Some j = ⊎_elim (λ (y : tick log t ≡ Some j). y) (λ (never : tick log t ≡ Some j → ⊥). let s = done_no log j t never in absurd (omega arith)) (tick_or_not log j t) in
    let P : ℕ → Type 0 = λ b. IsFirst log j b (suc t) in
    subst P (sym (first-suc_zero log j t e)) (record { below = omega arith; names = names; fresh = e }))
    (λ (ne : done log j t ≡ 0 → ⊥).
    let pos : 0 < done log j t = omega arith in
    let f = first_is log j t pos in
    let P : ℕ → Type 0 = λ b. IsFirst log j b (suc t) in
    subst P (sym (first-suc log j t pos)) (record { below = omega (arith, f.below); names = f.names; fresh = f.fresh }))
    (cases_eq (done log j t) 0)

pub first_stays : (log : Ticks) (j : Job) (t u : ℕ) → 0 < done log j t → t ≤ u → first_tick log j u ≡ first_tick log j t
first_stays log j t zero h le = ap (first_tick log j) (omega arith)
first_stays log j t (suc u) h le =
    ⊎_elim
    (λ (lt : t < suc u). let g = done_grows log j t u (omega arith) in first-suc log j u (omega arith) ∙ first_stays log j t u h (omega arith))
    (λ (ge : suc u ≤ t). ap (first_tick log j) (omega arith))
    (cases_lt t (suc u))
