-- Equal jobs, and what a tick names.
use Rattle.std.proofs.Common.{◌≡◌, ◌⊎◌, ℕ, true, false, eqb, Option, Some, None, refl, sym, ap, ap₂, subst, inl, inr, ⊎_elim, eqb-true, eq-eqb}
use Rattle.std.proofs.lemmas.Bool.{and_parts, and_from, both_ways, cases_Bool, false_from_ne_true}
use Rattle.yt_log.specs.declared.job.Job.{Job}
use Rattle.yt_log.specs.Plan.{same_job}
use Rattle.yt_log.specs.Ticks.{names}

pub same_job_true : (a b : Job) → same_job a b ≡ true → a ≡ b
unfolding same_job
same_job_true a b h =
    let parts = and_parts (eqb a.task b.task) (eqb a.number b.number) h in
    let made : ℕ → ℕ → Job = λ t n. record { task = t; number = n } in
    ap₂ made (eqb-true a.task b.task parts.0) (eqb-true a.number b.number parts.1)

pub same_job_refl : (a : Job) → same_job a a ≡ true
unfolding same_job
same_job_refl a = and_from (eqb a.task a.task) (eqb a.number a.number) (eq-eqb a.task a.task refl) (eq-eqb a.number a.number refl)

pub same_job_other : (a b : Job) → (a ≡ b → ⊥) → same_job a b ≡ false
same_job_other a b ne = false_from_ne_true (same_job a b) (λ e. ne (same_job_true a b e))

-- two jobs are one or not
pub cases_job : (a b : Job) → (a ≡ b) ⊎ (a ≡ b → ⊥)
cases_job a b =
    ⊎_elim
    (λ (e : same_job a b ≡ true). inl (same_job_true a b e))
    (λ (e : same_job a b ≡ false). inr (λ q. both_ways (same_job a b) e (subst (λ (x : Job). same_job a x ≡ true) q (same_job_refl a))))
    (cases_Bool (same_job a b))

pub names_true : (o : Option Job) (j : Job) → names o j ≡ true → o ≡ Some j
unfolding names
names_true None j h = cc
names_true (Some k) j h = ap (λ (x : Job). Some x) (same_job_true k j h)

pub names_some : (o : Option Job) (j : Job) → o ≡ Some j → names o j ≡ true
unfolding names
names_some o j e = let P : Option Job → Type 0 = λ x. names x j ≡ true in subst P (sym e) (same_job_refl j)
