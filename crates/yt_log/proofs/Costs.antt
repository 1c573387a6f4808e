-- Until a job is done its cost doesn't matter to the rule.
use Rattle.std.proofs.Common.{◌≡◌, ℕ, ◌≤◌, true, false, cond, ltb, List, [], ◌∷◌, length, Option, Some, None, refl, sym, ap, ap₂, subst, ◌∙◌, ⊎_elim, arith, lt-ltb}
use Rattle.std.proofs.lemmas.Bool.{cases_Bool, cond-true, cond-false}
use Rattle.yt_set.specs.declared.task.Task.{Task}
use Rattle.yt_log.specs.declared.job.Job.{Job}
use Rattle.yt_log.specs.declared.plan.PlanItem.{PlanItem}
use Rattle.yt_log.specs.Plan.{deadline_of}
use Rattle.yt_log.specs.Ticks.{Ticks, done}
use Rattle.yt_log.specs.EdfDdm.{current_deadline, rank, waits, sooner, least, job_of, choice}
use Rattle.yt_order.specs.Words.{precedes}
use Rattle.yt_log.specs.Laws.{IsUnfinished, IsSameSoFar, AreSameSoFar, RuleIsNonClairvoyant}
use Rattle.yt_log.proofs.Ticks.{done_grows}

-- the rank doesn't go by the cost
pub rank_like : (tasks : List Task) (log : Ticks) (t : ℕ) (a b : PlanItem) → a.job ≡ b.job → a.arrival ≡ b.arrival → rank tasks log t a ≡ rank tasks log t b
unfolding rank current_deadline deadline_of
rank_like tasks log t a b j e =
    let at : Job → ℕ → PlanItem = λ job arrival. record { job = job; arrival = arrival; cost = 0 } in
    ap₂ (λ (job : Job) (arrival : ℕ). rank tasks log t (at job arrival)) j e

-- neither does whether an item waits, where its job isn't done
waits_like : (log : Ticks) (t : ℕ) (a b : PlanItem) → IsSameSoFar log a b → t ≤ length log → waits log t a ≡ waits log t b
unfolding waits
waits_like log t a b like le =
    let j = like.job in
    let e = like.arrival in
    ⊎_elim
    (λ (c : a.cost ≡ b.cost). cc)
    (λ (u : IsUnfinished log a × IsUnfinished log b).
    let p = done_grows log a.job t (length log) le in
    let q = done_grows log b.job t (length log) le in
    let x : ltb (done log a.job t) a.cost ≡ true = lt-ltb (done log a.job t) a.cost (omega (arith, p, u.0)) in
    let y : ltb (done log b.job t) b.cost ≡ true = lt-ltb (done log b.job t) b.cost (omega (arith, q, u.1)) in
    cc)
    like.cost

module _ (key : PlanItem → List ℕ) where
  -- two items of one job and one rank, or none
  abbrev Same : Option PlanItem → Option PlanItem → Type 0
  Same None None = Unit {0}
  Same None (Some s) = ⊥
  Same (Some r) None = ⊥
  Same (Some r) (Some s) = (r.job ≡ s.job) × (key r ≡ key s)

  sooner_like : (x y : PlanItem) → x.job ≡ y.job → key x ≡ key y → (o o' : Option PlanItem) → Same o o' → Same (Some (sooner key x o)) (Some (sooner key y o'))
  unfolding sooner
  sooner_like x y j k None None h = (j, k)
  sooner_like x y j k None (Some s) h = absurd h
  sooner_like x y j k (Some r) None h = absurd h
  sooner_like x y j k (Some r) (Some s) h =
      let b : precedes (key s) (key y) ≡ precedes (key r) (key x) = ap₂ (λ (u v : List ℕ). precedes u v) (sym h.1) (sym k) in
      let P : PlanItem → PlanItem → Type 0 = λ u v. (u.job ≡ v.job) × (key u ≡ key v) in
      ⊎_elim
      (λ (e : precedes (key r) (key x) ≡ true).
      let u : cond (precedes (key r) (key x)) r x ≡ r = cond-true (precedes (key r) (key x)) r x e in
      let v : cond (precedes (key s) (key y)) s y ≡ s = cond-true (precedes (key s) (key y)) s y (b ∙ e) in
      subst (λ (w : PlanItem). P w (cond (precedes (key s) (key y)) s y)) (sym u) (subst (λ (w : PlanItem). P r w) (sym v) h))
      (λ (e : precedes (key r) (key x) ≡ false).
      let u : cond (precedes (key r) (key x)) r x ≡ x = cond-false (precedes (key r) (key x)) r x e in
      let v : cond (precedes (key s) (key y)) s y ≡ y = cond-false (precedes (key s) (key y)) s y (b ∙ e) in
      subst (λ (w : PlanItem). P w (cond (precedes (key s) (key y)) s y)) (sym u) (subst (λ (w : PlanItem). P x w) (sym v) (j, k)))
      (cases_Bool (precedes (key r) (key x)))

  same_job_of : (o o' : Option PlanItem) → Same o o' → job_of o ≡ job_of o'
  unfolding job_of
  same_job_of None None h = refl
  same_job_of None (Some s) h = absurd h
  same_job_of (Some r) None h = absurd h
  same_job_of (Some r) (Some s) h = ap (λ (j : Job). Some j) h.0

least_like : (tasks : List Task) (log : Ticks) (t : ℕ) → t ≤ length log → (xs ys : List PlanItem) → AreSameSoFar log xs ys →
    Same (rank tasks log t) (least (rank tasks log t) (waits log t) xs) (least (rank tasks log t) (waits log t) ys)
unfolding least
least_like tasks log t le [] [] like = tt
least_like tasks log t le [] (y ∷ ys) like = absurd like
least_like tasks log t le (x ∷ xs) [] like = absurd like
least_like tasks log t le (x ∷ xs) (y ∷ ys) like =
    let key = rank tasks log t in
    let p = waits log t in
    let o = least key p xs in
    let o' = least key p ys in
    let w : p x ≡ p y = waits_like log t x y like.0 le in
    let k : key x ≡ key y = rank_like tasks log t x y like.0.job like.0.arrival in
    let rest = least_like tasks log t le xs ys like.1 in
    ⊎_elim
    (λ (e : p x ≡ true).
    let u : cond (p x) (Some (sooner key x o)) o ≡ Some (sooner key x o) = cond-true (p x) (Some (sooner key x o)) o e in
    let v : cond (p y) (Some (sooner key y o')) o' ≡ Some (sooner key y o') = cond-true (p y) (Some (sooner key y o')) o' (sym w ∙ e) in
    subst (λ (z : Option PlanItem). Same key z (cond (p y) (Some (sooner key y o')) o')) (sym u)
    (subst (λ (z : Option PlanItem). Same key (Some (sooner key x o)) z) (sym v) (sooner_like key x y like.0.job k o o' rest)))
    (λ (e : p x ≡ false).
    let u : cond (p x) (Some (sooner key x o)) o ≡ o = cond-false (p x) (Some (sooner key x o)) o e in
    let v : cond (p y) (Some (sooner key y o')) o' ≡ o' = cond-false (p y) (Some (sooner key y o')) o' (sym w ∙ e) in
    subst (λ (z : Option PlanItem). Same key z (cond (p y) (Some (sooner key y o')) o')) (sym u) (subst (λ (z : Option PlanItem). Same key o z) (sym v) rest))
    (cases_Bool (p x))

choice_like : (tasks : List Task) (plan other : List PlanItem) (log : Ticks) → AreSameSoFar log plan other → (t : ℕ) → t ≤ length log → choice tasks plan log t ≡ choice tasks other log t
unfolding choice
choice_like tasks plan other log like t le =
    same_job_of (rank tasks log t) (least (rank tasks log t) (waits log t) plan) (least (rank tasks log t) (waits log t) other) (least_like tasks log t le plan other like)

pub rule_is_non_clairvoyant : RuleIsNonClairvoyant
rule_is_non_clairvoyant = record {
  choice = choice_like;
  rule = λ tasks plan other log like rule t lt. rule t lt ∙ choice_like tasks plan other log like t (omega arith);
}
