-- The order in which the jobs of a log begin: which jobs it has, and how it goes on.
use Rattle.std.proofs.Common.{◌≡◌, ℕ, zero, suc, ◌+◌, ◌<◌, ◌≤◌, eqb, List, [], ◌∷◌, ◌++◌, Option, None, Some, sym, ap, subst, ◌∙◌, inl, ⊎_elim, arith, eq-eqb, ne_eqb, append_assoc, append-nil}
use Rattle.std.proofs.lemmas.Bool.{cases_eq, cases_lt, cond-true, cond-false}
use Rattle.std.proofs.lemmas.Option.{none-some, same_Some}
use Rattle.yt_log.specs.declared.job.Job.{Job}
use Rattle.yt_log.specs.Tasks.{Has}
use Rattle.yt_log.specs.Ticks.{Ticks, tick, done}
use Rattle.yt_log.proofs.Lemmas.{has_append, has_left, has_right}
use Rattle.yt_log.proofs.Lemmas.{done-zero, done_yes, done_no, done_grows, tick_or_not}
use Rattle.yt_serial.specs.Beginnings.{newcomer, begun_below}
use Rattle.yt_serial.proofs.Done.{begun-suc}

is_newcomer : (log : Ticks) (u : ℕ) (o : Option Job) (j : Job) → Has (newcomer log u o) j → o ≡ Some j
unfolding newcomer
is_newcomer log u None j h = absurd h
is_newcomer log u (Some k) j h =
    ⊎_elim
    (λ (e : done log k u ≡ 0).
    ⊎_elim (λ (q : j ≡ k). ap (λ (x : Job). Some x) (sym q)) (λ (q : ⊥). absurd q)
    (subst (λ (xs : List Job). Has xs j) (cond-true {A = List Job} (eqb (done log k u) 0) (k ∷ []) [] (eq-eqb (done log k u) 0 e)) h))
    (λ (ne : done log k u ≡ 0 → ⊥).
    absurd (subst (λ (xs : List Job). Has xs j) (cond-false {A = List Job} (eqb (done log k u) 0) (k ∷ []) [] (ne_eqb (done log k u) 0 ne)) h))
    (cases_eq (done log k u) 0)

newcomer_has : (log : Ticks) (u : ℕ) (o : Option Job) (j : Job) → o ≡ Some j → done log j u ≡ 0 → Has (newcomer log u o) j
unfolding newcomer
newcomer_has log u None j e none = absurd (none-some j e)
newcomer_has log u (Some k) j e none =
    let same : k ≡ j = same_Some k j e in
    let zero_k : done log k u ≡ 0 = ap (λ (x : Job). done log x u) same ∙ none in
    subst (λ (xs : List Job). Has xs j) (sym (cond-true {A = List Job} (eqb (done log k u) 0) (k ∷ []) [] (eq-eqb (done log k u) 0 zero_k))) (inl (sym same))

-- the jobs that begin after a tick have none before it
newcomers : (log : Ticks) (n t : ℕ) (o : Option Job) → n ≤ t → (j : Job) → Has (newcomer log t o) j → done log j n ≡ 0
unfolding newcomer
newcomers log n t None le j h = absurd h
newcomers log n t (Some k) le j h =
    ⊎_elim
    (λ (e : done log k t ≡ 0).
    let has : Has (k ∷ []) j = subst (λ (xs : List Job). Has xs j) (cond-true {A = List Job} (eqb (done log k t) 0) (k ∷ []) [] (eq-eqb (done log k t) 0 e)) h in
    ⊎_elim
    (λ (q : j ≡ k).
    let z : done log j t ≡ 0 = ap (λ (x : Job). done log x t) q ∙ e in
    let g = done_grows log j n t le in
    omega arith)
    (λ (q : ⊥). absurd q)
    has)
    (λ (ne : done log k t ≡ 0 → ⊥).
    absurd (subst (λ (xs : List Job). Has xs j) (cond-false {A = List Job} (eqb (done log k t) 0) (k ∷ []) [] (ne_eqb (done log k t) 0 ne)) h))
    (cases_eq (done log k t) 0)

-- the order of beginning goes on with jobs that had no tick before
pub record GoesOn (log : Ticks) (n t : ℕ) : Type 0 where
  pub later : List Job
  pub order : begun_below log t ≡ begun_below log n ++ later
  pub none : (j : Job) → Has later j → done log j n ≡ 0

pub goes_on : (log : Ticks) (n k : ℕ) → GoesOn log n (n + k)
goes_on log n zero = record { later = []; order = ap (begun_below log) (omega arith) ∙ sym (append-nil (begun_below log n)); none = λ j h. absurd h }
goes_on log n (suc k) =
    let before = goes_on log n k in
    let new = newcomer log (n + k) (tick log (n + k)) in
    record {
      later = before.later ++ new;
      order = ap (begun_below log) (omega arith) ∙ begun-suc log (n + k) ∙ ap (λ (xs : List Job). xs ++ new) before.order ∙ append_assoc (begun_below log n) before.later new;
      none = λ j h. ⊎_elim (λ (l : Has before.later j). before.none j l) (λ (l : Has new j). newcomers log n (n + k) (tick log (n + k)) (omega arith) j l) (has_append before.later new j h);
    }

-- a job has begun below u exactly where it has a tick there
pub begun_done : (log : Ticks) (u : ℕ) (j : Job) → Has (begun_below log u) j → 0 < done log j u
unfolding begun_below
begun_done log zero j h = absurd h
begun_done log (suc u) j h =
    let g1 = done_grows log j u (suc u) (omega arith) in
    ⊎_elim
    (λ (k : Has (begun_below log u) j). let d = begun_done log u j k in omega arith)
    (λ (k : Has (newcomer log u (tick log u)) j). let y = done_yes log j u (is_newcomer log u (tick log u) j k) in omega arith)
    (has_append (begun_below log u) (newcomer log u (tick log u)) j h)

pub done_begun : (log : Ticks) (u : ℕ) (j : Job) → 0 < done log j u → Has (begun_below log u) j
unfolding begun_below
done_begun log zero j lt = let z = done-zero log j in absurd (omega arith)
done_begun log (suc u) j lt =
    ⊎_elim
    (λ (some : 0 < done log j u). has_left (begun_below log u) (newcomer log u (tick log u)) j (done_begun log u j some))
    (λ (none : done log j u ≤ 0).
    ⊎_elim
    (λ (e : tick log u ≡ Some j). has_right (begun_below log u) (newcomer log u (tick log u)) j (newcomer_has log u (tick log u) j e (omega arith)))
    (λ (never : tick log u ≡ Some j → ⊥). let n = done_no log j u never in absurd (omega arith))
    (tick_or_not log j u))
    (cases_lt 0 (done log j u))
