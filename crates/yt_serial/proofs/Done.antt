-- How much of a job is done, tick by tick, and its first tick.
use Rattle.std.proofs.Common.{◌≡◌, ℕ, zero, suc, ◌<◌, ◌≤◌, true, false, cond, eqb, Option, Some, None, refl, ap, ◌∙◌, ⊎_elim, arith, eq-eqb, ne_eqb, List, [], ◌∷◌, ◌++◌, length, is_some, append-nil, max, zero-le}
use Rattle.std.proofs.lemmas.Bool.{cases_Bool, cases_lt, cond-true, cond-false}
use Rattle.yt_log.specs.declared.job.Job.{Job}
use Rattle.yt_log.specs.Ticks.{Ticks, tick, done, first_tick}
use Rattle.yt_log.proofs.Lemmas.{done-zero, done_yes, done_step, done_grows, first-suc_zero, first-suc}
use Rattle.yt_serial.specs.Beginnings.{newcomer, begun_below, busy_until}

-- no job is done faster than time goes by
pub done_within : (log : Ticks) (j : Job) (t : ℕ) → done log j t ≤ t
done_within log j zero = let z = done-zero log j in omega arith
done_within log j (suc t) = let s = done_step log j t in let w = done_within log j t in omega arith

-- a tick that goes to a job of which nothing is done is its first
pub first_tick_at : (log : Ticks) (j : Job) (b t : ℕ) → tick log b ≡ Some j → done log j b ≡ 0 → b < t → first_tick log j t ≡ b
first_tick_at log j b zero here fresh h = absurd (omega arith)
first_tick_at log j b (suc t) here fresh h =
    ⊎_elim
    (λ (lt : b < t). let y = done_yes log j b here in let g = done_grows log j (suc b) t lt in first-suc log j t (omega arith) ∙ first_tick_at log j b t here fresh lt)
    (λ (ge : t ≤ b). let e : t ≡ b = omega arith in first-suc_zero log j t (ap (done log j) e ∙ fresh) ∙ e)
    (cases_lt b t)

newcomer_fresh : (log : Ticks) (j : Job) (t : ℕ) → done log j t ≡ 0 → newcomer log t (Some j) ≡ j ∷ []
unfolding newcomer
newcomer_fresh log j t e = cond-true {A = List Job} (eqb (done log j t) 0) (j ∷ []) [] (eq-eqb (done log j t) 0 e)

newcomer_begun : (log : Ticks) (j : Job) (t : ℕ) → 0 < done log j t → newcomer log t (Some j) ≡ []
unfolding newcomer
newcomer_begun log j t h = cond-false {A = List Job} (eqb (done log j t) 0) (j ∷ []) [] (ne_eqb (done log j t) 0 (λ e. absurd (omega arith)))

pub begun-suc : (log : Ticks) (t : ℕ) → begun_below log (suc t) ≡ begun_below log t ++ newcomer log t (tick log t)
unfolding begun_below
begun-suc log t = refl

-- a tick that goes to a job of which nothing is done
pub begun_fresh : (log : Ticks) (j : Job) (t : ℕ) → tick log t ≡ Some j → done log j t ≡ 0 → begun_below log (suc t) ≡ begun_below log t ++ j ∷ []
begun_fresh log j t here fresh = begun-suc log t ∙ ap (λ (xs : List Job). begun_below log t ++ xs) (ap (newcomer log t) here ∙ newcomer_fresh log j t fresh)

-- a tick that goes to a job that has begun
pub begun_again : (log : Ticks) (j : Job) (t : ℕ) → tick log t ≡ Some j → 0 < done log j t → begun_below log (suc t) ≡ begun_below log t
begun_again log j t here begun =
    begun-suc log t ∙ ap (λ (xs : List Job). begun_below log t ++ xs) (ap (newcomer log t) here ∙ newcomer_begun log j t begun) ∙ append-nil (begun_below log t)

-- an idle tick
pub begun_idle : (log : Ticks) (t : ℕ) → tick log t ≡ None → begun_below log (suc t) ≡ begun_below log t
unfolding newcomer
begun_idle log t idle = begun-suc log t ∙ ap (λ (xs : List Job). begun_below log t ++ xs) (ap (newcomer log t) idle) ∙ append-nil (begun_below log t)

-- ticks in which no job begins
pub begun_stays : (log : Ticks) (t u : ℕ) → t ≤ u → ((v : ℕ) → t ≤ v → v < u → begun_below log (suc v) ≡ begun_below log v) → begun_below log u ≡ begun_below log t
begun_stays log t zero le stays = ap (begun_below log) (omega arith)
begun_stays log t (suc u) le stays =
    ⊎_elim
    (λ (lt : t < suc u). stays u (omega arith) (omega arith) ∙ begun_stays log t u (omega arith) (λ v a b. stays v a (omega arith)))
    (λ (ge : suc u ≤ t). ap (begun_below log) (omega arith))
    (cases_lt t (suc u))

busy-suc : (log : Ticks) (t : ℕ) → busy_until log (suc t) ≡ cond (is_some (tick log t)) (suc t) (busy_until log t)
unfolding busy_until
busy-suc log t = refl

-- where no tick from `bound` on goes to a job, the busy ticks end by then
pub busy_until_le : (log : Ticks) (bound t : ℕ) → ((u : ℕ) → bound ≤ u → tick log u ≡ None) → busy_until log t ≤ bound
unfolding busy_until
busy_until_le log bound zero idle = zero-le
busy_until_le log bound (suc t) idle =
    let rest = busy_until_le log bound t idle in
    let s = busy-suc log t in
    ⊎_elim
    (λ (lt : t < bound). ⊎_elim
    (λ (b : is_some (tick log t) ≡ true). let c = cond-true (is_some (tick log t)) (suc t) (busy_until log t) b in omega arith)
    (λ (b : is_some (tick log t) ≡ false). let c = cond-false (is_some (tick log t)) (suc t) (busy_until log t) b in omega arith)
    (cases_Bool (is_some (tick log t))))
    (λ (ge : bound ≤ t). let c = cond-false (is_some (tick log t)) (suc t) (busy_until log t) (ap (λ (o : Option Job). is_some o) (idle t ge)) in omega arith)
    (cases_lt t bound)

-- the busy ticks below t end by t
pub busy_until_within : (log : Ticks) (t : ℕ) → busy_until log t ≤ t
unfolding busy_until
busy_until_within log zero = zero-le
busy_until_within log (suc t) =
    let rest = busy_until_within log t in
    let s = busy-suc log t in
    ⊎_elim
    (λ (b : is_some (tick log t) ≡ true). let c = cond-true (is_some (tick log t)) (suc t) (busy_until log t) b in omega arith)
    (λ (b : is_some (tick log t) ≡ false). let c = cond-false (is_some (tick log t)) (suc t) (busy_until log t) b in omega arith)
    (cases_Bool (is_some (tick log t)))

-- a log that ends at a time ends with the later of that time and its last busy tick
pub length_is_end : (log : Ticks) (time : ℕ) → length log ≡ time → length log ≡ max (busy_until log (length log)) time
length_is_end log time e = let b = busy_until_within log (length log) in omega arith
