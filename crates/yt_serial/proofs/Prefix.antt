-- What is told of a log's ticks below t goes by those ticks alone, so a log that grows keeps it.
use Rattle.std.proofs.Common.{◌≡◌, ℕ, zero, suc, ◌≤◌, cond, eqb, List, [], ◌∷◌, ◌++◌, length, Option, Some, None, is_some, refl, ap, ap₂, ◌∙◌, arith}
use Rattle.std.proofs.lemmas.List.{get_or_append_left}
use Rattle.yt_log.specs.declared.job.Job.{Job}
use Rattle.yt_log.specs.Ticks.{Ticks, tick, done, first_tick}
use Rattle.yt_log.proofs.Lemmas.{Agree, agree_less, done_same, first_same}
use Rattle.yt_serial.specs.Beginnings.{newcomer, begun_below, busy_until}

newcomer_same : (a b : Ticks) (t : ℕ) (o : Option Job) → Agree a b t → newcomer a t o ≡ newcomer b t o
unfolding newcomer
newcomer_same a b t None h = refl
newcomer_same a b t (Some j) h = ap (λ (n : ℕ). cond {A = List Job} (eqb n 0) (j ∷ []) []) (done_same a b j t h)

pub begun_same : (a b : Ticks) (t : ℕ) → Agree a b t → begun_below a t ≡ begun_below b t
unfolding begun_below
begun_same a b zero h = refl
begun_same a b (suc t) h =
    let less = agree_less a b t h in
    ap₂ (λ (xs ys : List Job). xs ++ ys) (begun_same a b t less) (newcomer_same a b t (tick a t) less ∙ ap (newcomer b t) (h t (omega arith)))

pub busy_same : (a b : Ticks) (t : ℕ) → Agree a b t → busy_until a t ≡ busy_until b t
unfolding busy_until
busy_same a b zero h = refl
busy_same a b (suc t) h = ap₂ (λ (o : Option Job) (n : ℕ). cond (is_some o) (suc t) n) (h t (omega arith)) (busy_same a b t (agree_less a b t h))

-- a log that grows keeps its ticks
pub agree_append : (log more : Ticks) (t : ℕ) → t ≤ length log → Agree (log ++ more) log t
unfolding tick
agree_append log more t h u l = get_or_append_left log more None u (omega arith)

pub done-append : (log more : Ticks) (j : Job) (t : ℕ) → t ≤ length log → done (log ++ more) j t ≡ done log j t
done-append log more j t h = done_same (log ++ more) log j t (agree_append log more t h)

pub first_tick-append : (log more : Ticks) (j : Job) (t : ℕ) → t ≤ length log → first_tick (log ++ more) j t ≡ first_tick log j t
first_tick-append log more j t h = first_same (log ++ more) log j t (agree_append log more t h)

pub begun_below-append : (log more : Ticks) (t : ℕ) → t ≤ length log → begun_below (log ++ more) t ≡ begun_below log t
begun_below-append log more t h = begun_same (log ++ more) log t (agree_append log more t h)

pub busy_until-append : (log more : Ticks) (t : ℕ) → t ≤ length log → busy_until (log ++ more) t ≡ busy_until log t
busy_until-append log more t h = busy_same (log ++ more) log t (agree_append log more t h)
