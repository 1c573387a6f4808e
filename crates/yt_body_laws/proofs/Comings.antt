-- The messages of a tick, among those that wait.
use Rattle.std.proofs.Common.{◌≡◌, ℕ, zero, suc, ◌<◌, ◌≤◌, eqb, true, false, List, [], ◌∷◌, map, slice_get, Some, refl, sym, ap, ◌∙◌, ⊎_elim, arith, eq-eqb, ne_eqb}
use Rattle.std.proofs.lemmas.Bool.{cases_eq, cases_lt, cond-true, cond-false}
use Rattle.std.proofs.lemmas.Option.{none-some, same_Some}
use Rattle.yt_chan.specs.declared.target.Arrived.{Arrived}
use Rattle.yt_chan.specs.declared.target.Arrived.TheVariants.{Port, Output}
use Rattle.yt_chan.specs.Pending.{Pending}
use Rattle.yt_serial.specs.PortMessages.{PortMessage}
use Rattle.yt_interleave.specs.Carrying.{as_message}
use Rattle.yt_interleave.specs.Lines.{come_at}
use Rattle.yt_interleave.specs.Waits.{wait_from}
use Rattle.yt_interleave.proofs.Lemmas.{wait_all, wait_no, wait_yes}
use Rattle.yt_body_laws.specs.Carrying.{AreRising}
use Rattle.yt_body_laws.specs.Placing.{same_target, with_tick_at}
use Rattle.yt_body_laws.proofs.Room.{get_contains, mapped_at}

come_yes : (t : ℕ) (m : PortMessage) (ms : List PortMessage) → m.time ≡ t → come_at t (m ∷ ms) ≡ m ∷ come_at t ms
come_yes t m ms e = cond-true (eqb m.time t) (m ∷ come_at t ms) (come_at t ms) (eq-eqb m.time t e)

come_no : (t : ℕ) (m : PortMessage) (ms : List PortMessage) → (m.time ≡ t → ⊥) → come_at t (m ∷ ms) ≡ come_at t ms
come_no t m ms e = cond-false (eqb m.time t) (m ∷ come_at t ms) (come_at t ms) (ne_eqb m.time t e)

-- none of later messages comes at a tick
pub come_none : (t : ℕ) (ms : List PortMessage) → ((k : ℕ) (x : PortMessage) → slice_get ms k ≡ Some x → t < x.time) → come_at t ms ≡ []
come_none t [] late = refl
come_none t (m ∷ ms) late = come_no t m ms (λ e. let lt = late 0 m refl in absurd (omega arith)) ∙ come_none t ms (λ k x h. late (suc k) x h)

pub come_time : (t : ℕ) (ms : List PortMessage) (k : ℕ) (x : PortMessage) → slice_get (come_at t ms) k ≡ Some x → x.time ≡ t
come_time t [] k x h = absurd (none-some x h)
come_time t (m ∷ ms) k x h =
    ⊎_elim
    (λ (e : m.time ≡ t). by k (λ j g. come_time t ms j x g) (ap (λ (xs : List PortMessage). slice_get xs k) (sym (come_yes t m ms e)) ∙ h) e)
    (λ (ne : m.time ≡ t → ⊥). come_time t ms k x (ap (λ (xs : List PortMessage). slice_get xs k) (sym (come_no t m ms ne)) ∙ h))
    (cases_eq m.time t)
  where
    by : (k : ℕ) → ((j : ℕ) → slice_get (come_at t ms) j ≡ Some x → x.time ≡ t) → slice_get (m ∷ come_at t ms) k ≡ Some x → m.time ≡ t → x.time ≡ t
    by zero rest h e = ap (λ (y : PortMessage). y.time) (sym (same_Some m x h)) ∙ e
    by (suc k) rest h e = rest k h

-- what comes at a tick, and what waits longer, is among what waits up to the tick
pub come_waits : (t : ℕ) (ms : List PortMessage) → come_at t (wait_from t ms) ≡ come_at t ms
come_waits t [] = refl
come_waits t (m ∷ ms) =
    ⊎_elim
    (λ (lt : m.time < t). ap (come_at t) (wait_no t m ms lt) ∙ come_waits t ms ∙ sym (come_no t m ms (λ e. omega arith)))
    (λ (ge : t ≤ m.time).
    ap (come_at t) (wait_yes t m ms ge)
    ∙ ⊎_elim
    (λ (e : m.time ≡ t). come_yes t m (wait_from t ms) e ∙ ap (λ (xs : List PortMessage). m ∷ xs) (come_waits t ms) ∙ sym (come_yes t m ms e))
    (λ (ne : m.time ≡ t → ⊥). come_no t m (wait_from t ms) ne ∙ come_waits t ms ∙ sym (come_no t m ms ne))
    (cases_eq m.time t))
    (cases_lt m.time t)

later_waits : (t u : ℕ) → t ≤ u → (ms : List PortMessage) → wait_from u (wait_from t ms) ≡ wait_from u ms
later_waits t u le [] = refl
later_waits t u le (m ∷ ms) =
    ⊎_elim
    (λ (lt : m.time < t). ap (wait_from u) (wait_no t m ms lt) ∙ later_waits t u le ms ∙ sym (wait_no u m ms (omega arith)))
    (λ (ge : t ≤ m.time).
    ap (wait_from u) (wait_yes t m ms ge)
    ∙ ⊎_elim
    (λ (lt : m.time < u). wait_no u m (wait_from t ms) lt ∙ later_waits t u le ms ∙ sym (wait_no u m ms lt))
    (λ (later : u ≤ m.time). wait_yes u m (wait_from t ms) later ∙ ap (λ (xs : List PortMessage). m ∷ xs) (later_waits t u le ms) ∙ sym (wait_yes u m ms later))
    (cases_lt m.time u))
    (cases_lt m.time t)

-- where the first that waits comes now and the others later, it alone comes now
pub next_waits : (now : ℕ) (ms : List PortMessage) (x : PortMessage) (rest : List PortMessage) → wait_from now ms ≡ x ∷ rest → x.time ≡ now → ((k : ℕ) (y : PortMessage) → slice_get rest k ≡ Some y → now < y.time) →
    (come_at now ms ≡ x ∷ []) × (wait_from (suc now) ms ≡ rest)
next_waits now ms x rest is time late = (
  sym (come_waits now ms) ∙ ap (come_at now) is ∙ come_yes now x rest time ∙ ap (λ (xs : List PortMessage). x ∷ xs) (come_none now rest late),
  sym (later_waits now (suc now) (omega arith) ms) ∙ ap (wait_from (suc now)) is ∙ wait_no (suc now) x rest (omega arith)
      ∙ wait_all (suc now) rest (λ k y h. late k y h),
)

-- messages that come one after another
pub rising_later : (m : Pending) (rest : List Pending) → AreRising (m ∷ rest) → (k : ℕ) (y : PortMessage) → slice_get (map as_message rest) k ≡ Some y → m.time < y.time
rising_later m rest rise k y h =
    let q = mapped_at rest k y h in
    let lt = rise.0 q.0 (get_contains rest k q.0 q.1) in
    let time : q.0.time ≡ y.time = ap (λ (x : PortMessage). x.time) q.2 in
    omega arith

-- one target's tick is changed
same_yes : (a : Arrived) → same_target a a ≡ true
same_yes (Port n) = eq-eqb n n refl
same_yes (Output n) = eq-eqb n n refl

same_no : (a b : Arrived) → (a ≡ b → ⊥) → same_target a b ≡ false
same_no (Port m) (Port n) h = ne_eqb m n (λ e. h (ap (λ (k : ℕ). Port k) e))
same_no (Port m) (Output n) h = refl
same_no (Output m) (Port n) h = refl
same_no (Output m) (Output n) h = ne_eqb m n (λ e. h (ap (λ (k : ℕ). Output k) e))

pub tick_here : (t : Arrived) (tick : ℕ) (ticks : Arrived → ℕ) → with_tick_at t tick ticks t ≡ tick
tick_here t tick ticks = cond-true (same_target t t) tick (ticks t) (same_yes t)

pub tick_other : (t : Arrived) (tick : ℕ) (ticks : Arrived → ℕ) (other : Arrived) → (other ≡ t → ⊥) → with_tick_at t tick ticks other ≡ ticks other
tick_other t tick ticks other h = cond-false (same_target other t) tick (ticks other) (same_no other t h)
