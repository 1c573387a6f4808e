-- Lists of messages that wait for their time.
use Rattle.std.proofs.Common.{◌≡◌, ℕ, zero, suc, ◌<◌, ◌≤◌, leb, List, [], ◌∷◌, ◌++◌, slice_get, Some, refl, sym, ap, subst, ◌∙◌, ⊎_elim, arith}
use Rattle.std.proofs.lemmas.Bool.{cases_lt, cond-true, cond-false, le-leb, lt-leb}
use Rattle.std.proofs.lemmas.Option.{same_Some, slice_get_within}
use Rattle.yt_serial.specs.PortMessages.{PortMessage}
use Rattle.yt_interleave.specs.Waits.{wait_from, AreFrom}

pub wait_yes : (t : ℕ) (m : PortMessage) (ms : List PortMessage) → t ≤ m.time → wait_from t (m ∷ ms) ≡ m ∷ wait_from t ms
wait_yes t m ms le = cond-true (leb t m.time) (m ∷ wait_from t ms) (wait_from t ms) (le-leb t m.time le)

pub wait_no : (t : ℕ) (m : PortMessage) (ms : List PortMessage) → m.time < t → wait_from t (m ∷ ms) ≡ wait_from t ms
wait_no t m ms lt = cond-false (leb t m.time) (m ∷ wait_from t ms) (wait_from t ms) (lt-leb t m.time lt)

pub wait_append : (t : ℕ) (xs ys : List PortMessage) → wait_from t (xs ++ ys) ≡ wait_from t xs ++ wait_from t ys
wait_append t [] ys = refl
wait_append t (x ∷ xs) ys =
    ⊎_elim
    (λ (lt : x.time < t). wait_no t x (xs ++ ys) lt ∙ wait_append t xs ys ∙ sym (ap (λ (zs : List PortMessage). zs ++ wait_from t ys) (wait_no t x xs lt)))
    (λ (ge : t ≤ x.time).
    wait_yes t x (xs ++ ys) ge ∙ ap (λ (zs : List PortMessage). x ∷ zs) (wait_append t xs ys) ∙ sym (ap (λ (zs : List PortMessage). zs ++ wait_from t ys) (wait_yes t x xs ge)))
    (cases_lt x.time t)

pub wait_all : (t : ℕ) (ms : List PortMessage) → ((k : ℕ) (x : PortMessage) → slice_get ms k ≡ Some x → t ≤ x.time) → wait_from t ms ≡ ms
wait_all t [] late = refl
wait_all t (m ∷ ms) late = wait_yes t m ms (late 0 m refl) ∙ ap (λ (zs : List PortMessage). m ∷ zs) (wait_all t ms (λ k x h. late (suc k) x h))

-- a message that comes from a tick on waits there
pub wait_has : (t : ℕ) (ms : List PortMessage) (k : ℕ) (m : PortMessage) → slice_get ms k ≡ Some m → t ≤ m.time → (i : ℕ) × (slice_get (wait_from t ms) i ≡ Some m)
wait_has t [] k m there le = absurd (let w = slice_get_within [] k m there in omega arith)
wait_has t (x ∷ xs) zero m there le =
    let same : x ≡ m = same_Some x m there in
    let time : x.time ≡ m.time = ap (λ (y : PortMessage). y.time) same in
    (0, subst (λ (ms : List PortMessage). slice_get ms 0 ≡ Some m) (sym (wait_yes t x xs (omega arith))) there)
wait_has t (x ∷ xs) (suc k) m there le =
    let rest = wait_has t xs k m there le in
    ⊎_elim
    (λ (lt : x.time < t). (rest.0, subst (λ (ms : List PortMessage). slice_get ms rest.0 ≡ Some m) (sym (wait_no t x xs lt)) rest.1))
    (λ (ge : t ≤ x.time). (suc rest.0, subst (λ (ms : List PortMessage). slice_get ms (suc rest.0) ≡ Some m) (sym (wait_yes t x xs ge)) rest.1))
    (cases_lt x.time t)

-- where none of those that wait comes before a later tick, each comes before the one or from the other on
pub none_between : (due t : ℕ) (ms : List PortMessage) → AreFrom t (wait_from due ms) → (k : ℕ) (m : PortMessage) → slice_get ms k ≡ Some m → due ≤ m.time → t ≤ m.time
none_between due t ms from k m there le = let w = wait_has due ms k m there le in from w.0 m w.1

-- what waits there is one of the messages that come from the tick on
pub wait_there : (t : ℕ) (ms : List PortMessage) (i : ℕ) (m : PortMessage) → slice_get (wait_from t ms) i ≡ Some m → (k : ℕ) × (slice_get ms k ≡ Some m) × (t ≤ m.time)
wait_there t [] i m h = absurd (let w = slice_get_within [] i m h in omega arith)
wait_there t (x ∷ xs) i m h =
    ⊎_elim
    (λ (lt : x.time < t). let rest = wait_there t xs i m (subst (λ (ms : List PortMessage). slice_get ms i ≡ Some m) (wait_no t x xs lt) h) in (suc rest.0, rest.1, rest.2))
    (λ (ge : t ≤ x.time). at i (λ j there. wait_there t xs j m there) (subst (λ (ms : List PortMessage). slice_get ms i ≡ Some m) (wait_yes t x xs ge) h) ge)
    (cases_lt x.time t)
  where
    at : (i : ℕ) → ((j : ℕ) → slice_get (wait_from t xs) j ≡ Some m → (k : ℕ) × (slice_get xs k ≡ Some m) × (t ≤ m.time))
        → slice_get (x ∷ wait_from t xs) i ≡ Some m → t ≤ x.time → (k : ℕ) × (slice_get (x ∷ xs) k ≡ Some m) × (t ≤ m.time)
    at zero rest h ge = let time : x.time ≡ m.time = ap (λ (y : PortMessage). y.time) (same_Some x m h) in (0, h, omega arith)
    at (suc i) rest h ge = let k = rest i h in (suc k.0, k.1, k.2)

-- so the same waits from both ticks on
pub wait_same : (due t : ℕ) (ms : List PortMessage) → due ≤ t → ((k : ℕ) (m : PortMessage) → slice_get ms k ≡ Some m → due ≤ m.time → t ≤ m.time) → wait_from t ms ≡ wait_from due ms
wait_same due t [] le late = refl
wait_same due t (m ∷ ms) le late =
    let rest = wait_same due t ms le (λ k x h. late (suc k) x h) in
    ⊎_elim
    (λ (lt : m.time < due). wait_no t m ms (omega arith) ∙ rest ∙ sym (wait_no due m ms lt))
    (λ (ge : due ≤ m.time). wait_yes t m ms (late 0 m refl ge) ∙ ap (λ (xs : List PortMessage). m ∷ xs) rest ∙ sym (wait_yes due m ms ge))
    (cases_lt m.time due)
