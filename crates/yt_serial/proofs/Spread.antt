-- Messages in their places, and how far apart they are.
use Rattle.std.proofs.Common.{◌≡◌, ℕ, zero, suc, ◌+◌, ◌-◌, ◌*◌, ◌<◌, ◌≤◌, ◌⊎◌, List, [], ◌∷◌, ◌++◌, length, get_or, slice_get, Some, sym, ap, ◌∙◌, inl, inr, ⊎_elim, arith}
use Rattle.std.proofs.lemmas.Option.{none-some, same_Some, slice_get_within, slice_get-get_or, get_or_from_slice_get}
use Rattle.yt_trace.specs.Traces.{PortMessage, AreApart}
use Rattle.yt_list.specs.Numbered.{numbered}

pub get_left : {X : Type 0} (xs ys : List X) (i : ℕ) (x : X) → slice_get xs i ≡ Some x → slice_get (xs ++ ys) i ≡ Some x
get_left [] ys i x h = absurd (none-some x h)
get_left (y ∷ xs) ys zero x h = h
get_left (y ∷ xs) ys (suc i) x h = get_left xs ys i x h

pub numbered_left : {X : Type 0} (xs ys : List X) (n : ℕ) (x : X) → numbered xs n ≡ Some x → numbered (xs ++ ys) n ≡ Some x
numbered_left xs ys zero x h = absurd (none-some x h)
numbered_left xs ys (suc n) x h = get_left xs ys n x h

-- an element of two lists, one behind the other, is of one of them
pub get_cases : {X : Type 0} (xs ys : List X) (i : ℕ) (x : X) → slice_get (xs ++ ys) i ≡ Some x
    → (slice_get xs i ≡ Some x) ⊎ ((k : ℕ) × (i ≡ length xs + k) × (slice_get ys k ≡ Some x))
get_cases [] ys i x h = inr (i, omega arith, h)
get_cases (y ∷ xs) ys zero x h = inl h
get_cases {X} (y ∷ xs) ys (suc i) x h =
    ⊎_elim
    (λ (l : slice_get xs i ≡ Some x). inl l)
    (λ (r : (k : ℕ) × (i ≡ length xs + k) × (slice_get ys k ≡ Some x)). inr (r.0, omega (arith, r.1), r.2))
    (get_cases xs ys i x h)

-- any two of the messages are at least a period apart
abbrev pub IsSpread : ℕ → List PortMessage → Type 0
IsSpread period ms = (i j : ℕ) (x y : PortMessage) → slice_get ms i ≡ Some x → slice_get ms j ≡ Some y → i < j → x.time + period ≤ y.time

pub spread_from : (period : ℕ) (ms : List PortMessage) → AreApart period ms → IsSpread period ms
spread_from period ms apart i j x y a b lt =
    let p : (get_or ms i x).time ≡ x.time = ap (λ (m : PortMessage). m.time) (get_or_from_slice_get ms i x x a) in
    let q : (get_or ms j x).time ≡ y.time = ap (λ (m : PortMessage). m.time) (get_or_from_slice_get ms j y x b) in
    let h : (get_or ms i x).time + period ≤ (get_or ms j x).time = apart i j x lt (slice_get_within ms j y b) in
    omega arith

pub apart_from : (period : ℕ) (ms : List PortMessage) → IsSpread period ms → AreApart period ms
apart_from period ms spread i j d lt inside =
    spread i j (get_or ms i d) (get_or ms j d) (slice_get-get_or ms i d (omega arith)) (slice_get-get_or ms j d inside) lt

pub spread_none : (period : ℕ) → IsSpread period []
spread_none period i j x y a b lt = absurd (none-some x a)

pub spread_first : (period : ℕ) (m : PortMessage) (ms : List PortMessage)
    → ((i : ℕ) (y : PortMessage) → slice_get ms i ≡ Some y → m.time + period ≤ y.time) → IsSpread period ms → IsSpread period (m ∷ ms)
spread_first period m ms first rest zero zero x y a b lt = absurd (omega arith)
spread_first period m ms first rest (suc i) zero x y a b lt = absurd (omega arith)
spread_first period m ms first rest zero (suc j) x y a b lt =
    let e : m.time ≡ x.time = ap (λ (m : PortMessage). m.time) (same_Some m x a) in
    let h = first j y b in
    omega arith
spread_first period m ms first rest (suc i) (suc j) x y a b lt = rest i j x y a b (omega arith)

pub spread_behind : (period : ℕ) (xs ys : List PortMessage) → IsSpread period xs → IsSpread period ys
    → ((i j : ℕ) (x y : PortMessage) → slice_get xs i ≡ Some x → slice_get ys j ≡ Some y → x.time + period ≤ y.time) → IsSpread period (xs ++ ys)
spread_behind period xs ys left right cross i j x y a b lt =
    ⊎_elim
    (λ (p : slice_get xs i ≡ Some x). ⊎_elim
    (λ (q : slice_get xs j ≡ Some y). left i j x y p q lt)
    (λ (q : (k : ℕ) × (j ≡ length xs + k) × (slice_get ys k ≡ Some y)). cross i q.0 x y p q.2)
    (get_cases xs ys j y b))
    (λ (p : (k : ℕ) × (i ≡ length xs + k) × (slice_get ys k ≡ Some x)). ⊎_elim
    (λ (q : slice_get xs j ≡ Some y). absurd (omega (arith, slice_get_within xs j y q, p.1)))
    (λ (q : (k : ℕ) × (j ≡ length xs + k) × (slice_get ys k ≡ Some y)). right p.0 q.0 x y p.2 q.2 (omega (arith, p.1, q.1)))
    (get_cases xs ys j y b))
    (get_cases xs ys i x a)

-- a message is at least as many periods behind another one as there are places between them
far : (period : ℕ) (ms : List PortMessage) → IsSpread period ms → (d i : ℕ) (x y : PortMessage)
    → slice_get ms i ≡ Some x → slice_get ms (i + d) ≡ Some y → x.time + d * period ≤ y.time
far period ms spread zero i x y a b =
    let place : i ≡ i + 0 = omega arith in
    let e : x.time ≡ y.time = ap (λ (m : PortMessage). m.time) (same_Some x y (sym a ∙ ap (slice_get ms) place ∙ b)) in
    omega arith
far period ms spread (suc d) i x y a b =
    let inside = slice_get_within ms (i + suc d) y b in
    let c = slice_get-get_or ms (i + d) x (omega arith) in
    let r = far period ms spread d i x (get_or ms (i + d) x) a c in
    let s = spread (i + d) (i + suc d) (get_or ms (i + d) x) y c b (omega arith) in
    omega arith

-- the same by their numbers
pub numbered_far : (period : ℕ) (ms : List PortMessage) → IsSpread period ms → (m n : ℕ) (x y : PortMessage)
    → numbered ms m ≡ Some x → numbered ms n ≡ Some y → m ≤ n → x.time + (n - m) * period ≤ y.time
numbered_far period ms spread zero n x y a b le = absurd (none-some x a)
numbered_far period ms spread (suc m) zero x y a b le = absurd (omega arith)
numbered_far period ms spread (suc m) (suc n) x y a b le =
    let place : n ≡ m + (n - m) = omega arith in
    let h = far period ms spread (n - m) m x y a (sym (ap (slice_get ms) place) ∙ b) in
    let e : (suc n - suc m) * period ≡ (n - m) * period = ap (λ (k : ℕ). k * period) (omega arith) in
    omega arith

-- a number at which something stands is from 1 to the length
pub numbered_within : {X : Type 0} (xs : List X) (n : ℕ) (x : X) → numbered xs n ≡ Some x → (1 ≤ n) × (n ≤ length xs)
numbered_within xs zero x h = absurd (none-some x h)
numbered_within xs (suc n) x h = let k = slice_get_within xs n x h in (omega arith, omega arith)

pub numbered_apart : (period : ℕ) (ms : List PortMessage) → IsSpread period ms → (m n : ℕ) (x y : PortMessage)
    → numbered ms m ≡ Some x → numbered ms n ≡ Some y → m < n → x.time + period ≤ y.time
numbered_apart period ms spread zero n x y a b lt = absurd (none-some x a)
numbered_apart period ms spread (suc m) zero x y a b lt = absurd (omega arith)
numbered_apart period ms spread (suc m) (suc n) x y a b lt = spread m n x y a b (omega arith)
