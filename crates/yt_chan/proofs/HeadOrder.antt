-- The order of heads is strict, and of two different ones one comes first.
use Rattle.std.proofs.Common.{◌≡◌, ℕ, ◌<◌, ◌≤◌, ◌⊎◌, true, false, ◌&&◌, eqb, ltb, refl, sym, ap, ◌∙◌, inl, inr, ⊎_elim, arith, eqb-true, eq-eqb, ltb-true, lt-ltb}
use Rattle.std.proofs.lemmas.Bool.{cases_lt, and_parts, and_from, or_cases, or_left, or_right, both_ways, false_from_ne_true}
use Rattle.yt_order.specs.Orders.{IsStrictOrder}
use Rattle.yt_chan.specs.declared.heads.Head.{Head}
use Rattle.yt_chan.specs.declared.target.Arrived.{Arrived}
use Rattle.yt_chan.specs.declared.target.Arrived.TheVariants.{Port, Output}
use Rattle.yt_chan.specs.Inside.Heads.{target_before, comes_before}
use Rattle.yt_chan.specs.State.{ComesBefore}

-- the test of targets says what their order is
pub target_order : (a b : Arrived) → target_before a b ≡ true → ComesBefore a b
unfolding target_before
target_order (Port a) (Port b) h = ltb-true a b h
target_order (Port a) (Output b) h = tt
target_order (Output a) (Port b) h = cc
target_order (Output a) (Output b) h = ltb-true a b h

pub target_test : (a b : Arrived) → ComesBefore a b → target_before a b ≡ true
unfolding target_before
target_test (Port a) (Port b) h = lt-ltb a b h
target_test (Port a) (Output b) h = refl
target_test (Output a) (Port b) h = absurd h
target_test (Output a) (Output b) h = lt-ltb a b h

target_on : (a b c : Arrived) → ComesBefore a b → ComesBefore b c → ComesBefore a c
target_on (Port a) (Port b) (Port c) h k = omega arith
target_on (Port a) (Port b) (Output c) h k = tt
target_on (Port a) (Output b) (Port c) h k = absurd k
target_on (Port a) (Output b) (Output c) h k = tt
target_on (Output a) (Port b) c h k = absurd h
target_on (Output a) (Output b) (Port c) h k = absurd k
target_on (Output a) (Output b) (Output c) h k = omega arith

target_once : (a : Arrived) → ComesBefore a a → ⊥
target_once (Port a) h = omega arith
target_once (Output a) h = omega arith

target_either : (a b : Arrived) → (ComesBefore a b → ⊥) → (ComesBefore b a → ⊥) → a ≡ b
target_either (Port a) (Port b) h k = let e : a ≡ b = ⊎_elim (λ (l : a < b). absurd (h l)) (λ (g : b ≤ a). ⊎_elim (λ (l : b < a). absurd (k l)) (λ (f : a ≤ b). omega arith) (cases_lt b a)) (cases_lt a b) in ap (λ (n : ℕ). Port n) e
target_either (Port a) (Output b) h k = absurd (h tt)
target_either (Output a) (Port b) h k = absurd (k tt)
target_either (Output a) (Output b) h k = let e : a ≡ b = ⊎_elim (λ (l : a < b). absurd (h l)) (λ (g : b ≤ a). ⊎_elim (λ (l : b < a). absurd (k l)) (λ (f : a ≤ b). omega arith) (cases_lt b a)) (cases_lt a b) in ap (λ (n : ℕ). Output n) e

-- the order of heads, in words
abbrev pub IsBefore : Head → Head → Type 0
IsBefore a b = (a.time < b.time) ⊎ ((a.time ≡ b.time) × ComesBefore a.target b.target)

pub is_before : (a b : Head) → comes_before a b ≡ true → IsBefore a b
unfolding comes_before
is_before a b h =
    ⊎_elim
    (λ (l : ltb a.time b.time ≡ true). inl (ltb-true a.time b.time l))
    (λ (r : (eqb a.time b.time && target_before a.target b.target) ≡ true).
    let q = and_parts (eqb a.time b.time) (target_before a.target b.target) r in inr (eqb-true a.time b.time q.0, target_order a.target b.target q.1))
    (or_cases (ltb a.time b.time) (eqb a.time b.time && target_before a.target b.target) h)

pub before_is : (a b : Head) → IsBefore a b → comes_before a b ≡ true
unfolding comes_before
before_is a b h =
    ⊎_elim
    (λ (l : a.time < b.time). or_left (ltb a.time b.time) (eqb a.time b.time && target_before a.target b.target) (lt-ltb a.time b.time l))
    (λ (r : (a.time ≡ b.time) × ComesBefore a.target b.target). or_right (ltb a.time b.time) (eqb a.time b.time && target_before a.target b.target)
    (and_from (eqb a.time b.time) (target_before a.target b.target) (eq-eqb a.time b.time r.0) (target_test a.target b.target r.1)))
    h

before_on : (a b c : Head) → comes_before a b ≡ true → comes_before b c ≡ true → comes_before a c ≡ true
before_on a b c h k =
    before_is a c
    (⊎_elim
    (λ (x : a.time < b.time). ⊎_elim (λ (y : b.time < c.time). inl (omega arith)) (λ (y : (b.time ≡ c.time) × ComesBefore b.target c.target). inl (let e = y.0 in omega arith)) (is_before b c k))
    (λ (x : (a.time ≡ b.time) × ComesBefore a.target b.target).
    ⊎_elim
    (λ (y : b.time < c.time). inl (let e = x.0 in omega arith))
    (λ (y : (b.time ≡ c.time) × ComesBefore b.target c.target). inr (x.0 ∙ y.0, target_on a.target b.target c.target x.1 y.1))
    (is_before b c k))
    (is_before a b h))

pub not_itself : (a : Head) → comes_before a a ≡ false
not_itself a =
    false_from_ne_true (comes_before a a) (λ k. ⊎_elim (λ (l : a.time < a.time). omega arith) (λ (r : (a.time ≡ a.time) × ComesBefore a.target a.target). target_once a.target r.1) (is_before a a k))

pub not_before_both : (a b : Head) → comes_before a b ≡ false → comes_before b a ≡ false → a ≡ b
not_before_both a b h k =
    let x : IsBefore a b → ⊥ = λ y. both_ways (comes_before a b) h (before_is a b y) in
    let z : IsBefore b a → ⊥ = λ y. both_ways (comes_before b a) k (before_is b a y) in
    let t : a.time ≡ b.time = ⊎_elim (λ (l : a.time < b.time). absurd (x (inl l))) (λ (g : b.time ≤ a.time). ⊎_elim (λ (l : b.time < a.time). absurd (z (inl l))) (λ (f : a.time ≤ b.time). omega arith) (cases_lt b.time a.time)) (cases_lt a.time b.time) in
    let e : a.target ≡ b.target = target_either a.target b.target (λ c. x (inr (t, c))) (λ c. z (inr (sym t, c))) in
    let made : ℕ → Arrived → Head = λ time target. record { time = time; target = target } in
    ap (λ (n : ℕ). made n a.target) t ∙ ap (made b.time) e

-- the order of heads is strict
pub heads_are_ordered : IsStrictOrder comes_before
heads_are_ordered = record { on = before_on; itself = not_itself; either = not_before_both }
