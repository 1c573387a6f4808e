-- The order of words.
use Rattle.std.proofs.Common.{◌≡◌, ℕ, ◌<◌, ◌≤◌, ◌⊎◌, true, ◌&&◌, ◌||◌, eqb, ltb, List, [], ◌∷◌, refl, sym, ◌∙◌, inl, inr, ⊎_elim, arith, eqb-true, eq-eqb, ltb-true, lt-ltb}
use Rattle.std.proofs.lemmas.Bool.{cases_lt, cases_order, and_parts, and_from, or_cases, or_left, or_right, both_ways, false_from_ne_true}
use Rattle.yt_order.specs.Words.{precedes}
use Rattle.yt_order.specs.Laws.{WordsAreOrdered}

precedes-cons : (x y : ℕ) (xs ys : List ℕ) → precedes (x ∷ xs) (y ∷ ys) ≡ (ltb x y || (eqb x y && precedes xs ys))
unfolding precedes
precedes-cons x y xs ys = refl

pub precedes_less : (x y : ℕ) (xs ys : List ℕ) → x < y → precedes (x ∷ xs) (y ∷ ys) ≡ true
precedes_less x y xs ys h = precedes-cons x y xs ys ∙ or_left (ltb x y) (eqb x y && precedes xs ys) (lt-ltb x y h)

pub precedes_same : (x y : ℕ) (xs ys : List ℕ) → x ≡ y → precedes xs ys ≡ true → precedes (x ∷ xs) (y ∷ ys) ≡ true
precedes_same x y xs ys e h = precedes-cons x y xs ys ∙ or_right (ltb x y) (eqb x y && precedes xs ys) (and_from (eqb x y) (precedes xs ys) (eq-eqb x y e) h)

pub precedes_parts : (x y : ℕ) (xs ys : List ℕ) → precedes (x ∷ xs) (y ∷ ys) ≡ true → (x < y) ⊎ ((x ≡ y) × (precedes xs ys ≡ true))
precedes_parts x y xs ys h =
    ⊎_elim
    (λ (l : ltb x y ≡ true). inl (ltb-true x y l))
    (λ (r : (eqb x y && precedes xs ys) ≡ true). let q = and_parts (eqb x y) (precedes xs ys) r in inr (eqb-true x y q.0, q.1))
    (or_cases (ltb x y) (eqb x y && precedes xs ys) (sym (precedes-cons x y xs ys) ∙ h))

pub precedes_one_way : (xs ys : List ℕ) → precedes xs ys ≡ true → precedes ys xs ≡ true → ⊥
unfolding precedes
precedes_one_way [] [] h k = cc
precedes_one_way [] (y ∷ ys) h k = cc
precedes_one_way (x ∷ xs) [] h k = cc
precedes_one_way (x ∷ xs) (y ∷ ys) h k =
    ⊎_elim
    (λ (a : x < y). ⊎_elim (λ (b : y < x). omega arith) (λ (b : (y ≡ x) × (precedes ys xs ≡ true)). omega arith) (precedes_parts y x ys xs k))
    (λ (a : (x ≡ y) × (precedes xs ys ≡ true)). ⊎_elim (λ (b : y < x). omega arith) (λ (b : (y ≡ x) × (precedes ys xs ≡ true)). precedes_one_way xs ys a.1 b.1) (precedes_parts y x ys xs k))
    (precedes_parts x y xs ys h)

pub precedes_on : (xs ys zs : List ℕ) → precedes xs ys ≡ true → precedes ys zs ≡ true → precedes xs zs ≡ true
unfolding precedes
precedes_on [] [] zs h k = cc
precedes_on [] (y ∷ ys) [] h k = cc
precedes_on [] (y ∷ ys) (z ∷ zs) h k = refl
precedes_on (x ∷ xs) [] zs h k = cc
precedes_on (x ∷ xs) (y ∷ ys) [] h k = cc
precedes_on (x ∷ xs) (y ∷ ys) (z ∷ zs) h k =
    ⊎_elim
    (λ (a : x < y). ⊎_elim
    (λ (b : y < z). precedes_less x z xs zs (omega arith))
    (λ (b : (y ≡ z) × (precedes ys zs ≡ true)). precedes_less x z xs zs (omega arith))
    (precedes_parts y z ys zs k))
    (λ (a : (x ≡ y) × (precedes xs ys ≡ true)). ⊎_elim
    (λ (b : y < z). precedes_less x z xs zs (omega arith))
    (λ (b : (y ≡ z) × (precedes ys zs ≡ true)). precedes_same x z xs zs (omega arith) (precedes_on xs ys zs a.1 b.1))
    (precedes_parts y z ys zs k))
    (precedes_parts x y xs ys h)

pub precedes_total : (xs ys : List ℕ) → (precedes xs ys ≡ true → ⊥) → (precedes ys xs ≡ true → ⊥) → xs ≡ ys
unfolding precedes
precedes_total [] [] h k = refl
precedes_total [] (y ∷ ys) h k = absurd (h refl)
precedes_total (x ∷ xs) [] h k = absurd (k refl)
precedes_total (x ∷ xs) (y ∷ ys) h k =
    ⊎_elim
    (λ (e : x ≡ y). let r = precedes_total xs ys (λ p. h (precedes_same x y xs ys e p)) (λ p. k (precedes_same y x ys xs (sym e) p)) in cc)
    (λ (o : (x < y) ⊎ (y < x)). ⊎_elim (λ (l : x < y). absurd (h (precedes_less x y xs ys l))) (λ (l : y < x). absurd (k (precedes_less y x ys xs l))) o)
    (cases_order x y)

-- what comes before zs comes before ys, or ys before zs
pub precedes_either : (xs ys zs : List ℕ) → precedes xs zs ≡ true → (precedes xs ys ≡ true) ⊎ (precedes ys zs ≡ true)
unfolding precedes
precedes_either [] [] zs h = inr h
precedes_either [] (y ∷ ys) zs h = inl refl
precedes_either (x ∷ xs) ys [] h = cc
precedes_either (x ∷ xs) [] (z ∷ zs) h = inr refl
precedes_either (x ∷ xs) (y ∷ ys) (z ∷ zs) h =
    ⊎_elim
    (λ (a : x < z). ⊎_elim (λ (b : x < y). inl (precedes_less x y xs ys b)) (λ (b : y ≤ x). inr (precedes_less y z ys zs (omega arith))) (cases_lt x y))
    (λ (a : (x ≡ z) × (precedes xs zs ≡ true)).
    ⊎_elim
    (λ (b : x ≡ y). ⊎_elim (λ (l : precedes xs ys ≡ true). inl (precedes_same x y xs ys b l)) (λ (r : precedes ys zs ≡ true). inr (precedes_same y z ys zs (omega arith) r)) (precedes_either xs ys zs a.1))
    (λ (b : (x < y) ⊎ (y < x)). ⊎_elim (λ (l : x < y). inl (precedes_less x y xs ys l)) (λ (r : y < x). inr (precedes_less y z ys zs (omega arith))) b)
    (cases_order x y))
    (precedes_parts x z xs zs h)

-- the order of words is strict
pub words_are_ordered : WordsAreOrdered
words_are_ordered = record {
  on = precedes_on;
  itself = λ a. false_from_ne_true (precedes a a) (λ k. precedes_one_way a a k k);
  either = λ a b h k. precedes_total a b (both_ways (precedes a b) h) (both_ways (precedes b a) k);
}
