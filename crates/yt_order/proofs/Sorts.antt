-- Putting a list in order.
use Rattle.std.proofs.Common.{◌≡◌, ℕ, zero, suc, ◌+◌, ◌<◌, ◌≤◌, Bool, true, false, cond, List, [], ◌∷◌, get_or, refl, sym, ap, subst, ◌∙◌, ⊎_elim, arith}
use Rattle.std.specs.Cmp.{IsStrictWeakOrder}
use Rattle.std.specs.List.{filter}
use Rattle.std.specs.List.Sorted.{IsPermutation, IsSortedBy, ties}
use Rattle.std.proofs.lemmas.Bool.{cases_Bool, cond-true, cond-false}
use Rattle.std.proofs.lemmas.Bool.Decides.{nat_tests}
use Rattle.std.proofs.lemmas.Grind.{common_steps}
use Rattle.std.proofs.lemmas.List.Sorted.{IsPermutation-trans, IsPermutation-append, IsPermutation-middle, IsPermutation-refl}
use Rattle.yt_order.specs.Sorting.{SortingSorts, TwoNumbersCompare, before_by, insert_by, sort_by}

-- put behind an element that stands before it, or in front of one that doesn't
pub insert_behind : {X : Type 0} (before : X → X → Bool) (x y : X) (ys : List X) → before y x ≡ true → insert_by before x (y ∷ ys) ≡ y ∷ insert_by before x ys
insert_behind before x y ys h = cond-true (before y x) (y ∷ insert_by before x ys) (x ∷ y ∷ ys) h

pub insert_in_front : {X : Type 0} (before : X → X → Bool) (x y : X) (ys : List X) → before y x ≡ false → insert_by before x (y ∷ ys) ≡ x ∷ y ∷ ys
insert_in_front before x y ys h = cond-false (before y x) (y ∷ insert_by before x ys) (x ∷ y ∷ ys) h

-- what two first numbers tell of which of two things stands before the other, and the other way round
pub first_less : {X : Type 0} (first second : X → ℕ) (a b : X) → first a < first b → before_by first second a b ≡ true
first_less first second a b h = grind (arith, nat_tests)

pub first_greater : {X : Type 0} (first second : X → ℕ) (a b : X) → first b < first a → before_by first second a b ≡ false
first_greater first second a b h = grind (arith, nat_tests)

pub first_no_greater : {X : Type 0} (first second : X → ℕ) (a b : X) → before_by first second a b ≡ true → first a ≤ first b
first_no_greater first second a b h = grind (arith, nat_tests)

pub first_no_less : {X : Type 0} (first second : X → ℕ) (a b : X) → before_by first second a b ≡ false → first b ≤ first a
first_no_less first second a b h = grind (arith, nat_tests)

module _ {X : Type 0} (before : X → X → Bool) where
  -- one in front of both lists
  cons_same : (x : X) (xs ys : List X) → IsPermutation xs ys → IsPermutation (x ∷ xs) (x ∷ ys)
  cons_same x xs ys same = IsPermutation-append (x ∷ []) (x ∷ []) xs ys (IsPermutation-refl (x ∷ [])) same

  insert_same : (x : X) (ys : List X) → IsPermutation (x ∷ ys) (insert_by before x ys)
  insert_same x [] = IsPermutation-refl (x ∷ [])
  insert_same x (y ∷ ys) =
      let P : List X → Type 0 = λ zs. IsPermutation (x ∷ y ∷ ys) zs in
      ⊎_elim
      (λ (b : before y x ≡ true). subst P (sym (cond-true (before y x) (y ∷ insert_by before x ys) (x ∷ y ∷ ys) b))
      (IsPermutation-trans (x ∷ y ∷ ys) (y ∷ x ∷ ys) (y ∷ insert_by before x ys) (IsPermutation-middle (x ∷ []) y ys) (cons_same y (x ∷ ys) (insert_by before x ys) (insert_same x ys))))
      (λ (b : before y x ≡ false). subst P (sym (cond-false (before y x) (y ∷ insert_by before x ys) (x ∷ y ∷ ys) b)) (IsPermutation-refl (x ∷ y ∷ ys)))
      (cases_Bool (before y x))

  sort_same : (xs : List X) → IsPermutation xs (sort_by before xs)
  sort_same [] = IsPermutation-refl []
  sort_same (x ∷ xs) =
      IsPermutation-trans (x ∷ xs) (x ∷ sort_by before xs) (sort_by before (x ∷ xs)) (cons_same x xs (sort_by before xs) (sort_same xs)) (insert_same x (sort_by before xs))

  -- the first of these, where there is one, doesn't stand before x
  abbrev Follows : X → List X → Type 0
  Follows x [] = Unit {0}
  Follows x (y ∷ ys) = before y x ≡ false

  -- no element stands before the one in front of it
  abbrev IsOrdered : List X → Type 0
  IsOrdered [] = Unit {0}
  IsOrdered (x ∷ xs) = Follows x xs × IsOrdered xs

  ordered_is_sorted : (xs : List X) → IsOrdered xs → IsSortedBy before xs
  ordered_is_sorted [] o k d low lt = absurd (omega arith)
  ordered_is_sorted (x ∷ []) o k d low lt = absurd (omega arith)
  ordered_is_sorted (x ∷ y ∷ ys) o zero d low lt = o.0
  ordered_is_sorted (x ∷ y ∷ ys) o (suc k) d low lt =
      let next : suc k + 1 ≡ suc (k + 1) = omega arith in
      let P : ℕ → Type 0 = λ n. before (get_or (x ∷ y ∷ ys) n d) (get_or (y ∷ ys) k d) ≡ false in
      subst P (sym next) (ordered_is_sorted (y ∷ ys) o.1 k d (omega arith) (omega arith))

  insert_follows : (w x : X) (ys : List X) → Follows w ys → before x w ≡ false → Follows w (insert_by before x ys)
  insert_follows w x [] f h = h
  insert_follows w x (y ∷ ys) f h =
      let P : List X → Type 0 = λ zs. Follows w zs in
      ⊎_elim
      (λ (b : before y x ≡ true). subst P (sym (cond-true (before y x) (y ∷ insert_by before x ys) (x ∷ y ∷ ys) b)) f)
      (λ (b : before y x ≡ false). subst P (sym (cond-false (before y x) (y ∷ insert_by before x ys) (x ∷ y ∷ ys) b)) h)
      (cases_Bool (before y x))

  insert_ordered : IsStrictWeakOrder before → (x : X) (ys : List X) → IsOrdered ys → IsOrdered (insert_by before x ys)
  insert_ordered order x [] o = (tt, tt)
  insert_ordered order x (y ∷ ys) o =
      ⊎_elim
      (λ (b : before y x ≡ true). subst IsOrdered (sym (cond-true (before y x) (y ∷ insert_by before x ys) (x ∷ y ∷ ys) b))
      (insert_follows y x ys o.0 (order.one_way y x b), insert_ordered order x ys o.1))
      (λ (b : before y x ≡ false). subst IsOrdered (sym (cond-false (before y x) (y ∷ insert_by before x ys) (x ∷ y ∷ ys) b)) (b, o))
      (cases_Bool (before y x))

  sort_ordered : IsStrictWeakOrder before → (xs : List X) → IsOrdered (sort_by before xs)
  sort_ordered order [] = tt
  sort_ordered order (x ∷ xs) = insert_ordered order x (sort_by before xs) (sort_ordered order xs)

  -- of two elements of which at most one is kept, the order doesn't matter
  either_first : (x y : X) (rest : List X) (px py : Bool) → (px ≡ true → py ≡ true → ⊥) →
      cond py (y ∷ cond px (x ∷ rest) rest) (cond px (x ∷ rest) rest) ≡ cond px (x ∷ cond py (y ∷ rest) rest) (cond py (y ∷ rest) rest)
  either_first x y rest true true h = absurd (h refl refl)
  either_first x y rest true false h = refl
  either_first x y rest false true h = refl
  either_first x y rest false false h = refl

  -- two that tie with a third don't stand before one another
  tie_once : IsStrictWeakOrder before → (z x y : X) → before y x ≡ true → ties before z x ≡ true → ties before z y ≡ true → ⊥
  tie_once order z x y b p q =
      let yz : before y z ≡ false = grind (arith, common_steps) in
      let zx : before z x ≡ false = grind (arith, common_steps) in
      let no = order.chain y z x yz zx in
      cc

  insert_keeps : IsStrictWeakOrder before → (z x : X) (ys : List X) → filter (ties before z) (insert_by before x ys) ≡ filter (ties before z) (x ∷ ys)
  insert_keeps order z x [] = refl
  insert_keeps order z x (y ∷ ys) =
      let P : List X → Type 0 = λ zs. filter (ties before z) zs ≡ filter (ties before z) (x ∷ y ∷ ys) in
      let f = filter (ties before z) ys in
      ⊎_elim
      (λ (b : before y x ≡ true). subst P (sym (cond-true (before y x) (y ∷ insert_by before x ys) (x ∷ y ∷ ys) b))
      (ap (λ zs. cond (ties before z y) (y ∷ zs) zs) (insert_keeps order z x ys) ∙ either_first x y f (ties before z x) (ties before z y) (tie_once order z x y b)))
      (λ (b : before y x ≡ false). subst P (sym (cond-false (before y x) (y ∷ insert_by before x ys) (x ∷ y ∷ ys) b)) refl)
      (cases_Bool (before y x))

  sort_keeps : IsStrictWeakOrder before → (xs : List X) (z : X) → filter (ties before z) (sort_by before xs) ≡ filter (ties before z) xs
  sort_keeps order [] z = refl
  sort_keeps order (x ∷ xs) z =
      insert_keeps order z x (sort_by before xs) ∙ ap (λ zs. cond (ties before z x) (x ∷ zs) zs) (sort_keeps order xs z)

pub sorting_sorts : (X : Type 0) → SortingSorts X
sorting_sorts X before xs order = record {
  same = sort_same before xs;
  sorted = ordered_is_sorted before (sort_by before xs) (sort_ordered before order xs);
  stable = sort_keeps before order xs;
}

pub two_numbers_compare : (X : Type 0) → TwoNumbersCompare X
two_numbers_compare X first second = record {
  one_way = λ x y h. grind (arith, nat_tests);
  chain = λ x y z h k. grind (arith, nat_tests);
}
