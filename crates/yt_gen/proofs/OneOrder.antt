-- There is one way to put a list in order where those of which neither stands before the other keep theirs.
use Rattle.std.proofs.Common.{◌≡◌, ℕ, suc, ◌+◌, Bool, true, false, List, [], ◌∷◌, get_or, refl, sym, ap, subst, ◌∙◌, ⊎_elim, arith}
use Rattle.std.specs.Cmp.{IsStrictWeakOrder}
use Rattle.std.specs.List.{filter}
use Rattle.std.specs.List.Sorted.{IsSortedBy, IsStableBy, ties}
use Rattle.std.proofs.lemmas.Bool.{cases_Bool, cond-true, cond-false}
use Rattle.yt_order.specs.Sorting.{sort_by}
use Rattle.yt_order.proofs.Lemmas.{sorting_sorts}

module _ {X : Type 0} (p : X → Bool) where
  kept_yes : (x : X) (xs : List X) → p x ≡ true → filter p (x ∷ xs) ≡ x ∷ filter p xs
  kept_yes x xs h = cond-true (p x) (x ∷ filter p xs) (filter p xs) h

  kept_no : (x : X) (xs : List X) → p x ≡ false → filter p (x ∷ xs) ≡ filter p xs
  kept_no x xs h = cond-false (p x) (x ∷ filter p xs) (filter p xs) h

  -- of two lists with one first element the rests are kept alike
  rest_alike : (x : X) (ys zs : List X) → filter p (x ∷ ys) ≡ filter p (x ∷ zs) → filter p ys ≡ filter p zs
  rest_alike x ys zs e =
      ⊎_elim
      (λ (h : p x ≡ true). let both : x ∷ filter p ys ≡ x ∷ filter p zs = sym (kept_yes x ys h) ∙ e ∙ kept_yes x zs h in cc)
      (λ (h : p x ≡ false). sym (kept_no x ys h) ∙ e ∙ kept_no x zs h)
      (cases_Bool (p x))

module _ {X : Type 0} (before : X → X → Bool) where
  -- none of these stands before x
  abbrev NoneBefore : X → List X → Type 0
  NoneBefore x [] = Unit {0}
  NoneBefore x (y ∷ ys) = (before y x ≡ false) × NoneBefore x ys

  -- none stands before one in front of it
  abbrev IsUp : List X → Type 0
  IsUp [] = Unit {0}
  IsUp (x ∷ xs) = NoneBefore x xs × IsUp xs

  -- the first that a test keeps is one of them
  first_kept : (p : X → Bool) (x z : X) (ys rest : List X) → NoneBefore x ys → filter p ys ≡ z ∷ rest → before z x ≡ false
  first_kept p x z [] rest none e = cc
  first_kept p x z (y ∷ ys) rest none e =
      ⊎_elim
      (λ (h : p y ≡ true). let both : y ∷ filter p ys ≡ z ∷ rest = sym (kept_yes p y ys h) ∙ e in let one : y ≡ z = cc in subst (λ (u : X). before u x ≡ false) one none.0)
      (λ (h : p y ≡ false). first_kept p x z ys rest none.1 (sym (kept_no p y ys h) ∙ e))
      (cases_Bool (p y))

  tail_sorted : (x : X) (xs : List X) → IsSortedBy before (x ∷ xs) → IsSortedBy before xs
  tail_sorted x xs up k d low lt =
      let one : k + 1 ≡ suc k = omega arith in
      let two : k + 1 + 1 ≡ suc (k + 1) = omega arith in
      let h : before (get_or (x ∷ xs) (k + 1 + 1) d) (get_or (x ∷ xs) (k + 1) d) ≡ false = up (k + 1) d (omega arith) (omega arith) in
      subst (λ (n : ℕ). before (get_or xs (k + 1) d) (get_or (x ∷ xs) n d) ≡ false) one
      (subst (λ (n : ℕ). before (get_or (x ∷ xs) n d) (get_or (x ∷ xs) (k + 1) d) ≡ false) two h)

  module _ (order : IsStrictWeakOrder before) where
    itself : (x : X) → before x x ≡ false
    itself x = ⊎_elim (λ (h : before x x ≡ true). order.one_way x x h) (λ (h : before x x ≡ false). h) (cases_Bool (before x x))

    tie_from : (x y : X) → before x y ≡ false → before y x ≡ false → ties before x y ≡ true
    tie_from x y h k = rw (h, k) refl

    kept_first : (x : X) (xs : List X) → filter (ties before x) (x ∷ xs) ≡ x ∷ filter (ties before x) xs
    kept_first x xs = kept_yes (ties before x) x xs (tie_from x x (itself x) (itself x))

    none_behind : (x y : X) (ys : List X) → before y x ≡ false → NoneBefore y ys → NoneBefore x ys
    none_behind x y [] h none = tt
    none_behind x y (z ∷ zs) h none = (order.chain z y x none.0 h, none_behind x y zs h none.1)

    up_from_sorted : (xs : List X) → IsSortedBy before xs → IsUp xs
    up_from_sorted [] up = tt
    up_from_sorted (x ∷ []) up = (tt, tt)
    up_from_sorted (x ∷ y ∷ ys) up =
        let rest : IsUp (y ∷ ys) = up_from_sorted (y ∷ ys) (tail_sorted x (y ∷ ys) up) in
        let first : before y x ≡ false = up 0 x (omega arith) (omega arith) in
        ((first, none_behind x y ys first rest.0), rest)

    one_up : (ys zs : List X) → IsUp ys → IsUp zs → ((w : X) → filter (ties before w) ys ≡ filter (ties before w) zs) → ys ≡ zs
    one_up [] [] a b alike = refl
    one_up [] (z ∷ zs) a b alike = let none : ◌≡◌ {A = List X} [] (z ∷ filter (ties before z) zs) = alike z ∙ kept_first z zs in cc
    one_up (y ∷ ys) [] a b alike = let none : ◌≡◌ {A = List X} [] (y ∷ filter (ties before y) ys) = sym (alike y) ∙ kept_first y ys in cc
    one_up (y ∷ ys) (z ∷ zs) a b alike =
        let ky : filter (ties before y) (z ∷ zs) ≡ y ∷ filter (ties before y) ys = sym (alike y) ∙ kept_first y ys in
        let kz : filter (ties before z) (y ∷ ys) ≡ z ∷ filter (ties before z) zs = alike z ∙ kept_first z zs in
        let yz : before y z ≡ false = first_kept (ties before y) z y (z ∷ zs) (filter (ties before y) ys) (itself z, b.0) ky in
        let zy : before z y ≡ false = first_kept (ties before z) y z (y ∷ ys) (filter (ties before z) zs) (itself y, a.0) kz in
        let fronts : z ∷ filter (ties before y) zs ≡ y ∷ filter (ties before y) ys = sym (kept_yes (ties before y) z zs (tie_from y z yz zy)) ∙ ky in
        let first : z ≡ y = cc in
        let rest : ys ≡ zs = one_up ys zs a.1 b.1 (λ w. rest_alike (ties before w) y ys zs (alike w ∙ ap (λ (u : X). filter (ties before w) (u ∷ zs)) first)) in
        cc

    pub one_order : (xs ys : List X) → IsSortedBy before ys → IsStableBy before xs ys → ys ≡ sort_by before xs
    one_order xs ys up stable =
        let sorts = sorting_sorts X before xs order in
        one_up ys (sort_by before xs) (up_from_sorted ys up) (up_from_sorted (sort_by before xs) sorts.sorted) (λ w. stable w ∙ sym (sorts.stable w))
