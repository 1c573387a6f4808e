-- Names among others.
use Rattle.std.proofs.Common.{◌≡◌, ℕ, ◌+◌, ◌||◌, Bool, true, false, cond, List, [], ◌∷◌, ◌++◌, Some, is_some, bytes_eq, refl, sym, ◌∙◌, true≢false}
use Rattle.std.specs.List.{list_any, position_from}
use Rattle.std.proofs.lemmas.Slice.Eq.{bytes_eq-Decides}
use Rattle.std.proofs.lemmas.List.Folds.{list_any-append}
use Rattle.yt_graph.specs.WellFormed.{AreDifferent}

-- what is found is there
pub found_is_there : {X : Type 0} (test : X → Bool) (base : ℕ) (xs : List X) → is_some (position_from test base xs) ≡ list_any test xs
found_is_there test base [] = refl
found_is_there test base (x ∷ xs) = by (test x) (found_is_there test (base + 1) xs)
  where
    by : (b : Bool) → is_some (position_from test (base + 1) xs) ≡ list_any test xs → is_some (cond b (Some base) (position_from test (base + 1) xs)) ≡ (b || list_any test xs)
    by true rest = refl
    by false rest = rest

neither : (a b : Bool) → (a || b) ≡ false → (a ≡ false) × (b ≡ false)
neither true b e = absurd (true≢false e)
neither false b e = (refl, e)

-- two names differ, whichever comes first
turned : (x y : List ℕ) → bytes_eq x y ≡ false → bytes_eq y x ≡ false
turned x y e = by (bytes_eq y x) refl
  where
    by : (b : Bool) → bytes_eq y x ≡ b → b ≡ false
    by false p = refl
    by true p = absurd (true≢false (sym ((bytes_eq-Decides x y).1 (sym ((bytes_eq-Decides y x).0 p))) ∙ e))

-- one name more, which isn't among those that differ
pub one_more_differs : (names : List (List ℕ)) (name : List ℕ) → AreDifferent names → list_any (bytes_eq name) names ≡ false → AreDifferent (names ++ name ∷ [])
one_more_differs [] name differ fresh = (refl, tt)
one_more_differs (x ∷ xs) name differ fresh =
    let parts = neither (bytes_eq name x) (list_any (bytes_eq name) xs) fresh in
    let apart = turned name x parts.0 in
    let none = differ.0 in
    (list_any-append (bytes_eq x) xs (name ∷ []) ∙ rw (none, apart) refl, one_more_differs xs name differ.1 parts.1)
