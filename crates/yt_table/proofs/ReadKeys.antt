-- What a set of keys says of the names that they read.
use Rattle.std.proofs.Common.{◌≡◌, ◌+◌, List, [], ◌∷◌, ◌++◌, map, Bool, true, false, not, cond, ◌||◌, refl, ap, ◌∙◌, if◌then◌else◌}
use Rattle.std.specs.List.{list_any, position_or_len}

module _ {X Y : Type 0} (read : X → Y) where
  pub any_read : (test : Y → Bool) (xs : List X) → list_any (λ x. test (read x)) xs ≡ list_any test (map read xs)
  any_read test [] = refl
  any_read test (x ∷ xs) = ap (λ b. test (read x) || b) (any_read test xs)

  -- the place of the first that passes a test
  pub position_read : (test : Y → Bool) (xs : List X) → position_or_len (λ x. test (read x)) xs ≡ position_or_len test (map read xs)
  position_read test [] = refl
  position_read test (x ∷ xs) = ap (λ n. cond (not (test (read x))) (1 + n) 0) (position_read test xs)

  pub read_with : (xs : List X) (x : X) → map read (xs ++ x ∷ []) ≡ map read xs ++ read x ∷ []
  read_with [] x = refl
  read_with (y ∷ ys) x = ap (λ l. read y ∷ l) (read_with ys x)

  -- one more, where its name isn't there
  pub read_if : (there other : Bool) (xs : List X) (x : X) → there ≡ other
      → map read (if there then xs else xs ++ x ∷ []) ≡ (if other then map read xs else map read xs ++ read x ∷ [])
  read_if there other xs x e = ap (λ b. map read (if b then xs else xs ++ x ∷ [])) e ∙ by other
    where
      by : (b : Bool) → map read (if b then xs else xs ++ x ∷ []) ≡ (if b then map read xs else map read xs ++ read x ∷ [])
      by true = refl
      by false = read_with xs x
