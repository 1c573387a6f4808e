-- What callers cite of names in lists.
use Rattle.std.proofs.Common.{◌≡◌, ℕ, suc, ◌+◌, ◌<◌, ◌||◌, Bool, true, false, cond, not, List, [], ◌∷◌, length, map, Some, IfSome, refl, sym, ap, ◌∙◌, subst, true≢false, arith}
use Rattle.std.specs.List.{list_any, position_or_len, position_from}
use Rattle.std.specs.Option.{option_map}

-- a test that some element passes has its first index in the list
pub position_less : {X : Type 0} (test : X → Bool) (xs : List X) → list_any test xs ≡ true → position_or_len test xs < length xs
position_less test [] e = absurd (true≢false (sym e))
position_less test (x ∷ xs) e = by (test x) refl (position_less test xs) e
  where
    by : (b : Bool) → test x ≡ b → (list_any test xs ≡ true → position_or_len test xs < length xs) → (b || list_any test xs) ≡ true → cond (not b) (1 + position_or_len test xs) 0 < suc (length xs)
    by true q rest e = omega arith
    by false q rest e = let less = rest e in omega arith

module _ {X : Type 0} (test : X → Bool) where
  -- items that are numbered from a later number on
  pub numbered_behind : (base from : ℕ) (xs : List X) → position_from test (base + from) xs ≡ option_map (λ n. base + n) (position_from test from xs)
  numbered_behind base from [] = refl
  numbered_behind base from (x ∷ xs) = by (test x) (numbered_behind base (from + 1) xs)
    where
      by : (b : Bool) → position_from test (base + (from + 1)) xs ≡ option_map (λ n. base + n) (position_from test (from + 1) xs)
          → cond b (Some (base + from)) (position_from test (base + from + 1) xs) ≡ option_map (λ n. base + n) (cond b (Some from) (position_from test (from + 1) xs))
      by true rest = refl
      by false rest =
          let same : base + from + 1 ≡ base + (from + 1) = omega arith in
          ap (λ n. position_from test n xs) same ∙ rest

  -- the number of the first that passes a test, where items are numbered from a number on, is that number and its index
  pub numbered_from : (base : ℕ) (xs : List X) → position_from test base xs ≡ option_map (λ n. base + n) (position_from test 0 xs)
  numbered_from base xs =
      let same : base ≡ base + 0 = omega arith in
      ap (λ n. position_from test n xs) same ∙ numbered_behind base 0 xs

  -- it is within the list
  pub number_within : (from : ℕ) (xs : List X) → IfSome (position_from test from xs) (λ n. n < from + length xs)
  number_within from [] = tt
  number_within from (x ∷ xs) = by (test x) (number_within (from + 1) xs)
    where
      by : (b : Bool) → IfSome (position_from test (from + 1) xs) (λ n. n < from + 1 + length xs) → IfSome (cond b (Some from) (position_from test (from + 1) xs)) (λ n. n < from + suc (length xs))
      by true rest = omega arith
      by false rest =
          let same : from + 1 + length xs ≡ from + suc (length xs) = omega arith in
          subst (λ m. IfSome (position_from test (from + 1) xs) (λ n. n < m)) same rest

  pub index_within : (xs : List X) → IfSome (position_from test 0 xs) (λ n. n < length xs)
  index_within xs = subst (λ m. IfSome (position_from test 0 xs) (λ n. n < m)) (omega arith) (number_within 0 xs)

-- items that are their own names
pub own_names : {X : Type 0} (xs : List X) → map (λ x. x) xs ≡ xs
own_names [] = refl
own_names (x ∷ xs) = ap (λ l. x ∷ l) (own_names xs)
