-- Lists put in order.
use Rattle.std.specs.Prelude.{ℕ, ◌==◌, ◌&&◌, ◌||◌, nat_lt, Bool, List, [], ◌∷◌, if◌then◌else◌}
use Rattle.std.specs.Cmp.{IsStrictWeakOrder}
use Rattle.std.specs.List.Sorted.{IsPermutation, IsSortedBy, IsStableBy}

-- x put in front of the first element that doesn't stand before it
abbrev pub insert_by : {X : Type 0} → (X → X → Bool) → X → List X → List X
insert_by before x [] = x ∷ []
insert_by before x (y ∷ ys) = if before y x then y ∷ insert_by before x ys else x ∷ y ∷ ys

-- the elements in order; those of which neither stands before the other keep theirs
abbrev pub sort_by : {X : Type 0} → (X → X → Bool) → List X → List X
sort_by before [] = []
sort_by before (x ∷ xs) = insert_by before x (sort_by before xs)

-- ys has the elements of xs, none of which stands before the one in front of it; those of which neither stands before the other keep their order
pub record IsInOrderOf {X : Type 0} (before : X → X → Bool) (xs ys : List X) : Type 0 where
  pub same : IsPermutation xs ys
  pub sorted : IsSortedBy before ys
  pub stable : IsStableBy before xs ys

-- by any test in which any two things compare
abbrev pub SortingSorts : Type 0 → Type 0
SortingSorts X = (before : X → X → Bool) (xs : List X) → IsStrictWeakOrder before → IsInOrderOf before xs (sort_by before xs)

-- the lesser first number, and of two equal ones the lesser second number
abbrev pub before_by : {X : Type 0} → (X → ℕ) → (X → ℕ) → X → X → Bool
before_by first second a b = nat_lt (first a) (first b) || ((first a == first b) && nat_lt (second a) (second b))

-- any two things compare by two of their numbers
abbrev pub TwoNumbersCompare : Type 0 → Type 0
TwoNumbersCompare X = (first second : X → ℕ) → IsStrictWeakOrder (before_by first second)
