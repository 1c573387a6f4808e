-- Names in lists: whether a name is among them, and where it comes first.
use Rattle.std.specs.Prelude.{ℕ, Bool, List, ◌∷◌, [], ◌++◌, bytes_eq, Option, if◌then◌else◌}
use Rattle.std.specs.List.{list_any, position_from}

-- the number of the first of these names that is the given one, where they are numbered from a number on
abbrev pub first_of : List ℕ → ℕ → List (List ℕ) → Option ℕ
first_of name base names = position_from (bytes_eq name) base names

-- whether the name is among these
abbrev pub is_among : List ℕ → List (List ℕ) → Bool
is_among name names = list_any (bytes_eq name) names

-- these names with one more; a name that is among them stays the one that it was
abbrev pub with_name : List ℕ → List (List ℕ) → List (List ℕ)
with_name name names = if is_among name names then names else names ++ name ∷ []
