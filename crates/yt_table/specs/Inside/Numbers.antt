-- What a map from names to numbers says.
use Rattle.std.specs.Prelude.{ℕ, List, Option, Some, None, bytes_eq, if◌then◌else◌}
use Rattle.std.specs.Borrow.{Bor}
use Rattle.indexmap.specs.IndexMap.{IndexMap, get_by, UpdatesBy}

-- the number that the map has for a name
abbrev pub number_in : {S : Type 0} → IndexMap (Bor (List ℕ)) ℕ S → List ℕ → Option ℕ
number_in numbers name = get_by (λ k. bytes_eq name k.now) numbers

-- the number of a name where one more is declared: what it had, else the new one where it is the new name
abbrev pub or_declared : Option ℕ → List ℕ → List ℕ → ℕ → Option ℕ
or_declared (Some n) name new number = Some n
or_declared None name new number = if bytes_eq name new then Some number else None

-- the number that a name has in declarations and, where it's in none, in later ones
abbrev pub or_later : Option ℕ → Option ℕ → Option ℕ
or_later (Some n) later = Some n
or_later None later = later

-- a name has a number now, and each other name the one that it had
abbrev pub HasNumber : {S : Type 0} → IndexMap (Bor (List ℕ)) ℕ S → IndexMap (Bor (List ℕ)) ℕ S → List ℕ → ℕ → Type 0
HasNumber old new name number = UpdatesBy (λ x y. bytes_eq x.now y.now) (λ k. bytes_eq name k.now) old new (Some number)
