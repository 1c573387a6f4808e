-- Files that are read in order, where the first failure decides.
use Rattle.std.specs.Prelude.{ℕ, ◌≡◌, ◌⊎◌, ◌≤◌, List, [], ◌∷◌, length, Option, Some, IfSome}
use Rattle.yt_base.specs.Limits.{most_text_bytes}
use Rattle.yt_io.specs.Shelf.{IsMissing, HoldsOver}

-- a file was read: these are its bytes, where the shelf tells, and not too many
pub record IsRead (told : Option (List ℕ → Option (List ℕ))) (name bytes : List ℕ) : Type 0 where
  pub held : IfSome told (λ files. files name ≡ Some bytes)
  pub short : length bytes ≤ most_text_bytes

-- a file has too many bytes, where the shelf tells
abbrev pub IsTooLong : Option (List ℕ → Option (List ℕ)) → List ℕ → Type 0
IsTooLong told name = IfSome told (λ _. HoldsOver told name most_text_bytes)

-- the shelf tells that a file isn't held, and each before it was read
abbrev pub CannotRead : Option (List ℕ → Option (List ℕ)) → List (List ℕ) → Type 0
CannotRead told [] = ⊥
CannotRead told (n ∷ ns) = IsMissing told n ⊎ (((bytes : List ℕ) × IsRead told n bytes) × CannotRead told ns)
