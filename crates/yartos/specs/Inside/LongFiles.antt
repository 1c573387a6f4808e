-- The file that is too long, by its number from 1.
use Rattle.std.specs.Prelude.{ℕ, zero, suc, List, [], ◌∷◌, Option}
use Rattle.yartos.specs.declared.files.Unanswered.{Unanswered}
use Rattle.yartos.specs.declared.files.Unanswered.TheVariants.{NotRead, TooLong, NoMemory}
use Rattle.yartos.specs.Reads.{IsRead, IsTooLong}

-- the file of this number, from 1, has too many bytes, where the shelf tells, and each before it was read
abbrev pub IsFirstLong : Option (List ℕ → Option (List ℕ)) → List (List ℕ) → ℕ → Type 0
IsFirstLong told [] number = ⊥
IsFirstLong told (n ∷ ns) zero = ⊥
IsFirstLong told (n ∷ ns) (suc zero) = IsTooLong told n
IsFirstLong told (n ∷ ns) (suc (suc number)) = ((bytes : List ℕ) × IsRead told n bytes) × IsFirstLong told ns (suc number)

-- P of the number of the file that is too long, where one is
abbrev pub IfLong : Unanswered → (ℕ → Type 0) → Type 0
IfLong NotRead P = Unit {0}
IfLong (TooLong number) P = P number
IfLong NoMemory P = Unit {0}
