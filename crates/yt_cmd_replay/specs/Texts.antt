-- The line of a pattern that is too long to be played.
use Rattle.std.specs.Prelude.{ℕ, List, [], ◌∷◌, ◌++◌, codes}
use Rattle.std.specs.Fmt.{decimal}

-- `long replay UPTO JOBS`
abbrev pub long_line : ℕ → ℕ → List ℕ
long_line upto jobs = codes "long replay" ++ (32 ∷ decimal upto ++ (32 ∷ decimal jobs ++ 10 ∷ []))
