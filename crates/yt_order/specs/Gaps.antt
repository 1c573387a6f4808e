-- Things that come one after another, each later one a gap after the one before.
use Rattle.std.specs.Prelude.{ℕ, ◌+◌, List, [], ◌∷◌}

-- what is made of each of these things and of the time at which it comes: the first comes at a time, each later one a gap after the one before
abbrev pub at_gaps : {X Y : Type 0} → (ℕ → X → Y) → ℕ → ℕ → List X → List Y
at_gaps make time gap [] = []
at_gaps make time gap (x ∷ xs) = make time x ∷ at_gaps make (time + gap) gap xs
