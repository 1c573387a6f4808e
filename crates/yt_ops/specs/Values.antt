-- What a stored closure answers.
use Rattle.std.specs.Prelude.{◌≡◌, ℕ, ℤ, FitsSigned}
use Rattle.std.specs.Int.{w64}
use Rattle.yt_graph.specs.Meaning.{op_value}

-- whatever is answered to two numbers of 64 bits is the value of the operator with this code
abbrev pub GivesValuesOf : ℕ → (ℤ → ℤ → ℤ → Type 0) → Type 0
GivesValuesOf code answers = (x y r : ℤ) → FitsSigned w64 x → FitsSigned w64 y → answers x y r → r ≡ op_value code x y
