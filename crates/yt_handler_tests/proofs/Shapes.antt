-- The shapes of the places of code.
use Rattle.std.specs.Prelude.{ℕ}
use Rattle.yt_code.specs.Valid.{Shape}

-- a shape by its numbers
abbrev pub shape : ℕ → ℕ → Shape
shape d o = record { depth = d; open_loops = o }
