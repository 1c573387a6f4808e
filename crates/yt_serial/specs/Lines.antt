-- The lines of one output, and lines in order.
use Rattle.std.specs.Prelude.{◌≡◌, ℕ, ◌==◌, false, List, [], ◌∷◌, if◌then◌else◌}
use Rattle.yt_log.specs.Tasks.{Has}
use Rattle.yt_serial.specs.declared.shown.OutLine.{OutLine}
use Rattle.yt_serial.specs.Told.{line_before}

-- the lines of an output
abbrev pub lines_of : ℕ → List OutLine → List OutLine
lines_of n [] = []
lines_of n (l ∷ lines) = if l.output == n then l ∷ lines_of n lines else lines_of n lines

-- lines of which none stands before an earlier one
abbrev pub AreInLineOrder : List OutLine → Type 0
AreInLineOrder [] = Unit {0}
AreInLineOrder (l ∷ lines) = ((x : OutLine) → Has lines x → line_before x l ≡ false) × AreInLineOrder lines
