-- The lines of faults of a file of lines.
use Rattle.std.specs.Prelude.{ℕ, List, ◌∷◌, ◌++◌, codes}
use Rattle.std.specs.Fmt.{decimal}
use Rattle.yt_fitting.specs.declared.kind.FileKind as file
use Rattle.yt_fitting.specs.declared.kind.FileKind.{FileKind}
use Rattle.yt_set.specs.declared.read.LineFault.{LineFault}
use Rattle.yt_set.specs.declared.read.LineFault.TheVariants.{Form, Name, Twice, Cost, Period, Many}

-- the word with which a line begins that tells of a line at fault in a file
abbrev pub file_word : FileKind → List ℕ
file_word file.TheVariants.Set = codes "set"
file_word file.TheVariants.Plan = codes "plan"

-- `KIND LINE` and what comes behind the number
abbrev pub fault_line : FileKind → ℕ → List ℕ → List ℕ
fault_line kind number end = file_word kind ++ (32 ∷ decimal number ++ end)

-- what is wrong with a line of a set, behind its number
abbrev pub fault_end : LineFault → List ℕ
fault_end Form = codes " form\n"
fault_end Name = codes " name\n"
fault_end Twice = codes " twice\n"
fault_end Cost = codes " cost\n"
fault_end Period = codes " period\n"
fault_end Many = codes " many\n"

-- the line of a fault of a set's text, by the number of the line at fault
abbrev pub set_line : ℕ → LineFault → List ℕ
set_line number fault = fault_line file.TheVariants.Set number (fault_end fault)
