-- Files of lines: lines are judged in order, and the first at fault decides.
use Rattle.std.specs.Prelude.{◌≡◌, ℕ, ◌==◌, ◌+◌, Bool, true, List, [], ◌∷◌, slice_index, if◌then◌else◌}
use Rattle.std.specs.Prelude.{Result, Ok, Err}
use Rattle.yt_base.specs.Lines.{lines_of, fields_of}
use Rattle.yt_base.specs.declared.file_error.LineError.{LineError}
use Rattle.yt_base.specs.declared.file_error.LineError.TheVariants as line
use Rattle.yt_base.specs.declared.file_error.FileError.{FileError}
use Rattle.yt_base.specs.declared.file_error.FileError.TheVariants as file

-- whether a line says nothing: it has no fields, or the first begins with `#`
abbrev pub is_skipped : List (List ℕ) → Bool
is_skipped [] = true
is_skipped (field ∷ fields) = slice_index field 0 == 35

module _ {S F : Type 0} (judge : S → List (List ℕ) → Result S F) where
  -- what was read once a line is judged by its fields, or its fault
  abbrev pub after_line : S → List ℕ → Result S F
  after_line read line = if is_skipped (fields_of line) then Ok read else judge read (fields_of line)

  -- what was read once all lines are judged, the first of which has this number; or the first line at fault, and its fault
  abbrev pub read_from : ℕ → S → List (List ℕ) → Result S (ℕ × F)
  read_from number read [] = Ok read
  read_from number read (line ∷ lines) = elim (after_line read line) [ Ok more ↦ read_from (number + 1) more lines | Err fault ↦ Err (number, fault) ]

  -- what a text says, where `start` is what an empty text says; or its first line at fault, from 1, and that line's first fault
  abbrev pub read_lines : S → List ℕ → Result S (ℕ × F)
  read_lines start text = read_from 1 start (lines_of text)

-- the error is that of a line which is judged so; memory may run out at any
abbrev pub IsLineError : {S F : Type 0} → Result S F → LineError F → Type 0
IsLineError judged (line.Fault fault) = judged ≡ Err fault
IsLineError judged line.Memory = Unit {0}

-- the error is that of a file which is read so; memory may run out at any
abbrev pub IsFileError : {S F : Type 0} → Result S (ℕ × F) → FileError F → Type 0
IsFileError read (file.Line number fault) = read ≡ Err (number, fault)
IsFileError read file.Memory = Unit {0}
