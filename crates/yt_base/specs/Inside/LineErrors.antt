-- The fault of a line as that of its file.
use Rattle.std.specs.Prelude.{ℕ}
use Rattle.yt_base.specs.declared.file_error.LineError.{LineError}
use Rattle.yt_base.specs.declared.file_error.LineError.TheVariants as line
use Rattle.yt_base.specs.declared.file_error.FileError.{FileError}
use Rattle.yt_base.specs.declared.file_error.FileError.TheVariants as file

-- the error of a line is that of the file
abbrev pub error_at : {F : Type 0} → ℕ → LineError F → FileError F
error_at number (line.Fault fault) = file.Line number fault
error_at number line.Memory = file.Memory
