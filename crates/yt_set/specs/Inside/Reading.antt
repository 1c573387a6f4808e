-- What the steps of reading a set's text answer.
use Rattle.std.specs.Prelude.{ℕ, List, Option, Some, None, if◌then◌else◌}
use Rattle.yt_base.specs.Digits.{value_of}
use Rattle.yt_base.specs.declared.file_error.FileError.{FileError}
use Rattle.yt_base.specs.declared.file_error.FileError.TheVariants as file
use Rattle.yt_set.specs.declared.read.LineFault.{LineFault}
use Rattle.yt_set.specs.declared.read.SetFault.{SetFault}
use Rattle.yt_set.specs.declared.read.SetFault.TheVariants.{Line, Memory}
use Rattle.yt_set.specs.declared.task_line.TaskLine.{TaskLine}
use Rattle.yt_set.specs.declared.task_line.NewTask.{NewTask}
use Rattle.yt_set.specs.NamedTasks.{NamedTasks}
use Rattle.yt_set.specs.SetText.{TaskTexts, in_range, with_task}

-- the texts of a line's fields
abbrev pub texts_of : TaskLine → TaskTexts
texts_of line = record { name = line.name.now; cost = line.cost.now; period = line.period.now; group = line.group.now }

-- a cost or a period, where it is in its range
abbrev pub ticks_of : List ℕ → Option ℕ
ticks_of text = if in_range (value_of text) then Some (value_of text) else None

-- what was read with a task that a line says
abbrev pub with_new : NamedTasks → NewTask → NamedTasks
with_new read new = with_task read new.name.now new.cost new.period new.group.now

-- why a set's text isn't read, in the words of sets
abbrev pub fault_of : FileError LineFault → SetFault
fault_of (file.Line number fault) = Line number fault
fault_of file.Memory = Memory
