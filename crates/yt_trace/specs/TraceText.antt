-- The text of a trace.
use Rattle.std.specs.Prelude.{◌≡◌, ℕ, ◌+◌, ◌==◌, not, nat_lt, nat_le, ℤ, List, [], ◌∷◌, ◌++◌, length, map, if◌then◌else◌, Option, None, Some, Result, Ok, Err}
use Rattle.yt_base.specs.Digits.{is_digits, signed_of_text, value_of}
use Rattle.yt_base.specs.Files.{IsFileError, read_lines}
use Rattle.yt_base.specs.declared.file_error.FileError.{FileError}
use Rattle.yt_base.specs.declared.file_error.FileError.TheVariants as file
use Rattle.yt_graph.specs.declared.graph.Input.{Input}
use Rattle.yt_graph.specs.Inputs.{period_in, width_in}
use Rattle.yt_graph.specs.Picture.{GraphTree}
use Rattle.yt_table.specs.Tables.{first_of}
use Rattle.yt_trace.specs.declared.message.Message.{Message}
use Rattle.yt_trace.specs.declared.message_fault.MessageFault.{MessageFault}
use Rattle.yt_trace.specs.declared.message_fault.MessageFault.TheVariants.{Form, Unknown, Width, Late, Order, Soon, Many}
use Rattle.yt_trace.specs.declared.read.TraceFault.{TraceFault}
use Rattle.yt_trace.specs.declared.read.TraceFault.TheVariants as trace
use Rattle.yt_trace.specs.Limits.{most_time, most_trace}
use Rattle.yt_trace.specs.Traces.{latest_time}

-- a number and more, where they are there
abbrev pub with_value : Option ℤ → Option (List ℤ) → Option (List ℤ)
with_value (Some value) (Some values) = Some (value ∷ values)
with_value _ _ = None

-- the numbers that fields say, where each says one
abbrev pub values_of : List (List ℕ) → Option (List ℤ)
values_of [] = Some []
values_of (field ∷ fields) = with_value (signed_of_text field) (values_of fields)

-- what a message's line says: `TIME INPUT VALUE ..`
pub record Said : Type 0 where
  pub time : ℕ
  pub input : List ℕ
  pub values : List ℤ

-- the same of a line whose values are numbers
abbrev pub said_with : List ℕ → List ℕ → Option (List ℤ) → Option Said
said_with time input None = None
said_with time input (Some values) = if is_digits time then Some (record { time = value_of time; input = input; values = values }) else None

abbrev pub said_of : List (List ℕ) → Option Said
said_of (time ∷ input ∷ fields) = said_with time input (values_of fields)
said_of _ = None

-- the number of the first input of a name, from 1
abbrev pub input_named : List Input → List ℕ → Option ℕ
input_named inputs name = first_of name 1 (map (λ i. i.name) inputs)

-- the time of an input's last message, t where there is none
abbrev pub last_from : Option ℕ → ℕ → List Message → Option ℕ
last_from t input [] = t
last_from t input (message ∷ trace) = last_from (if message.input == input then Some message.time else t) input trace

-- the time of the last message of an input, from 1, where there is one
abbrev pub last_time : ℕ → List Message → Option ℕ
last_time input trace = last_from None input trace

-- the least tick at which an input's next message may come: a period after its last one
abbrev pub least_time : ℕ → Option ℕ → ℕ
least_time period None = 0
least_time period (Some last) = last + period

-- the first fault of the next message of an input of this width and this period, after its last one; there are so many messages so far,
-- of which the last comes at `latest`
abbrev pub message_fault : ℕ → ℕ → Option ℕ → ℕ → ℕ → ℕ → ℕ → Option MessageFault
message_fault wide period last latest messages time width =
    if not (width == wide) then Some Width
    else (if nat_lt most_time time then Some Late
    else (if nat_lt time latest then Some Order
    else (if nat_lt time (least_time period last) then Some (Soon (least_time period last))
    else (if nat_le most_trace messages then Some Many else None))))

-- the number, unless there is a fault
abbrev pub unless : Option MessageFault → ℕ → Result ℕ MessageFault
unless None number = Ok number
unless (Some fault) number = Err fault

-- the number of an input, where there is one, of which so wide a message may come next at this tick, or the first fault
abbrev pub judged_number : List Input → List Message → ℕ → ℕ → Option ℕ → Result ℕ MessageFault
judged_number inputs trace time width None = Err Unknown
judged_number inputs trace time width (Some input) =
    unless (message_fault (width_in inputs input) (period_in inputs input) (last_time input trace) (latest_time trace) (length trace) time width) input

-- the same of the input that a name says
abbrev pub judged_input : List Input → List Message → ℕ → List ℕ → ℕ → Result ℕ MessageFault
judged_input inputs trace time name width = judged_number inputs trace time width (input_named inputs name)

-- the trace with a message of the input of a number, or the fault
abbrev pub with_message : List Message → ℕ → List ℤ → Result ℕ MessageFault → Result (List Message) MessageFault
with_message trace time values (Ok input) = Ok (trace ++ record { time = time; input = input; values = values } ∷ [])
with_message trace time values (Err fault) = Err fault

-- the trace with the message that a line says, or the line's first fault
abbrev pub judged_said : List Input → List Message → Option Said → Result (List Message) MessageFault
judged_said inputs trace None = Err Form
judged_said inputs trace (Some said) = with_message trace said.time said.values (judged_input inputs trace said.time said.input (length said.values))

abbrev pub judged : List Input → List Message → List (List ℕ) → Result (List Message) MessageFault
judged inputs trace fields = judged_said inputs trace (said_of fields)

-- the trace that a text says of a graph, or its first line at fault and that line's first fault
abbrev pub trace_of : GraphTree → List ℕ → Result (List Message) (ℕ × MessageFault)
trace_of g text = read_lines (judged g.inputs) [] text

-- a text says a trace of a graph: no line is at fault
abbrev pub IsLegalTrace : GraphTree → List ℕ → Type 0
IsLegalTrace g text = (trace : List Message) × (trace_of g text ≡ Ok trace)

-- the fault of a line of this number
abbrev pub in_line : ℕ → MessageFault → TraceFault
in_line line Form = trace.Form line
in_line line Unknown = trace.Unknown line
in_line line Width = trace.Width line
in_line line Late = trace.Late line
in_line line Order = trace.Order line
in_line line (Soon least) = trace.Soon line least
in_line line Many = trace.Many line

-- why a file of lines is no trace
abbrev pub fault_of : FileError MessageFault → TraceFault
fault_of (file.Line line fault) = in_line line fault
fault_of file.Memory = trace.Memory

-- the fault is that of the text's first line at fault; memory may run out at any
abbrev pub IsFaultOf : GraphTree → List ℕ → TraceFault → Type 0
IsFaultOf g text fault = (error : FileError MessageFault) × (fault ≡ fault_of error) × IsFileError (trace_of g text) error
