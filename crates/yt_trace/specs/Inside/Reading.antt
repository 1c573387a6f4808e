-- What the lines so far say, and what may come next.
use Rattle.std.specs.Prelude.{◌≡◌, ℕ, ◌<◌, ◌≤◌, List, length, Option, Some, Result, Ok, Err, IsSomeAnd, All}
use Rattle.yt_graph.specs.declared.graph.Input.{Input}
use Rattle.yt_graph.specs.Limits.{most_inputs, most_period}
use Rattle.yt_graph.specs.Inputs.{period_in}
use Rattle.yt_list.specs.Numbered.{numbered}
use Rattle.yt_trace.specs.declared.message.Message.{Message}
use Rattle.yt_trace.specs.declared.message_fault.MessageFault.{MessageFault}
use Rattle.yt_trace.specs.Limits.{most_time, most_trace}
use Rattle.yt_trace.specs.Traces.{KeepsPeriodsOf, PortMessage, latest_time, messages_of}
use Rattle.yt_trace.specs.TraceText.{judged, last_time, least_time}

-- the inputs of a graph, and the messages that the lines so far say
pub record TraceSoFar : Type 0 where
  pub inputs : List Input
  pub trace : List Message

-- inputs, and messages or a fault
abbrev pub so_far : {F : Type 0} → List Input → Result (List Message) F → Result TraceSoFar F
so_far inputs (Ok trace) = Ok (record { inputs = inputs; trace = trace })
so_far inputs (Err fault) = Err fault

-- what was read with the message of a line, or the line's first fault
abbrev pub judged_so_far : TraceSoFar → List (List ℕ) → Result TraceSoFar MessageFault
judged_so_far read fields = so_far read.inputs (judged read.inputs read.trace fields)

-- these are the times of the last messages of as many inputs as a graph may have
abbrev pub AreLast : List (Option ℕ) → List Message → Type 0
AreLast times trace = (input : ℕ) → 1 ≤ input → input ≤ most_inputs → numbered times input ≡ Some (last_time input trace)

-- a tick is no later than a last one, which is there
abbrev pub IsBy : ℕ → Option ℕ → Type 0
IsBy time last = IsSomeAnd last (λ t. time ≤ t)

-- no message of an input comes after its last one
abbrev pub AreNewest : List Message → Type 0
AreNewest trace = (input : ℕ) → All (λ (m : PortMessage). IsBy m.time (last_time input trace)) (messages_of input trace)

-- inputs as a well-formed graph has them
pub record AreInputs (inputs : List Input) : Type 0 where
  pub few : length inputs ≤ most_inputs
  pub periods : All (λ (i : Input). i.period ≤ most_period) inputs

-- the messages so far keep the periods of the inputs, and these are the inputs' last times
pub record IsSoFar (read : TraceSoFar) (times : List (Option ℕ)) : Type 0 where
  pub are_inputs : AreInputs read.inputs
  pub keeps : KeepsPeriodsOf read.inputs read.trace
  pub last : AreLast times read.trace
  pub newest : AreNewest read.trace

-- the next message of an input has no fault
pub record IsFine (input : Input) (last : Option ℕ) (latest messages time width : ℕ) : Type 0 where
  pub wide : width ≡ input.width
  pub in_time : time ≤ most_time
  pub order : latest ≤ time
  pub apart : least_time input.period last ≤ time
  pub room : messages < most_trace

-- a message of an input, so wide, may come next at a tick
pub record IsNext (read : TraceSoFar) (input time width : ℕ) : Type 0 where
  pub from_one : 1 ≤ input
  pub there : input ≤ length read.inputs
  pub wide : IsSomeAnd (numbered read.inputs input) (λ i. i.width ≡ width)
  pub in_time : time ≤ most_time
  pub order : latest_time read.trace ≤ time
  pub apart : least_time (period_in read.inputs input) (last_time input read.trace) ≤ time
  pub room : length read.trace < most_trace
