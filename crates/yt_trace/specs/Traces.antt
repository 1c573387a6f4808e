-- Traces: the messages that come from outside.
use Rattle.std.specs.Prelude.{◌≡◌, ℕ, ◌+◌, ◌≤◌, ◌==◌, ℤ, List, [], ◌∷◌, length, All, AllPairs, IsSomeAnd, if◌then◌else◌}
use Rattle.yt_graph.specs.declared.graph.Input.{Input}
use Rattle.yt_graph.specs.Inputs.{period_in}
use Rattle.yt_graph.specs.Picture.{GraphTree}
use Rattle.yt_list.specs.Numbered.{numbered}
use Rattle.yt_trace.specs.declared.message.Message.{Message}
use Rattle.yt_trace.specs.Limits.{most_time, most_trace}

-- a message at a port: the tick at which it arrives, and its numbers
pub record PortMessage : Type 0 where
  pub time : ℕ
  pub values : List ℤ

-- each message comes at least a period after each one before it
abbrev pub AreApart : ℕ → List PortMessage → Type 0
AreApart period messages = AllPairs (λ (earlier later : PortMessage). earlier.time + period ≤ later.time) messages

-- the messages of an input, from 1, in order
abbrev pub messages_of : ℕ → List Message → List PortMessage
messages_of input [] = []
messages_of input (message ∷ trace) =
    if message.input == input then (record { time = message.time; values = message.values }) ∷ messages_of input trace else messages_of input trace

-- messages come in order of time
abbrev pub AreInTimeOrder : List Message → Type 0
AreInTimeOrder trace = AllPairs (λ (earlier later : Message). earlier.time ≤ later.time) trace

-- the time of the last message, t where there is none
abbrev pub latest_from : ℕ → List Message → ℕ
latest_from t [] = t
latest_from t (message ∷ trace) = latest_from message.time trace

-- the time of a trace's last message; 0 where it has none
abbrev pub latest_time : List Message → ℕ
latest_time trace = latest_from 0 trace

-- a trace, of whatever graph: at most so many messages, in order of time, each within the limit
pub record IsTrace (trace : List Message) : Type 0 where
  pub few : length trace ≤ most_trace
  pub in_time : All (λ (message : Message). message.time ≤ most_time) trace
  pub order : AreInTimeOrder trace

-- a message is of one of these inputs and as wide as it, and comes within the limit
pub record IsMessageOf (inputs : List Input) (message : Message) : Type 0 where
  pub width : IsSomeAnd (numbered inputs message.input) (λ i. i.width ≡ length message.values)
  pub in_time : message.time ≤ most_time

-- a trace keeps the periods of these inputs: its messages are in order of time, and those of an input at least its period apart
pub record KeepsPeriodsOf (inputs : List Input) (trace : List Message) : Type 0 where
  pub few : length trace ≤ most_trace
  pub messages : All (IsMessageOf inputs) trace
  pub order : AreInTimeOrder trace
  pub apart : (input : ℕ) → AreApart (period_in inputs input) (messages_of input trace)

-- a trace keeps a graph's periods
abbrev pub KeepsPeriods : GraphTree → List Message → Type 0
KeepsPeriods g trace = KeepsPeriodsOf g.inputs trace
