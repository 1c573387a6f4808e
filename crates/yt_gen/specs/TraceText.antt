-- The text of the trace for the graph of so many pipelines.
use Rattle.std.specs.Prelude.{ℕ, ◌+◌, ◌*◌, ◌%◌, Bool, List, [], ◌∷◌, ◌++◌, codes, map}
use Rattle.std.specs.Fmt.{decimal}
use Rattle.std.specs.List.{flat_map, range_with_len}
use Rattle.yt_order.specs.Sorting.{before_by, sort_by}
use Rattle.yt_gen.specs.Pipelines.{period_of, pipelines}
use Rattle.yt_gen.specs.declared.limits.TheConstants.{MESSAGES}
use Rattle.yt_gen.specs.declared.message.Message.{Message}

-- the message of an input that so many messages of it come before
abbrev pub message_of : ℕ → ℕ → Message
message_of i n = record { time = 13 * i + n * (period_of i + i % 5); input = i; value = (31 * i + 17 * n) % 1000 }

-- the messages of an input
unfoldable pub messages_of : ℕ → List Message
messages_of i = map (message_of i) (range_with_len 0 MESSAGES)

-- a message stands before another by its time, and then by its input
abbrev pub message_before : Message → Message → Bool
message_before = before_by (λ m. m.time) (λ m. m.input)

-- the messages of all inputs, in order
abbrev pub messages : ℕ → List Message
messages count = sort_by message_before (flat_map messages_of (pipelines count))

-- `TIME INPUT VALUE`
abbrev pub line_of : Message → List ℕ
line_of m = decimal m.time ++ (codes " in" ++ (decimal m.input ++ (32 ∷ decimal m.value ++ 10 ∷ [])))

-- a line for each message
abbrev pub trace_text : ℕ → List ℕ
trace_text count = flat_map line_of (messages count)
