-- How many messages of each input a trace has, as a table by the inputs' places.
use Rattle.std.specs.Prelude.{◌≡◌, ℕ, suc, ◌+◌, ◌<◌, ◌≤◌, List, [], length, slice_index_or}
use Rattle.yt_graph.specs.Limits.{most_inputs}
use Rattle.yt_trace.specs.declared.message.Message.{Message}
use Rattle.yt_trace.specs.Limits.{most_trace}
use Rattle.yt_trace.specs.Traces.{messages_of}

-- of a trace all messages but those of its rest are counted
abbrev pub AreCounted : List Message → List Message → List ℕ → Type 0
AreCounted trace rest counts = (place : ℕ) → place < most_inputs → slice_index_or counts place 0 + length (messages_of (suc place) rest) ≡ length (messages_of (suc place) trace)

-- the counts of a trace, which is within its limit
pub record AreCountsOf (trace : List Message) (counts : List ℕ) : Type 0 where
  pub few : length trace ≤ most_trace
  pub all : AreCounted trace [] counts
