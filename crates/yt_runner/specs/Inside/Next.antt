-- Which tick comes next.
use Rattle.std.specs.Prelude.{ℕ, min, Option, None, Some, slice_get}
use Rattle.std.specs.Option.{option_map}
use Rattle.yt_trace.specs.declared.message.Message.{Message}
use Rattle.yt_runner.specs.Inside.State.{RunnerState}

-- the tick at which the next message of the trace comes, where there is one
abbrev pub next_read : RunnerState → Option ℕ
next_read state = option_map (λ (x : Message). x.time) (slice_get state.trace state.taken)

-- the lesser of two ticks, where both are there, and else the one that is
abbrev pub least_of : Option ℕ → Option ℕ → Option ℕ
least_of (Some a) (Some b) = Some (min a b)
least_of (Some a) None = Some a
least_of None b = b
