-- The limits of traces.
use Rattle.std.specs.Prelude.{ℕ}
use Rattle.yt_trace.specs.declared.limits.TheConstants.{MOST_MESSAGES, MOST_TIME}

-- the last tick at which a message of a trace may come
abbrev pub most_time : ℕ
most_time = MOST_TIME

-- how many messages a trace has at most
abbrev pub most_trace : ℕ
most_trace = MOST_MESSAGES
