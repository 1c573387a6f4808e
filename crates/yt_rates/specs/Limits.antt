-- The limits of a graph's rates; that of a period is the tasks' (`most_ticks`).
use Rattle.std.specs.Prelude.{ℕ}

-- the longest logical time from an input's message to one that comes of it, in ticks
abbrev pub most_reach : ℕ
most_reach = 4000000
