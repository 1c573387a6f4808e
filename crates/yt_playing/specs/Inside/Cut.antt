-- What is printed of segments below a tick, segment by segment.
use Rattle.std.specs.Prelude.{ℕ, min, nat_lt, List, [], ◌∷◌, ◌++◌, if◌then◌else◌}
use Rattle.yt_log.specs.declared.job.Segment.{Segment}
use Rattle.yt_playing.specs.Texts.{play_line}

-- the line of a segment that begins below a tick, cut there where it goes beyond; nothing of one that begins later
abbrev pub line_below : List (List ℕ) → ℕ → Segment → List ℕ
line_below labels stop s = if nat_lt s.from stop then play_line labels (record s { to = min s.to stop }) else []

-- these of each segment
abbrev pub lines_below : List (List ℕ) → ℕ → List Segment → List ℕ
lines_below labels stop [] = []
lines_below labels stop (s ∷ segments) = line_below labels stop s ++ lines_below labels stop segments
