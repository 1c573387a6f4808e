-- The limits of plans.
use Rattle.std.specs.Prelude.{ℕ, ◌+◌}
use Rattle.yt_set.specs.Limits.{most_ticks}

-- the last tick at which a job of a legal plan may arrive
abbrev pub most_arrival : ℕ
most_arrival = 8000000

-- the last tick before which a job of a legal plan may have to be done: the longest period after the last arrival, 9,000,000
abbrev pub most_deadline : ℕ
most_deadline = most_arrival + most_ticks

-- the last tick at which a job of a plan's text may arrive
abbrev pub most_read_arrival : ℕ
most_read_arrival = 4000000

-- how many jobs a plan's text has at most
abbrev pub most_read_jobs : ℕ
most_read_jobs = 20000
