-- Limits of runs.
use Rattle.std.specs.Prelude.{ℕ}

-- the most jobs and output lines that a run may come to
abbrev pub most_jobs_and_lines : ℕ
most_jobs_and_lines = 1000000
