-- The lines of a printed schedule.
use Rattle.std.specs.Prelude.{ℕ, List, [], ◌∷◌, ◌++◌, codes, decimal}
use Rattle.yt_log.specs.declared.job.Segment.{Segment}

-- `run FROM TO NAME NUMBER`, with the name of the job's task, and a line feed
abbrev pub segment_line : List ℕ → Segment → List ℕ
segment_line label s =
    codes "run " ++ (decimal s.from ++ (32 ∷ decimal s.to ++ (32 ∷ label ++ (32 ∷ decimal s.job.number ++ 10 ∷ []))))

-- `end TIME`, and a line feed
abbrev pub end_line : ℕ → List ℕ
end_line time = codes "end " ++ (decimal time ++ 10 ∷ [])
