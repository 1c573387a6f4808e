-- What is printed of a play: the segments of its log, and how it ends.
use Rattle.std.specs.Prelude.{ℕ, List, [], ◌∷◌, ◌++◌, length, slice_index_or, codes}
use Rattle.std.specs.Fmt.{decimal}
use Rattle.yt_list.specs.Numbered.{numbered_or}
use Rattle.yt_log.specs.declared.job.Job.{Job}
use Rattle.yt_log.specs.declared.job.Segment.{Segment}
use Rattle.yt_log.specs.Printed.{end_line, segment_line}
use Rattle.yt_log.specs.Segments.{segments_below, segments_of}
use Rattle.yt_log.specs.Ticks.{Ticks}

-- the line of a segment, by the names of the tasks
abbrev pub play_line : List (List ℕ) → Segment → List ℕ
play_line labels s = segment_line (numbered_or labels s.job.task []) s

-- a line for each segment
abbrev pub play_lines : List (List ℕ) → List Segment → List ℕ
play_lines labels [] = []
play_lines labels (s ∷ segments) = play_line labels s ++ play_lines labels segments

-- where the last segment ends; 0 where there is none
abbrev pub end_of : List Segment → ℕ
end_of [] = 0
end_of (first ∷ others) = (slice_index_or (first ∷ others) (length others) first).to

-- the whole schedule, and its end
abbrev pub kept_text : List (List ℕ) → Ticks → List ℕ
kept_text labels log = play_lines labels (segments_of log) ++ end_line (end_of (segments_of log))

-- `miss NAME NUMBER DEADLINE`
abbrev pub miss_line : List (List ℕ) → Job → ℕ → List ℕ
miss_line labels job due = codes "miss " ++ (numbered_or labels job.task [] ++ (32 ∷ decimal job.number ++ (32 ∷ decimal due ++ 10 ∷ [])))

-- the schedule up to a job's deadline, and that the job misses it
abbrev pub missed_text : List (List ℕ) → Ticks → Job → ℕ → List ℕ
missed_text labels log job due = play_lines labels (segments_below log due) ++ miss_line labels job due
