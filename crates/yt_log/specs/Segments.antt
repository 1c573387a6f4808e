-- The run-length form of a log: its maximal segments, and the ticks that segments stand for.
use Rattle.std.specs.Prelude.{ℕ, zero, suc, ◌-◌, ◌<◌, ◌≤◌, ◌==◌, ◌&&◌, Bool, false, nat_lt, nat_le, List, [], ◌∷◌, ◌++◌, Option, Some, None, length, slice_index_or, slice_set, if◌then◌else◌}
use Rattle.yt_log.specs.declared.job.Job.{Job}
use Rattle.yt_log.specs.declared.job.Segment.{Segment}
use Rattle.yt_log.specs.Plan.{same_job}
use Rattle.yt_log.specs.Ticks.{Ticks, tick}

-- there is a last segment, and it ends at tick `end` and is of the job
unfoldable pub ends_in : List Segment → ℕ → Job → Bool
ends_in [] end job = false
ends_in (first ∷ others) end job =
    let last = slice_index_or (first ∷ others) (length others) first in
    (last.to == end) && same_job last.job job

-- the segments after the ticks from `from` to before `to` went to a job: the last one goes on, where it ends at `from` and is of the job
unfoldable pub with_run : List Segment → ℕ → ℕ → Job → List Segment
with_run segments from to job =
    let run : Segment = record { from = from; to = to; job = job } in
    let last = slice_index_or segments (length segments - 1) run in
    if ends_in segments from job then slice_set segments (length segments - 1) (record last { to = to }) else segments ++ run ∷ []

-- the segments after tick t
unfoldable pub with_tick : List Segment → ℕ → Option Job → List Segment
with_tick segments t None = segments
with_tick segments t (Some job) = with_run segments t (suc t) job

-- the segments of the ticks below t
unfoldable pub segments_below : Ticks → ℕ → List Segment
segments_below log zero = []
segments_below log (suc t) = with_tick (segments_below log t) t (tick log t)

-- the maximal segments of a log, in order
abbrev pub segments_of : Ticks → List Segment
segments_of log = segments_below log (length log)

-- the segments are in order, none before tick `low` and none beyond tick `high`
abbrev pub AreInOrder : ℕ → List Segment → ℕ → Type 0
AreInOrder low [] high = low ≤ high
AreInOrder low (segment ∷ segments) high = (low ≤ segment.from) × (segment.from < segment.to) × AreInOrder segment.to segments high

-- the job of the first segment that has tick t
unfoldable pub job_at : List Segment → ℕ → Option Job
job_at [] t = None
job_at (segment ∷ segments) t = if nat_le segment.from t && nat_lt t segment.to then Some segment.job else job_at segments t

-- the log of so many ticks that has these segments
unfoldable pub ticks_of : List Segment → ℕ → Ticks
ticks_of segments zero = []
ticks_of segments (suc until) = ticks_of segments until ++ job_at segments until ∷ []
