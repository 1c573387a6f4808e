-- When segments tell a log.
use Rattle.std.specs.Prelude.{◌≡◌, ℕ, suc, ◌<◌, ◌≤◌, List, [], ◌∷◌, Some, length, take}
use Rattle.yt_log.specs.declared.job.Segment.{Segment}
use Rattle.yt_log.specs.Segments.{AreInOrder, job_at, segments_below, segments_of}
use Rattle.yt_log.specs.Tasks.{Has}
use Rattle.yt_log.specs.Ticks.{Ticks, tick}

-- no two segments that meet are of one job
abbrev pub NoneGoOn : List Segment → Type 0
NoneGoOn [] = Unit {0}
NoneGoOn (segment ∷ []) = Unit {0}
NoneGoOn (segment ∷ next ∷ segments) = (segment.to ≡ next.from → segment.job ≡ next.job → ⊥) × NoneGoOn (next ∷ segments)

-- the segments, none of them empty, are in order below `stop`; there each tick's job is the log's; and no two that meet are of one job
pub record AreSegmentsOf (log : Ticks) (stop : ℕ) (segments : List Segment) : Type 0 where
  pub in_order : AreInOrder 0 segments stop
  pub jobs : (t : ℕ) → t < stop → job_at segments t ≡ tick log t
  pub longest : NoneGoOn segments

-- each tick of a segment went to its job, and neither the tick before it did so, nor, below `stop`, the tick behind it
pub record IsMaximal (log : Ticks) (stop : ℕ) (segment : Segment) : Type 0 where
  pub some : segment.from < segment.to
  pub within : segment.to ≤ stop
  pub runs : (t : ℕ) → segment.from ≤ t → t < segment.to → tick log t ≡ Some segment.job
  pub begins : (t : ℕ) → suc t ≡ segment.from → tick log t ≡ Some segment.job → ⊥
  pub ends : segment.to < stop → tick log segment.to ≡ Some segment.job → ⊥

-- the segments of a log are the one list that tells it, and are maximal; so are those of its ticks below any tick, which are the segments of
-- the log that is cut there, and those of the whole log from its end on
pub record SegmentsTellTheLog : Type 0 where
  pub are : (log : Ticks) → AreSegmentsOf log (length log) (segments_of log)
  pub one : (log : Ticks) (segments : List Segment) → AreSegmentsOf log (length log) segments → segments ≡ segments_of log
  pub are_below : (log : Ticks) (stop : ℕ) → AreSegmentsOf log stop (segments_below log stop)
  pub one_below : (log : Ticks) (stop : ℕ) (segments : List Segment) → AreSegmentsOf log stop segments → segments ≡ segments_below log stop
  pub maximal : (log : Ticks) (stop : ℕ) (segment : Segment) → Has (segments_below log stop) segment → IsMaximal log stop segment
  pub cut : (log : Ticks) (stop : ℕ) → stop ≤ length log → segments_below log stop ≡ segments_of (take stop log)
  pub whole : (log : Ticks) (stop : ℕ) → length log ≤ stop → segments_below log stop ≡ segments_of log
