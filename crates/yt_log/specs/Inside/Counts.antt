-- Counting over the segments of a log, and the first miss among the items judged so far.
use Rattle.std.specs.Prelude.{◌≡◌, ℕ, ◌+◌, ◌-◌, ◌<◌, ◌≤◌, min, false, List, [], ◌∷◌, Option, Some, None, if◌then◌else◌, length, get_or, slice_index}
use Rattle.yt_set.specs.declared.task.Task.{Task}
use Rattle.yt_log.specs.declared.job.Job.{Job}
use Rattle.yt_log.specs.declared.job.Segment.{Segment}
use Rattle.yt_log.specs.declared.judge.miss.Miss.{Miss}
use Rattle.yt_log.specs.declared.plan.PlanItem.{PlanItem}
use Rattle.yt_log.specs.Plan.{same_job, deadline_of}
use Rattle.yt_log.specs.Ticks.{Ticks, IsMiss, done}
use Rattle.yt_order.specs.Words.{precedes}
use Rattle.yt_log.specs.EdfDdm.{sooner}
use Rattle.yt_log.specs.Segments.{AreInOrder}
use Rattle.yt_log.specs.Judging.{miss_rank}
use Rattle.yt_log.specs.Inside.Heads.{item_at}

-- how many ticks below t a segment gives to a job
abbrev pub share : Segment → Job → ℕ → ℕ
share segment job t = if same_job segment.job job then min segment.to t - segment.from else 0

-- how many the segments give to it
unfoldable pub ticks_below : List Segment → Job → ℕ → ℕ
ticks_below [] job t = 0
ticks_below (segment ∷ segments) job t = share segment job t + ticks_below segments job t

-- the segments are in order
abbrev pub AreOrdered : List Segment → Type 0
AreOrdered segments = (low : ℕ) × (high : ℕ) × AreInOrder low segments high

-- what stands for a segment outside a list
abbrev pub no_segment : Segment
no_segment = record { from = 0; to = 0; job = record { task = 0; number = 0 } }

-- the segment at a place of a list, from 0
unfoldable pub segment_at : List Segment → ℕ → Segment
segment_at segments place = get_or segments place no_segment

-- a segment is of no later job of a job's task
abbrev pub IsNoLater : Job → Segment → Type 0
IsNoLater job segment = segment.job.task ≡ job.task → segment.job.number ≤ job.number

-- what a miss is told to be: the item's, as the segments count its job's ticks
pub record TellsMiss (tasks : List Task) (segments : List Segment) (h : ℕ) (item : PlanItem) (miss : Miss) : Type 0 where
  pub due : miss.due ≡ deadline_of tasks item
  pub job : miss.job ≡ item.job
  pub misses : IsMiss tasks (ticks_below segments) h item

-- an item's miss, where it is due by h and the segments give it less than it costs below its deadline
abbrev pub Judges : List Task → List Segment → ℕ → PlanItem → Option Miss → Type 0
Judges tasks segments h item None = deadline_of tasks item ≤ h → item.cost ≤ ticks_below segments item.job (deadline_of tasks item)
Judges tasks segments h item (Some miss) = TellsMiss tasks segments h item miss

-- for each task so many segments in front; those of the item's task go on over segments that are of none of its later jobs
pub record Passes (segments : List Segment) (item : PlanItem) (old new : List ℕ) : Type 0 where
  pub long : length new ≡ length old
  pub others : (n : ℕ) → (n ≡ item.job.task - 1 → ⊥) → slice_index new n ≡ slice_index old n
  pub within : slice_index new (item.job.task - 1) ≤ length segments
  pub no_later : (k : ℕ) → slice_index old (item.job.task - 1) ≤ k → k < slice_index new (item.job.task - 1) → IsNoLater item.job (segment_at segments k)

-- what a miss goes by
unfoldable pub rank_of : Miss → List ℕ
rank_of miss = miss.due ∷ miss.job.task ∷ miss.job.number ∷ []

-- of two misses, where there are any, the one that comes first
unfoldable pub sooner_miss : Option Miss → Option Miss → Option Miss
sooner_miss None other = other
sooner_miss (Some miss) other = Some (sooner rank_of miss other)

-- the miss of an item at one of the first n places, before which no miss of an item there comes
pub record IsFirstBelow (tasks : List Task) (plan : List PlanItem) (log : Ticks) (h n : ℕ) (miss : Miss) : Type 0 where
  pub place : ℕ
  pub below : place < n
  pub short : IsMiss tasks (done log) h (item_at plan place)
  pub due : miss.due ≡ deadline_of tasks (item_at plan place)
  pub job : miss.job ≡ (item_at plan place).job
  pub first : (k : ℕ) → k < n → IsMiss tasks (done log) h (item_at plan k) → precedes (miss_rank tasks (item_at plan k)) (rank_of miss) ≡ false

-- the first miss of the items at the first n places, none where none misses
abbrev pub AreJudged : List Task → List PlanItem → Ticks → ℕ → ℕ → Option Miss → Type 0
AreJudged tasks plan log h n None = (k : ℕ) → k < n → IsMiss tasks (done log) h (item_at plan k) → ⊥
AreJudged tasks plan log h n (Some miss) = IsFirstBelow tasks plan log h n miss
