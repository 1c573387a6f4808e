-- Where a walk through the points of tasks stands.
use Rattle.std.specs.Prelude.{◌≡◌, ℕ, ◌+◌, ◌<◌, ◌≤◌, List, length, slice_index_or}
use Rattle.std.specs.List.{All}
use Rattle.yt_set.specs.declared.task.Task.{Task}
use Rattle.yt_set.specs.Limits.{most_ticks}
use Rattle.yt_set.specs.Tasks.{IsTaskSet}
use Rattle.yt_fits.specs.declared.dearest.Dearest.{Dearest}
use Rattle.yt_fits.specs.declared.stream.Stream.{Stream}
use Rattle.yt_fits.specs.declared.tournament.Entrant.{Entrant}
use Rattle.yt_fits.specs.Inside.Streams.{AreStreamsOf, IsInRange, cost_counted, next_of}
use Rattle.yt_fits.specs.Inside.Tournaments.{IsPlayed, never, number_at}

-- the stream at a place, from 0
abbrev pub stream_at : List Stream → ℕ → Stream
stream_at streams place = slice_index_or streams place (record { cost = 0; period = 0; within = 0; jobs = 0 })

-- all jobs are counted that can be due before the point, of each stream those up to its next point, which isn't before it
pub record IsAt (tasks : List Task) (streams : List Stream) (nodes : List Entrant) (demand point : ℕ) : Type 0 where
  pub set : IsTaskSet tasks
  pub of_tasks : AreStreamsOf tasks streams
  pub played : IsPlayed nodes
  pub nexts : (place : ℕ) → place < length streams → number_at nodes place ≡ next_of (stream_at streams place)
  pub rest : (place : ℕ) → length streams ≤ place → place < 64 → number_at nodes place ≡ never
  pub counted : demand ≡ cost_counted streams
  pub short : point ≤ most_ticks
  pub ahead : All (λ stream. point ≤ next_of stream) streams
  pub near : All (λ stream. next_of stream ≤ point + stream.period) streams

-- in the spans from this one up to its last, no task in whose range they are costs more
abbrev pub IsDearest : List Task → ℕ → Dearest → Type 0
IsDearest tasks from dearest = (span : ℕ) → from ≤ span → span ≤ dearest.until → All (λ task. IsInRange tasks span task → task.cost ≤ dearest.cost) tasks
