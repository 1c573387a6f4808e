-- The room that an executive has for the jobs of a run.
use Rattle.std.specs.Prelude.{◌≡◌, ℕ, ◌+◌, ◌<◌, length}
use Rattle.std.specs.List.{sum_by}
use Rattle.yt_exec.specs.Moments.{Moment}

-- how many jobs were released: of each task as many as the number of its last one
abbrev pub jobs_released : Moment → ℕ
jobs_released moment = sum_by (λ last. last.number) moment.releases

-- where so many jobs come at most, there is room for one more than are still to come
pub record HasRoom (jobs : ℕ) (moment : Moment) : Type 0 where
  pub long : length moment.releases ≡ length moment.tasks
  pub room : jobs < moment.spare + jobs_released moment
