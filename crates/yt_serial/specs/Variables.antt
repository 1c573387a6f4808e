-- The variables at a tick of a run.
use Rattle.std.specs.Prelude.{ℕ, zero, suc, ◌==◌, if◌then◌else◌, ℤ, List, [], ◌∷◌, ◌++◌, Option, Some, None}
use Rattle.yt_graph.specs.declared.handled.Write.{Write}
pub use Rattle.yt_graph.specs.Writes.{after_writes}
use Rattle.yt_log.specs.declared.job.Job.{Job}
use Rattle.yt_log.specs.Plan.{same_job}
use Rattle.yt_log.specs.Ticks.{Ticks, tick, done}
use Rattle.yt_serial.specs.SerialHandling.{Handled}

-- the writes of one tick, by its offset
abbrev pub writes_at : ℕ → List Write → List Write
writes_at n [] = []
writes_at n (w ∷ rest) = if w.offset == n then w ∷ writes_at n rest else writes_at n rest

-- the writes of a job that was handled
unfoldable pub writes_of : List Handled → Job → List Write
writes_of [] job = []
writes_of (h ∷ handled) job = if same_job h.item.job job then h.writes else writes_of handled job

-- the writes of a tick that went to a job
unfoldable pub writes_in : List Handled → Ticks → ℕ → Option Job → List Write
writes_in handled log t None = []
writes_in handled log t (Some job) = writes_at (done log job t) (writes_of handled job)

-- the writes that are made in ticks below t, in order of ticks
unfoldable pub writes_below : List Handled → Ticks → ℕ → List Write
writes_below handled log zero = []
writes_below handled log (suc t) = writes_below handled log t ++ writes_in handled log t (tick log t)

-- the variables at a tick of a run, where `vars` are the starting ones and `handled` is what serial handling along the log handled: those at the
-- start after all writes that are made in ticks below it
abbrev pub variables_at : List ℤ → List Handled → Ticks → ℕ → List ℤ
variables_at vars handled log t = after_writes (writes_below handled log t) vars
