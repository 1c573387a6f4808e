-- The jobs of a log: in which order they begin, and when the last one ends.
use Rattle.std.specs.Prelude.{ℕ, zero, suc, ◌==◌, List, [], ◌∷◌, ◌++◌, Option, Some, None, is_some, length, if◌then◌else◌}
use Rattle.yt_log.specs.declared.job.Job.{Job}
use Rattle.yt_log.specs.Ticks.{Ticks, tick, done}

-- the job of a task, by its number
abbrev pub nth_job : ℕ → ℕ → Job
nth_job task number = record { task = task; number = number }

-- the job that begins in a tick, where one does
unfoldable pub newcomer : Ticks → ℕ → Option Job → List Job
newcomer log t None = []
newcomer log t (Some job) = if done log job t == 0 then job ∷ [] else []

-- the jobs that began below t, in order of their first ticks
unfoldable pub begun_below : Ticks → ℕ → List Job
begun_below log zero = []
begun_below log (suc t) = begun_below log t ++ newcomer log t (tick log t)

-- the jobs of a log in order of beginning
abbrev pub order_of : Ticks → List Job
order_of log = begun_below log (length log)

-- the end of the last tick below t that went to a job, 0 where none did
unfoldable pub busy_until : Ticks → ℕ → ℕ
busy_until log zero = 0
busy_until log (suc t) = if is_some (tick log t) then suc t else busy_until log t
