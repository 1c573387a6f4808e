-- What the handlers of jobs do in the ticks that they are given.
use Rattle.std.specs.Prelude.{◌≡◌, ◌≢◌, ℕ, ◌+◌, ◌<◌, ◌≤◌, Bool, true, false, List, length}
use Rattle.yt_set.specs.declared.task.Task.{Task}
use Rattle.yt_log.specs.declared.job.Job.{Job}
use Rattle.yt_log.specs.Tasks.{task_of}

-- the task of a job is in the set
abbrev pub IsKnown : List Task → Job → Type 0
IsKnown tasks job = (1 ≤ job.task) × (job.task ≤ length tasks)

-- a job's task
abbrev pub task_in : List Task → Job → Task
task_in tasks job = task_of tasks job.task

-- no job with ticks left is under the resource that a job is under, where it is under one
abbrev pub IsFree : List Task → (Job → ℕ) → Job → Type 0
IsFree tasks left job =
    0 < (task_in tasks job).resource → (other : Job) → 0 < left other → (task_in tasks other).resource ≢ (task_in tasks job).resource

-- of each other job as many ticks are left
abbrev pub KeepsOthers : (Job → ℕ) → (Job → ℕ) → Job → Type 0
KeepsOthers old new job = (other : Job) → other ≢ job → new other ≡ old other

-- each other job that could begin still may
abbrev pub MayStillBegin : (Job → Type 0) → (Job → Type 0) → Job → Type 0
MayStillBegin old new job = (other : Job) → other ≢ job → old other → new other

-- a job begins: it has ticks left, no more than its task costs
pub record Begins (tasks : List Task) (old new : Job → ℕ) (job : Job) : Type 0 where
  pub some : 1 ≤ new job
  pub most : new job ≤ (task_in tasks job).cost
  pub others : KeepsOthers old new job

-- a job is given a tick
pub record Steps (old new : Job → ℕ) (job : Job) : Type 0 where
  pub less : old job ≡ new job + 1
  pub others : KeepsOthers old new job

-- what a tick of a job leaves of a body: what `step` leaves, of what `begin` leaves where the job had not begun
abbrev pub Runs : {X : Type 0} → (X → Job → X → Type 0) → (X → Job → X → Type 0) → Bool → Job → X → X → Type 0
Runs {X = X} begins steps true job old new = steps old job new
Runs {X = X} begins steps false job old new = (mid : X) × begins old job mid × steps mid job new

-- a job is given a tick, its first where it had not begun
pub record GivesTick (tasks : List Task) (begun : Bool) (old new : Job → ℕ) (job : Job) : Type 0 where
  pub less : begun ≡ true → old job ≡ new job + 1
  pub most : begun ≡ false → new job + 1 ≤ (task_in tasks job).cost
  pub others : KeepsOthers old new job
