-- An executive at a moment: what it knows, and what stays true of it.
use Rattle.std.specs.Prelude.{◌≡◌, ℕ, ◌+◌, ◌<◌, ◌≤◌, ◌^◌, true, false, List, [], length, Some, replicate, if◌then◌else◌}
use Rattle.std.specs.List.{Contains}
use Rattle.yt_list.specs.Numbered.{numbered_or}
use Rattle.yt_set.specs.declared.task.Task.{Task}
use Rattle.yt_set.specs.Tasks.{IsTaskSet, floor_of, within}
use Rattle.yt_log.specs.declared.job.Job.{Job}
use Rattle.yt_log.specs.Tasks.{task_of}
use Rattle.yt_log.specs.EdfDdm.{lowered}
use Rattle.yt_ready.specs.declared.entry.Entry.{Entry}
use Rattle.yt_log.specs.declared.last_jobs.LastJob.{LastJob}
use Rattle.yt_exec.specs.Bodies.{IsKnown, task_in}

-- the set; the waiting jobs, and how many more there is room for; the tick that comes next; and the last release of each task, of which the number is 0 where there was none
pub record Moment : Type 0 where
  pub tasks : List Task
  pub entries : List Entry
  pub spare : ℕ
  pub clock : ℕ
  pub releases : List LastJob

-- what stands for the last release of a task that had none
abbrev pub no_release : LastJob
no_release = record { number = 0; arrival = 0 }

-- the last release of a task
abbrev pub release_of : List LastJob → ℕ → LastJob
release_of releases task = numbered_or releases task no_release

-- an executive of a set, with room for so many jobs, before anything happened
abbrev pub start : List Task → ℕ → Moment
start tasks room = record { tasks = tasks; entries = []; spare = room; clock = 0; releases = replicate (length tasks) no_release }

-- an executive at another tick
abbrev pub at_tick : ℕ → Moment → Moment
at_tick tick moment = record moment { clock = tick }

-- an entry's job
abbrev pub job_in : Entry → Job
job_in entry = record { task = entry.task; number = entry.number }

-- the resource that an entry's job is under
abbrev pub resource_in : List Task → Entry → ℕ
resource_in tasks entry = (task_of tasks entry.task).resource

-- a job may be its task's next: it has the next number, and the last one was released a period ago or more
pub record IsNextJob (moment : Moment) (job : Job) : Type 0 where
  pub number : job.number ≡ (release_of moment.releases job.task).number + 1
  pub apart : 0 < (release_of moment.releases job.task).number → (release_of moment.releases job.task).arrival + (task_in moment.tasks job).period ≤ moment.clock

-- the entry of a job that is released at a tick
abbrev pub released : List Task → ℕ → Job → Entry
released tasks now job =
    record { deadline = now + within (task_in tasks job); begun = false; arrival = now; task = job.task; number = job.number }

-- an entry after its job was given tick t: where it began there, its deadline is lowered by the deadline floor of its resource
abbrev pub after_tick : List Task → ℕ → Entry → Entry
after_tick tasks t entry =
    record entry { deadline = if entry.begun then entry.deadline else lowered entry.deadline t (floor_of tasks (resource_in tasks entry)); begun = true }

-- what stays true of an executive: each job is known and was released; no two entries are of one job; a begun job comes before those that wait for its resource, since its deadline is no later than theirs, nor than the deadline floor from now on
pub record IsSound (tasks : List Task) (entries : List Entry) (now : ℕ) (releases : List LastJob) : Type 0 where
  pub set : IsTaskSet tasks
  pub long : length releases ≡ length tasks
  pub clock : now ≤ 2 ^ 63
  pub known : (entry : Entry) → Contains entries entry → IsKnown tasks (job_in entry)
  pub released : (entry : Entry) → Contains entries entry → entry.number ≤ (release_of releases entry.task).number
  pub past : (task : ℕ) → (release_of releases task).arrival ≤ now
  pub one : (a b : Entry) → Contains entries a → Contains entries b → job_in a ≡ job_in b → a ≡ b
  pub held : (a b : Entry) → Contains entries a → Contains entries b → a.begun ≡ true → b.begun ≡ false → 0 < resource_in tasks a → resource_in tasks a ≡ resource_in tasks b → a.deadline ≤ b.deadline
  pub near : (a : Entry) → Contains entries a → a.begun ≡ true → (floor : ℕ) → floor_of tasks (resource_in tasks a) ≡ Some floor → a.deadline ≤ now + floor
