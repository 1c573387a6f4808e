-- The limits of task sets.
use Rattle.std.specs.Prelude.{ℕ}

-- how many tasks a set has at most
abbrev pub most_tasks : ℕ
most_tasks = 64

-- the greatest cost and the greatest period of a task, in ticks
abbrev pub most_ticks : ℕ
most_ticks = 1000000

-- how many bytes the name of a task or of a resource has at most
abbrev pub most_name_bytes : ℕ
most_name_bytes = 65
