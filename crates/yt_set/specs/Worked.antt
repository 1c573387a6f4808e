-- Two sets of which one fits and the other doesn't, by computing.
use Rattle.std.specs.Prelude.{◌≡◌, ℕ, [], ◌∷◌}
use Rattle.yt_set.specs.declared.task.Task.{Task}
use Rattle.yt_set.specs.Tasks.{hyperperiod, load}

-- a task under no resource
abbrev pub free : ℕ → ℕ → Task
free cost period = record { cost = cost; period = period; resource = 0 }

-- 5 ticks of 10, and 10 or 11 of 20
pub record WorkedLoads : Type 0 where
  pub whole : hyperperiod (free 5 10 ∷ free 10 20 ∷ []) ≡ 20
  pub fits : load (free 5 10 ∷ free 10 20 ∷ []) 20 ≡ 20
  pub over : load (free 5 10 ∷ free 11 20 ∷ []) 20 ≡ 21
  pub none : hyperperiod [] ≡ 1
