-- Which chains of sources come back.
use Rattle.std.specs.Prelude.{◌≡◌, ℕ, true, List, Option}
use Rattle.yt_name_faults.specs.Paths.{comes_back, LeadsIntoCycle}

-- a chain comes back exactly where it reaches a port that was in it before
abbrev pub CyclesAreTold : Type 0
CyclesAreTold = (before : List (Option ℕ)) (port : ℕ) → (comes_back before port ≡ true → LeadsIntoCycle before port) × (LeadsIntoCycle before port → comes_back before port ≡ true)
