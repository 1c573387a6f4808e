-- The order of entries, and the least of them.
use Rattle.std.specs.Prelude.{ℕ, Bool, List, [], ◌∷◌, if◌then◌else◌}
use Rattle.yt_order.specs.Words.{precedes}
use Rattle.yt_order.specs.Falling.{IsFallingBy, IsLeastBy}
use Rattle.yt_ready.specs.declared.entry.Entry.{Entry}

-- what an entry is ordered by, first to last: the deadline; begun before not begun; the arrival; the task; the number
unfoldable pub rank : Entry → List ℕ
rank e = e.deadline ∷ (if e.begun then 0 else 1) ∷ e.arrival ∷ e.task ∷ e.number ∷ []

-- an entry comes before another
abbrev pub comes_before : Entry → Entry → Bool
comes_before a b = precedes (rank a) (rank b)

-- an entry of the list that none of the list comes before
abbrev pub IsLeast : List Entry → Entry → Type 0
IsLeast entries least = IsLeastBy comes_before entries least

-- each entry comes before those in front of it
abbrev pub IsFalling : List Entry → Type 0
IsFalling entries = IsFallingBy comes_before entries
