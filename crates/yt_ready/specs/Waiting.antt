-- What a list of waiting jobs holds.
use Rattle.std.specs.Prelude.{ℕ, List}
use Rattle.yt_ready.specs.declared.entry.Entry.{Entry}

-- the entries that wait, in an order that is not said, and how many more there is room for
pub record Waiting : Type 0 where
  pub entries : List Entry
  pub spare : ℕ
