-- The limit of a table.
use Rattle.std.specs.Prelude.{ℕ}
use Rattle.yt_ops.specs.declared.limits.TheConstants.{MOST_OPS}

-- how many operators a table has at most
abbrev pub most_ops : ℕ
most_ops = MOST_OPS
