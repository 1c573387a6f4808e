-- The pipelines of what is made, numbered from 1: each is fed by an input of its own.
use Rattle.std.specs.Prelude.{ℕ, ◌*◌, ◌^◌, ◌%◌, List}
use Rattle.std.specs.List.{range_with_len}

-- the numbers of so many pipelines
abbrev pub pipelines : ℕ → List ℕ
pipelines count = range_with_len 1 count

-- the period of a pipeline's input
abbrev pub period_of : ℕ → ℕ
period_of i = 2000 * 2 ^ (i % 3)
