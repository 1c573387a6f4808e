-- Messages that wait for their tick.
use Rattle.std.specs.Prelude.{ℕ, ℤ, List}
use Rattle.yt_order.specs.Gaps.{at_gaps}

-- a message that waits: the tick at which it is due, the number of the job that sent it, and its numbers
pub record Pending : Type 0 where
  pub time : ℕ
  pub number : ℕ
  pub values : List ℤ

-- a message of a job of a number that is due at a tick
abbrev pub pending : ℕ → ℕ → List ℤ → Pending
pending number time values = record { time = time; number = number; values = values }

-- the messages of a job of a number: the first is due at a tick, each later one a gap after the one before
abbrev pub with_ticks : ℕ → ℕ → ℕ → List (List ℤ) → List Pending
with_ticks number time gap messages = at_gaps (pending number) time gap messages
