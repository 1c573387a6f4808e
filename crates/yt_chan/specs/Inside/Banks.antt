-- What one job sent on a wire, as a bank keeps it.
use Rattle.std.specs.Prelude.{ℕ, ℤ, List, []}
use Rattle.yt_chan.specs.Pending.{Pending, with_ticks}

-- messages, and room for so many in all; once their job is closed, its number and the tick at which the first is due
pub record Batch : Type 0 where
  pub messages : List (List ℤ)
  pub room : ℕ
  pub number : ℕ
  pub base : ℕ

-- what stands for the bank of a wire that isn't there
abbrev pub no_batch : Batch
no_batch = record { messages = []; room = 0; number = 0; base = 0 }

-- the messages, each with its tick
abbrev pub due_messages : ℕ → Batch → List Pending
due_messages gap batch = with_ticks batch.number batch.base gap batch.messages
