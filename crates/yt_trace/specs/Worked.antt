-- Worked texts of traces, of a graph with two inputs.
use Rattle.std.specs.Prelude.{◌≡◌, ℕ, [], ◌∷◌, pos, neg_ℤ, codes, Ok, Err, ℤ}
use Rattle.yt_graph.specs.Picture.{GraphTree}
use Rattle.yt_trace.specs.declared.message.Message.{Message}
use Rattle.yt_trace.specs.declared.message_fault.MessageFault.TheVariants.{Form, Unknown, Width, Late, Order, Soon}
use Rattle.yt_trace.specs.TraceText.{trace_of}

-- a graph whose inputs are `tick`, of one number each 10 ticks, and `tock`, of none each 4
abbrev clock : GraphTree
clock = record {
  inputs = record { name = codes "tick"; width = 1; period = 10 } ∷ record { name = codes "tock"; width = 0; period = 4 } ∷ [];
  outputs = [];
  groups = [];
  vars = [];
  ports = [];
}

abbrev tick : ℕ → ℤ → Message
tick time value = record { time = time; input = 1; values = value ∷ [] }

abbrev tock : ℕ → Message
tock time = record { time = time; input = 2; values = [] }

-- no messages; one; two a period apart; and lines that are skipped, blanks, carriage returns, leading zeros and a last line without a line feed
pub record WorkedTraces : Type 0 where
  pub none : trace_of clock [] ≡ Ok []
  pub one : trace_of clock (codes "0 tick 7\n") ≡ Ok (tick 0 (pos 7) ∷ [])
  pub apart : trace_of clock (codes "0 tick 7\n10 tick -8") ≡ Ok (tick 0 (pos 7) ∷ tick 10 (neg_ℤ (pos 8)) ∷ [])
  pub both : trace_of clock (codes "3 tick 007\n3 tock\n7 tock\n") ≡ Ok (tick 3 (pos 7) ∷ tock 3 ∷ tock 7 ∷ [])
  pub skipped : trace_of clock (codes "# x\n\n\t 4 tock \r\n") ≡ Ok (tock 4 ∷ [])

-- each fault of a line; `soon` goes by the input's own last message, and `order` by the line before
pub record WorkedFaults : Type 0 where
  pub form : trace_of clock (codes "x tick 7") ≡ Err (1, Form)
  pub short : trace_of clock (codes "\n0") ≡ Err (2, Form)
  pub no_number : trace_of clock (codes "0 tock 7x") ≡ Err (1, Form)
  pub unknown : trace_of clock (codes "0 tuck 7") ≡ Err (1, Unknown)
  pub width : trace_of clock (codes "0 tick") ≡ Err (1, Width)
  pub wide : trace_of clock (codes "0 tock 7") ≡ Err (1, Width)
  pub late : trace_of clock (codes "4000001 tick 7") ≡ Err (1, Late)
  pub order : trace_of clock (codes "5 tick 7\n4 tick 7") ≡ Err (2, Order)
  pub other : trace_of clock (codes "5 tick 7\n# x\n4 tock") ≡ Err (3, Order)
  pub soon : trace_of clock (codes "0 tick 7\n9 tick 8") ≡ Err (2, Soon 10)
  pub its_own : trace_of clock (codes "0 tick 7\n8 tock\n9 tick 8") ≡ Err (3, Soon 10)
