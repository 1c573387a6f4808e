-- What the fields of a message's line say, as they are read.
use Rattle.std.specs.Prelude.{ℕ, ◌-◌, ◌^◌, min, ℤ, List, ◌∷◌, ◌++◌, if◌then◌else◌, Option, None, Some}
use Rattle.yt_base.specs.Digits.{is_digits, value_of}
use Rattle.yt_trace.specs.declared.message_line.MessageLine.{MessageLine}

-- the value of digits, and 2 ^ 64 - 1 for each greater one
abbrev pub capped : List ℕ → ℕ
capped text = min (value_of text) (2 ^ 64 - 1)

-- the time and the name of a line, and the fields of its values
pub record LineHead : Type 0 where
  pub time : ℕ
  pub input : List ℕ
  pub values : List (List ℕ)

abbrev pub line_head : List (List ℕ) → Option LineHead
line_head (time ∷ input ∷ values) = if is_digits time then Some (record { time = capped time; input = input; values = values }) else None
line_head _ = None

-- what a line was read as
abbrev pub head_of : MessageLine → LineHead
head_of line = record { time = line.time; input = line.input.now; values = line.values }

-- numbers behind others, where they are there
abbrev pub values_after : List ℤ → Option (List ℤ) → Option (List ℤ)
values_after values None = None
values_after values (Some more) = Some (values ++ more)
