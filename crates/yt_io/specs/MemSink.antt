-- A sink in memory as its callers see it.
use Rattle.std.specs.Prelude.{ℕ, ◌-◌, min, List, [], ◌∷◌, ◌++◌, length, take, Bool, ◌||◌, Option, Some, None, Result, Ok, Err, if◌then◌else◌, nat_eq, nat_lt, is_some, unwrap_or}
use Rattle.yt_io.specs.declared.sink.SinkFault.{SinkFault}
use Rattle.yt_io.specs.declared.sink.SinkFault.TheVariants.{Failed}
use Rattle.yt_io.specs.Faults.{next}

-- its bytes, how many it has room for, which of its writes fail and what each of them keeps, how many writes it
-- had, and how many failed
pub record Sunk : Type 0 where
  pub bytes : List ℕ
  pub room : ℕ
  pub fails : List (ℕ × ℕ)
  pub writes : ℕ
  pub faults : ℕ

-- how many bytes this write keeps, where it is one of those that fail
abbrev pub kept_of : List (ℕ × ℕ) → ℕ → Option ℕ
kept_of [] write = None
kept_of (fail ∷ fails) write = if nat_eq fail.0 write then Some fail.1 else kept_of fails write

-- how many of these bytes fit
abbrev pub fitting : Sunk → List ℕ → ℕ
fitting s bytes = min (length bytes) (s.room - length s.bytes)

-- how many of these bytes are kept
abbrev pub kept_count : Sunk → List ℕ → ℕ
kept_count s bytes = min (fitting s bytes) (unwrap_or (kept_of s.fails (next s.writes)) (fitting s bytes))

-- this write fails
abbrev pub is_failing : Sunk → List ℕ → Bool
is_failing s bytes = is_some (kept_of s.fails (next s.writes)) || nat_lt (fitting s bytes) (length bytes)

-- the answer of a write
abbrev pub answer_of : Sunk → List ℕ → Result (Unit {0}) SinkFault
answer_of s bytes = if is_failing s bytes then Err Failed else Ok tt

-- the sink after a write
abbrev pub after_write : Sunk → List ℕ → Sunk
after_write s bytes = record {
  bytes = s.bytes ++ take (kept_count s bytes) bytes;
  room = s.room;
  fails = s.fails;
  writes = next s.writes;
  faults = if is_failing s bytes then next s.faults else s.faults;
}
