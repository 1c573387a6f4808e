-- A value that takes one more digit.
use Rattle.std.specs.Prelude.{ℕ, ◌+◌, ◌-◌, ◌*◌, ◌^◌, nat_lt, if◌then◌else◌, Option, None, Some}

-- the value with one more digit, where it fits
abbrev pub then_byte : ℕ → ℕ → Option ℕ
then_byte b v = if nat_lt (10 * v + (b - 48)) (2 ^ 64) then Some (10 * v + (b - 48)) else None
