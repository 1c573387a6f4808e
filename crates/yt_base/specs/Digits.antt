-- Numbers in decimal digits.
use Rattle.std.specs.Prelude.{ℕ, ◌+◌, ◌-◌, ◌*◌, ◌^◌, List, [], ◌∷◌, length, Bool, ◌&&◌, ◌==◌, nat_lt, nat_le, if◌then◌else◌, Option, None, Some, ℤ, pos, neg_ℤ}
use Rattle.std.specs.Str.{all_ascii_digits}
use Rattle.yt_base.specs.declared.numbers.Decimal.{Decimal}
use Rattle.yt_base.specs.declared.numbers.Decimal.TheVariants.{Other, Over, Value}

-- the value of digits behind a number
abbrev pub value_after : ℕ → List ℕ → ℕ
value_after n [] = n
value_after n (c ∷ cs) = value_after (10 * n + (c - 48)) cs

-- the value of digits
abbrev pub value_of : List ℕ → ℕ
value_of ds = value_after 0 ds

-- a text of one digit or more
abbrev pub is_digits : List ℕ → Bool
is_digits ds = nat_lt 0 (length ds) && all_ascii_digits ds

abbrev pub digits_of_text : List ℕ → Decimal
digits_of_text ds = if is_digits ds then (if nat_lt (value_of ds) (2 ^ 64) then Value (value_of ds) else Over) else Other

-- an optional minus and digits, of a value that fits 64 bits with a sign
abbrev pub signed_of_text : List ℕ → Option ℤ
signed_of_text [] = None
signed_of_text (c ∷ cs) = if c == 45 then negative cs else positive (c ∷ cs)
  where
    negative : List ℕ → Option ℤ
    negative ds = if is_digits ds && nat_le (value_of ds) (2 ^ 63) then Some (neg_ℤ (pos (value_of ds))) else None

    positive : List ℕ → Option ℤ
    positive ds = if is_digits ds && nat_lt (value_of ds) (2 ^ 63) then Some (pos (value_of ds)) else None
