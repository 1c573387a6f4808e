-- The value of digits behind a number.
use Rattle.std.proofs.Common.{ℕ, ◌≡◌, ◌+◌, ◌-◌, ◌*◌, ◌≤◌, ◌^◌, List, [], ◌∷◌, Option, None, Some, arith}
use Rattle.std.specs.Prelude.{MatchOption, option_and_then}
use Rattle.std.proofs.lemmas.Grind.{common_steps}
use Rattle.yt_base.specs.Digits.{value_after}
use Rattle.yt_base.specs.Inside.NextDigit.{then_byte}

-- more digits make it no less
pub value_after-ge : (n : ℕ) (ds : List ℕ) → n ≤ value_after n ds
value_after-ge n [] = omega arith
value_after-ge n (c ∷ cs) = omega (arith, value_after-ge (10 * n + (c - 48)) cs)

-- the value so far goes on to the total, or the total doesn't fit
abbrev pub GoesOn : Option ℕ → List ℕ → ℕ → Type 0
GoesOn value rest total = MatchOption value (2 ^ 64 ≤ total) (λ v. value_after v rest ≡ total)

pub goes_on : (value : Option ℕ) (b : ℕ) (bs : List ℕ) (total : ℕ) → GoesOn value (b ∷ bs) total → GoesOn (option_and_then (then_byte b) value) bs total
goes_on None b bs total h = h
goes_on (Some v) b bs total h =
    let least : 10 * v + (b - 48) ≤ value_after (10 * v + (b - 48)) bs = value_after-ge (10 * v + (b - 48)) bs in
    grind (arith, common_steps)
