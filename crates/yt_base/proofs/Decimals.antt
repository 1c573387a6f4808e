-- A number's own decimal text, read back, and the bytes that it has.
use Rattle.std.proofs.Common.{ℕ, ◌≡◌, ◌<◌, ◌≤◌, ◌^◌, List, [], ◌∷◌, length, Bool, true, Some, ℤ, pos, negsuc, suc, refl, arith, rules}
use Rattle.std.specs.Str.{all_ascii_digits}
use Rattle.std.specs.Fmt.{decimal, signed_decimal}
use Rattle.std.specs.List.{list_all}
use Rattle.std.proofs.lemmas.Grind.{common_steps}
use Rattle.std.proofs.lemmas.Str.Parse.{IsNumeralModel, numerals_by_fold, tells_all_ascii_digits}
use Rattle.std.proofs.lemmas.Fmt.{decimal_is_IsNumeral_wide, digits_decimal, digits_value-decimal, decimal_nonempty}
use Rattle.std.specs.Int.Signed.{mag}
use Rattle.yt_base.specs.Digits.{value_after, value_of, is_digits, digits_of_text, signed_of_text}
use Rattle.yt_base.proofs.Stays.{stays_in_field, stays_in_line, stays_in_part}
use Rattle.yt_base.specs.declared.numbers.Decimal.TheVariants.{Value}

own : IsNumeralModel (λ ds. all_ascii_digits ds ≡ true) (value_after 0)
own = numerals_by_fold _ (search rules) value_after (search rules)

-- the digits of a number have its value
pub value_of-decimal : (n : ℕ) → n < 2 ^ 64 → value_of (decimal n) ≡ n
value_of-decimal n fits = digits_value-decimal own n fits

-- they are digits, one at least
pub is_digits-decimal : (n : ℕ) → n < 2 ^ 64 → is_digits (decimal n) ≡ true
is_digits-decimal n fits =
    let all : all_ascii_digits (decimal n) ≡ true = digits_decimal own n fits in
    let some : 0 < length (decimal n) = decimal_nonempty n fits in
    grind (arith, common_steps)

-- so a reader of digits gives the number back
pub digits_of_text-decimal : (n : ℕ) → n < 2 ^ 64 → digits_of_text (decimal n) ≡ Value n
digits_of_text-decimal n fits =
    let all : is_digits (decimal n) ≡ true = is_digits-decimal n fits in
    let same : value_of (decimal n) ≡ n = value_of-decimal n fits in
    grind (arith, common_steps)

-- digits without a sign are a number from 0 on
signed_of_digits : (ds : List ℕ) → is_digits ds ≡ true → value_of ds < 2 ^ 63 → signed_of_text ds ≡ Some (pos (value_of ds))
signed_of_digits [] all fits = grind arith
signed_of_digits (c ∷ cs) all fits = grind (arith, common_steps)

-- and so with a sign
pub signed_of_text-decimal : (z : ℤ) → mag z < 2 ^ 63 → signed_of_text (signed_decimal z) ≡ Some z
signed_of_text-decimal (pos n) fits =
    let all : is_digits (decimal n) ≡ true = is_digits-decimal n (omega arith) in
    let same : value_of (decimal n) ≡ n = value_of-decimal n (omega arith) in
    rw same at (signed_of_digits (decimal n) all (omega arith))
signed_of_text-decimal (negsuc n) fits =
    let all : is_digits (decimal (suc n)) ≡ true = is_digits-decimal (suc n) (omega arith) in
    let same : value_of (decimal (suc n)) ≡ suc n = value_of-decimal (suc n) (omega arith) in
    grind (arith, common_steps)

-- digits pass each test that every digit passes
pass_digits : (p : ℕ → Bool) (each : (b : ℕ) → 48 ≤ b → b ≤ 57 → p b ≡ true) → (ds : List ℕ) → all_ascii_digits ds ≡ true → list_all p ds ≡ true
pass_digits p each [] all = refl
pass_digits p each (d ∷ ds) all =
    let parts = tells_all_ascii_digits.parts d ds all in
    let here : p d ≡ true = each d parts.0.0 parts.0.1 in
    let more : list_all p ds ≡ true = pass_digits p each ds parts.1 in
    grind arith

-- the digits of a number pass each test that every digit passes
pub decimal_passes : (p : ℕ → Bool) (each : (b : ℕ) → 48 ≤ b → b ≤ 57 → p b ≡ true) → (n : ℕ) → n < 10 ^ 64 → list_all p (decimal n) ≡ true
decimal_passes p each n fits =
    let numeral = decimal_is_IsNumeral_wide n fits in
    pass_digits p each (decimal n) (own.from (decimal n) numeral.0.1)

-- and so with a sign where the minus passes it too
pub signed_decimal_passes : (p : ℕ → Bool) (minus : p 45 ≡ true) (each : (b : ℕ) → 48 ≤ b → b ≤ 57 → p b ≡ true) → (z : ℤ) → mag z < 2 ^ 63 → list_all p (signed_decimal z) ≡ true
signed_decimal_passes p minus each (pos n) fits = decimal_passes p each n (omega arith)
signed_decimal_passes p minus each (negsuc n) fits =
    let more : list_all p (decimal (suc n)) ≡ true = decimal_passes p each (suc n) (omega arith) in
    grind arith

-- no digit ends a field or a line, and none is a dot
pub decimal-stays_in_field : (n : ℕ) → n < 10 ^ 64 → list_all stays_in_field (decimal n) ≡ true
decimal-stays_in_field n fits = decimal_passes stays_in_field (λ b low high. grind (arith, common_steps)) n fits

pub decimal-stays_in_line : (n : ℕ) → n < 10 ^ 64 → list_all stays_in_line (decimal n) ≡ true
decimal-stays_in_line n fits = decimal_passes stays_in_line (λ b low high. grind (arith, common_steps)) n fits

pub decimal-stays_in_part : (n : ℕ) → n < 10 ^ 64 → list_all stays_in_part (decimal n) ≡ true
decimal-stays_in_part n fits = decimal_passes stays_in_part (λ b low high. grind (arith, common_steps)) n fits

-- and no minus does or is
pub signed_decimal-stays_in_field : (z : ℤ) → mag z < 2 ^ 63 → list_all stays_in_field (signed_decimal z) ≡ true
signed_decimal-stays_in_field z fits = signed_decimal_passes stays_in_field refl (λ b low high. grind (arith, common_steps)) z fits

pub signed_decimal-stays_in_line : (z : ℤ) → mag z < 2 ^ 63 → list_all stays_in_line (signed_decimal z) ≡ true
signed_decimal-stays_in_line z fits = signed_decimal_passes stays_in_line refl (λ b low high. grind (arith, common_steps)) z fits

-- a number is written by one byte at least
pub signed_decimal_nonempty : (z : ℤ) → mag z < 2 ^ 63 → 0 < length (signed_decimal z)
signed_decimal_nonempty (pos n) fits = decimal_nonempty n (omega arith)
signed_decimal_nonempty (negsuc n) fits = omega arith
