-- What words count.
use Rattle.std.proofs.Common.{ℕ, ◌≡◌, ◌<◌, ◌≤◌, ◌^◌, List, length, Bool, true, false, refl, arith, rules}
use Rattle.std.specs.Prelude.{if◌then◌else◌, nat_lt}
use Rattle.std.specs.Str.{all_ascii_digits}
use Rattle.std.proofs.lemmas.Grind.{common_steps}
use Rattle.std.proofs.lemmas.Str.Parse.{IsNumeralModel, digits_value_short, numerals_by_fold}
use Rattle.yt_base.specs.declared.numbers.Decimal.{Decimal}
use Rattle.yt_base.specs.declared.numbers.Decimal.TheVariants.{Other, Over, Value}
use Rattle.yt_base.specs.Digits.{digits_of_text, is_digits, value_after, value_of}

own : IsNumeralModel (λ ds. all_ascii_digits ds ≡ true) (value_after 0)
own = numerals_by_fold _ (search rules) value_after (search rules)

at_value : (word : List ℕ) (n : ℕ) (all fits : Bool) → (all ≡ true → value_of word < 10 ^ 8) →
    ◌≡◌ {A = Decimal} (Value n) (if all then (if fits then Value (value_of word) else Over) else Other) → n < 2 ^ 32
at_value word n true true small is = let e : n ≡ value_of word = cc in let less = small refl in rw e (omega arith)
at_value word n true false small is = cc
at_value word n false fits small is = cc

-- eight digits count less than 2^32
pub count_small : (word : List ℕ) (n : ℕ) → length word ≤ 8 → Value n ≡ digits_of_text word → n < 2 ^ 32
count_small word n short is =
    at_value word n (is_digits word) (nat_lt (value_of word) (2 ^ 64)) (λ all. let digits : all_ascii_digits word ≡ true = grind (arith, common_steps) in digits_value_short own word 8 digits short) is
