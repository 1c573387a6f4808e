use Rattle.std.proofs.Common.{◌≡◌, ◌≤◌, ◌^◌, drop}
use Rattle.std.specs.Str.{all_ascii_digits}
use Rattle.std.specs.Prelude.{MatchOption}
use Rattle.yt_base.specs.Digits.{value_of, value_after}
use Rattle.yt_base.proofs.numbers.digits.Given as goal

-- what is left decides, and it goes on from the value so far where that fits
abbrev pub invariant-loop-b : goal.invariant-loop-b
invariant-loop-b l = (all_ascii_digits (drop l.b-index l.text) ≡ all_ascii_digits l.text)
    × MatchOption l.value (2 ^ 64 ≤ value_of l.text) (λ v. value_after v (drop l.b-index l.text) ≡ value_of l.text)
