-- What the wrapping calls give is what the definitions say.
use Rattle.std.proofs.Common.{◌≡◌, ◌≢◌, ℕ, zero, suc, ◌/◌, ◌^◌, ◌≤◌, ◌⊎◌, inl, inr, ⊎_elim, refl, sym, ap, ◌∙◌, arith}
use Rattle.std.specs.Prelude.{true, if◌then◌else◌, ℤ, pos, negsuc, neg_ℤ, ◌-ℤ◌, int_lt, int_div, FitsSigned}
use Rattle.std.specs.Int.{w64, cast_signed, cast_unsigned, int_wrap, int_max, int_min, int_wrapping_div, int_wrapping_neg, int_wrapping_sub}
use Rattle.std.proofs.Math.Nat.{div-le_self}
use Rattle.std.proofs.lemmas.Bool.{cases_lt}
use Rattle.std.proofs.lemmas.Int.{to_z-of_z, int_wrap_fits, wrapping_neg_is, wrapping_sub_is}
use Rattle.yt_graph.specs.declared.expr.Op2.TheVariants.{Div}
use Rattle.yt_graph.specs.Meaning.{is_not_zero, neg_value, two_value, op_value}

-- the size of a number that is taken negative
fits_negated : (n : ℕ) → n ≤ 2 ^ 63 → FitsSigned w64 (neg_ℤ (pos n))
fits_negated zero h = record { sfits = omega arith }
fits_negated (suc n) h = record { sfits = omega arith }

fits_or_top : (n : ℕ) → n ≤ 2 ^ 63 → FitsSigned w64 (pos n) ⊎ (pos n ≡ pos (2 ^ 63))
fits_or_top n h = ⊎_elim (λ l. inl (record { sfits = l })) (λ g. inr (ap pos (omega arith))) (cases_lt n (2 ^ 63))

-- only the least number divided by -1 doesn't fit
quotient_fits : (x y : ℤ) → FitsSigned w64 x → FitsSigned w64 (int_div x y) ⊎ (int_div x y ≡ pos (2 ^ 63))
quotient_fits (pos a) (pos b) f = inl (record { sfits = omega (arith, f.sfits, div-le_self a b) })
quotient_fits (pos a) (negsuc b) f = inl (fits_negated (a / suc b) (omega (arith, f.sfits, div-le_self a (suc b))))
quotient_fits (negsuc a) (pos b) f = inl (fits_negated (suc a / b) (omega (arith, f.sfits, div-le_self (suc a) b)))
quotient_fits (negsuc a) (negsuc b) f = fits_or_top (suc a / suc b) (omega (arith, f.sfits, div-le_self (suc a) (suc b)))

wraps_at_top : cast_signed w64 (cast_unsigned w64 (pos (2 ^ 63))) ≡ int_wrap w64 (pos (2 ^ 63))
unfolding int_wrap
wraps_at_top = refl

-- so cutting a quotient to 64 bits wraps it
cut_is : (z : ℤ) → FitsSigned w64 z ⊎ (z ≡ pos (2 ^ 63)) → cast_signed w64 (cast_unsigned w64 z) ≡ int_wrap w64 z
cut_is z (inl f) = to_z-of_z w64 z f ∙ sym (int_wrap_fits w64 z f)
cut_is z (inr e) = ap (λ v. cast_signed w64 (cast_unsigned w64 v)) e ∙ wraps_at_top ∙ ap (int_wrap w64) (sym e)

pub wrapping_div_is : (x y : ℤ) → FitsSigned w64 x → int_wrapping_div w64 x y ≡ int_wrap w64 (int_div x y)
wrapping_div_is x y f = cut_is (int_div x y) (quotient_fits x y f)

-- what is seen of a number that went through a call
abbrev seen : ℤ → ℤ
seen x = cast_signed w64 (cast_unsigned w64 x)

not_zero : (y : ℤ) → cast_unsigned w64 y ≢ 0 → FitsSigned w64 y → is_not_zero y ≡ true
not_zero (pos zero) h f = absurd (h refl)
not_zero (pos (suc n)) h f = refl
not_zero (negsuc n) h f = refl

-- `wrapping_div` where the right side isn't 0
pub div_is : (x y r : ℤ) → FitsSigned w64 x → FitsSigned w64 y → FitsSigned w64 r → cast_unsigned w64 y ≢ 0 → r ≡ int_wrapping_div w64 (seen x) (seen y) → seen r ≡ two_value Div x y
div_is x y r fx fy fr h e =
    to_z-of_z w64 r fr ∙ e
    ∙ ap (λ v. int_wrapping_div w64 v (seen y)) (to_z-of_z w64 x fx)
    ∙ ap (λ v. int_wrapping_div w64 x v) (to_z-of_z w64 y fy)
    ∙ wrapping_div_is x y fx
    ∙ ap (λ b. if b then int_wrap w64 (int_div x y) else pos 0) (sym (not_zero y h fy))

-- `wrapping_neg`
pub neg_is : (x r : ℤ) → FitsSigned w64 x → FitsSigned w64 r → r ≡ int_wrapping_neg w64 (seen x) → seen r ≡ neg_value x
neg_is x r fx fr e =
    to_z-of_z w64 r fr ∙ e ∙ ap (int_wrapping_neg w64) (to_z-of_z w64 x fx) ∙ wrapping_neg_is w64 x fx

-- the size of a negative number, by `wrapping_neg`
pub size_is : (x y r : ℤ) → FitsSigned w64 x → FitsSigned w64 r → int_lt (seen x) (pos 0) ≡ true → r ≡ int_wrapping_neg w64 (seen x) → seen r ≡ op_value 4 x y
size_is x y r fx fr h e =
    let negative : int_lt x (pos 0) ≡ true = ap (λ v. int_lt v (pos 0)) (sym (to_z-of_z w64 x fx)) ∙ h in
    neg_is x r fx fr e ∙ ap (λ b. if b then neg_value x else x) (sym negative)

-- the gap, by `max`, `min` and `wrapping_sub`
pub gap_is : (x y a b : ℤ) → FitsSigned w64 x → FitsSigned w64 y → FitsSigned w64 a → FitsSigned w64 b → a ≡ int_max (seen x) (seen y) → b ≡ int_min (seen x) (seen y) → int_wrapping_sub w64 a b ≡ op_value 3 x y
gap_is x y a b fx fy fa fb p q =
    wrapping_sub_is w64 a b fa fb
    ∙ ap (λ v. int_wrap w64 (v -ℤ b)) (p ∙ ap (λ v. int_max v (seen y)) (to_z-of_z w64 x fx) ∙ ap (int_max x) (to_z-of_z w64 y fy))
    ∙ ap (λ v. int_wrap w64 (int_max x y -ℤ v)) (q ∙ ap (λ v. int_min v (seen y)) (to_z-of_z w64 x fx) ∙ ap (int_min x) (to_z-of_z w64 y fy))
