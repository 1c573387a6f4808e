-- The least common multiple, of two numbers and of periods.
use Rattle.std.proofs.Common.{◌≡◌, ℕ, zero, suc, ◌+◌, ◌*◌, ◌/◌, ◌%◌, ◌<◌, ◌≤◌, eqb, sym, ap, subst, ◌∙◌, ⊎_elim, arith, eq-eqb, ne_eqb}
use Rattle.std.proofs.lemmas.Bool.{cases_eq, cond-true, cond-false}
use Rattle.std.proofs.lemmas.Nat.Gcd.{IsGcd-from_zero, IsGcd-from_mod, same_from_IsGcd}
use Rattle.std.proofs.Math.Nat.{div-mul_cancel, dvd-mul_left, dvd-mul_right, dvd-add_iff_right, dvd-mul_left_of_dvd, mul-dvd-mul_left, dvd_of_mul-dvd-mul_right}
use Rattle.std.specs.Int.{IsGcd, ◌∣◌}
use Rattle.yt_set.specs.Tasks.{gcd_by, lcm}

-- Euclid's steps find the greatest common divisor, where there are enough of them
pub gcd_is : (steps a b : ℕ) → b < steps → IsGcd a b (gcd_by steps a b)
unfolding gcd_by
gcd_is zero a b h = absurd (omega arith)
gcd_is (suc steps) a b h =
    let P : ℕ → Type 0 = λ g. IsGcd a b g in
    ⊎_elim
    (λ (e : b ≡ 0). subst P (sym (cond-true (eqb b 0) a (gcd_by steps b (a % b)) (eq-eqb b 0 e))) (IsGcd-from_zero a b e))
    (λ (ne : b ≡ 0 → ⊥).
    let pos : 0 < b = omega arith in
    let less : a % b < steps = omega arith in
    subst P (sym (cond-false (eqb b 0) a (gcd_by steps b (a % b)) (ne_eqb b 0 ne))) (IsGcd-from_mod a b (gcd_by steps b (a % b)) (gcd_is steps b (a % b) less)))
    (cases_eq b 0)

pub pos_left : (m n : ℕ) → 1 ≤ m * n → 1 ≤ m
pos_left zero n h = absurd (omega arith)
pos_left (suc m) n h = omega arith

pub pos_both : (m n : ℕ) → 1 ≤ m → 1 ≤ n → 1 ≤ m * n
pos_both (suc m) (suc n) h k = omega arith
pos_both zero n h k = absurd (omega arith)
pos_both (suc m) zero h k = absurd (omega arith)

-- what divides a and b, both times k, divides their greatest common divisor times k
pub divides_scaled : (steps a b d k : ℕ) → b < steps → d ∣ a * k → d ∣ b * k → d ∣ gcd_by steps a b * k
unfolding gcd_by
divides_scaled zero a b d k h da db = absurd (omega arith)
divides_scaled (suc steps) a b d k h da db =
    let P : ℕ → Type 0 = λ g. d ∣ g * k in
    ⊎_elim
    (λ (e : b ≡ 0). subst P (sym (cond-true (eqb b 0) a (gcd_by steps b (a % b)) (eq-eqb b 0 e))) da)
    (λ (ne : b ≡ 0 → ⊥).
    let pos : 0 < b = omega arith in
    let less : a % b < steps = omega arith in
    let parts : b * (a / b) + a % b ≡ a = omega arith in
    let split : a * k ≡ a / b * (b * k) + a % b * k = ap (λ n. n * k) (sym parts) ∙ spread b (a / b) (a % b) k in
    let sum : d ∣ a / b * (b * k) + a % b * k = subst (λ n. d ∣ n) split da in
    let rest : d ∣ a % b * k = (dvd-add_iff_right d (dvd-mul_left_of_dvd d db (a / b))).1 sum in
    subst P (sym (cond-false (eqb b 0) a (gcd_by steps b (a % b)) (ne_eqb b 0 ne))) (divides_scaled steps b (a % b) d k less db rest))
    (cases_eq b 0)
  where
    spread : (b q r k : ℕ) → (b * q + r) * k ≡ q * (b * k) + r * k
    spread b q r k = omega arith

-- a common multiple above 0 that divides each other one
pub record IsLcm (a b m : ℕ) : Type 0 where
  pub first : a ∣ m
  pub second : b ∣ m
  pub some : 1 ≤ m
  pub least : (n : ℕ) → a ∣ n → b ∣ n → m ∣ n

pub lcm_is : (a b : ℕ) → 1 ≤ a → 1 ≤ b → IsLcm a b (lcm a b)
unfolding lcm
lcm_is a b ha hb =
    let g = gcd_by (suc b) a b in
    let is = gcd_is (suc b) a b (omega arith) in
    let ea : a / g * g ≡ a = div-mul_cancel g is.0 in
    let eb : b / g * g ≡ b = div-mul_cancel g is.1 in
    let pos : 1 ≤ a / g = pos_left (a / g) g (omega arith) in
    let gpos : 0 < g = pos_left g (a / g) (omega arith) in
    let turned : a * (b / g) ≡ a / g * b = ap (λ (m : ℕ). m * (b / g)) (sym ea) ∙ across (a / g) g (b / g) ∙ ap (λ (m : ℕ). a / g * m) eb in
    let product : a / g * b * g ≡ a * b = swap (a / g) b g ∙ ap (λ (m : ℕ). m * b) ea in
    record {
      first = let P : ℕ → Type 0 = λ m. a ∣ m in subst P turned (dvd-mul_right a (b / g));
      second = dvd-mul_left b (a / g);
      some = pos_both (a / g) b pos hb;
      least = λ n an bn.
          let one : a * b ∣ a * n = mul-dvd-mul_left b a bn in
          let two : a * b ∣ b * n = subst (λ m. m ∣ b * n) (flip b a) (mul-dvd-mul_left a b an) in
          let both : a * b ∣ g * n = divides_scaled (suc b) a b (a * b) n (omega arith) one two in
          let same : a / g * b * g ∣ n * g = subst (λ m. m ∣ n * g) (sym product) (subst (λ m. a * b ∣ m) (flip g n) both) in
          dvd_of_mul-dvd-mul_right (a / g * b) gpos same;
    }
  where
    across : (m g n : ℕ) → m * g * n ≡ m * (n * g)
    across m g n = omega arith

    swap : (m b g : ℕ) → m * b * g ≡ m * g * b
    swap m b g = omega arith

    flip : (a b : ℕ) → a * b ≡ b * a
    flip a b = omega arith

-- any divisor that is greatest gives the least common multiple
pub lcm_by : (a b g : ℕ) → IsGcd a b g → a / g * b ≡ lcm a b
unfolding lcm
lcm_by a b g is = ap (λ d. a / d * b) (same_from_IsGcd a b g (gcd_by (suc b) a b) is (gcd_is (suc b) a b (omega arith)))
