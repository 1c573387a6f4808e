-- Multiples of a number.
use Rattle.std.proofs.Common.{◌≡◌, ℕ, suc, ◌+◌, ◌*◌, ◌/◌, ◌%◌, ◌<◌, ◌≤◌, ⊎_elim, arith}
use Rattle.std.proofs.lemmas.Bool.{cases_lt}
use Rattle.std.proofs.lemmas.Nat.{mul-le}
use Rattle.std.proofs.Math.Nat.{mod-add-div}

-- the greater of two multiples of a number is at least that number more
pub next_multiple : (e a b : ℕ) → a % e ≡ 0 → b % e ≡ 0 → a < b → a + e ≤ b
next_multiple e a b m n lt =
    let p = mod-add-div a e in
    let q = mod-add-div b e in
    ⊎_elim
    (λ (l : a / e < b / e). let h : e * suc (a / e) ≤ e * (b / e) = mul-le e (suc (a / e)) e (b / e) (omega arith) (omega arith) in omega arith)
    (λ (l : b / e ≤ a / e). let h : e * (b / e) ≤ e * (a / e) = mul-le e (b / e) e (a / e) (omega arith) l in absurd (omega arith))
    (cases_lt (a / e) (b / e))
