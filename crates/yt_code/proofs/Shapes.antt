-- What valid code says of each of its places.
use Rattle.std.proofs.Common.{◌≡◌, ℕ, zero, suc, ◌+◌, ◌<◌, ◌≤◌, List, [], ◌∷◌, length, Some, refl, ap, subst, arith}
use Rattle.std.specs.Prelude.{slice_get}
use Rattle.std.proofs.lemmas.Option.{slice_get_within}
use Rattle.yt_code.specs.declared.instr.Instr.{Instr}
use Rattle.yt_code.specs.Valid.{Program, Shape, Leads, IsFine, AreFine, IsValidCode}

same_length : (all : List Shape) (code : Program) (p : ℕ) (is : List Instr) (ss : List Shape) → AreFine all code p is ss → length is ≡ length ss
same_length all code p [] [] f = refl
same_length all code p [] (s ∷ ss) f = absurd f
same_length all code p (i ∷ is) [] f = absurd f
same_length all code p (i ∷ is) (s ∷ ss) f = ap suc (same_length all code (p + 1) is ss f.3)

bounds_at : (all : List Shape) (code : Program) (p k : ℕ) (is : List Instr) (ss : List Shape) (s : Shape) → AreFine all code p is ss → slice_get ss k ≡ Some s → (s.depth ≤ 40) × (s.open_loops ≤ 8)
bounds_at all code p k is [] s f e = absurd cc
bounds_at all code p k [] (y ∷ ss) s f e = absurd f
bounds_at all code p zero (x ∷ is) (y ∷ ss) s f e =
    let same : y ≡ s = cc in
    subst (λ z. (z.depth ≤ 40) × (z.open_loops ≤ 8)) same (f.0, f.1)
bounds_at all code p (suc k) (x ∷ is) (y ∷ ss) s f e = bounds_at all code (p + 1) k is ss s f.3 e

fine_from : (all : List Shape) (code : Program) (p k : ℕ) (is : List Instr) (ss : List Shape) (i : Instr) (s : Shape) → AreFine all code p is ss → slice_get is k ≡ Some i → slice_get ss k ≡ Some s → IsFine all code (p + k) i s.depth s.open_loops
fine_from all code p k [] ss i s f a b = absurd cc
fine_from all code p k (x ∷ is) [] i s f a b = absurd f
fine_from all code p zero (x ∷ is) (y ∷ ss) i s f a b =
    let instr : x ≡ i = cc in
    let shape : y ≡ s = cc in
    let place : p ≡ p + 0 = omega arith in
    subst (λ n. IsFine all code n i s.depth s.open_loops) place (subst (λ j. IsFine all code p j s.depth s.open_loops) instr (subst (λ z. IsFine all code p x z.depth z.open_loops) shape f.2))
fine_from all code p (suc k) (x ∷ is) (y ∷ ss) i s f a b =
    let place : p + 1 + k ≡ p + suc k = omega arith in
    subst (λ n. IsFine all code n i s.depth s.open_loops) place (fine_from all code (p + 1) k is ss i s f.3 a b)

-- a place that a way leads to has an instruction
pub is_there : (code : Program) (v : IsValidCode code) (p d o : ℕ) → Leads v.shapes p d o → p < length code.instrs
is_there code v p d o h =
    omega (arith, slice_get_within v.shapes p _ h, same_length v.shapes code 0 code.instrs v.shapes v.fine)

-- and within the greatest depths
pub is_within : (code : Program) (v : IsValidCode code) (p d o : ℕ) → Leads v.shapes p d o → (d ≤ 40) × (o ≤ 8)
is_within code v p d o h = bounds_at v.shapes code 0 p code.instrs v.shapes _ v.fine h

-- and this is fine
pub is_fine : (code : Program) (v : IsValidCode code) (p d o : ℕ) (i : Instr) → slice_get code.instrs p ≡ Some i → Leads v.shapes p d o → IsFine v.shapes code p i d o
is_fine code v p d o i at h =
    let place : 0 + p ≡ p = omega arith in
    subst (λ n. IsFine v.shapes code n i d o) place (fine_from v.shapes code 0 p code.instrs v.shapes i _ v.fine at h)
