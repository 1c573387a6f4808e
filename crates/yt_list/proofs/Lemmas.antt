-- The lemmas on lists that proofs of other crates cite.
use Rattle.std.proofs.Common.{◌≡◌, ℕ, zero, suc, ◌+◌, ◌-◌, ◌≤◌, List, ◌∷◌, drop, get_or, Some, sym, ap, ◌∙◌, arith, add-one, drop-cons}
use Rattle.std.specs.Prelude.{slice_get}
use Rattle.std.proofs.lemmas.Option.{none-some, slice_get_within, get_or_from_slice_get, unwrap_or-slice_get}
use Rattle.yt_list.specs.Numbered.{numbered, numbered_or}

-- the items from a place on: the one there, and the others
pub drop_at : {X : Type 0} (xs : List X) (i : ℕ) (x : X) → slice_get xs i ≡ Some x → drop i xs ≡ x ∷ drop (i + 1) xs
drop_at xs i x e =
    drop-cons xs i x (slice_get_within xs i x e)
    ∙ ap (λ y. y ∷ drop (suc i) xs) (get_or_from_slice_get xs i x x e)
    ∙ ap (λ n. x ∷ drop n xs) (sym (add-one i))

-- the number after a place is that of the item there
pub numbered_next : {X : Type 0} (xs : List X) (i : ℕ) → numbered xs (i + 1) ≡ slice_get xs i
numbered_next xs i = ap (numbered xs) (add-one i)

pub numbered_or_next : {X : Type 0} (xs : List X) (i : ℕ) (none : X) → numbered_or xs (i + 1) none ≡ get_or xs i none
numbered_or_next xs i none = ap (λ n. numbered_or xs n none) (add-one i) ∙ unwrap_or-slice_get xs i none

-- a number from 1 on is that of the item at the place before
pub numbered_place : {X : Type 0} (xs : List X) (n : ℕ) → 1 ≤ n → numbered xs n ≡ slice_get xs (n - 1)
numbered_place xs zero le = absurd (omega arith)
numbered_place xs (suc i) le = let e : suc i - 1 ≡ i = omega arith in ap (slice_get xs) (sym e)

-- what has a number stands at the place before it
pub numbered_there : {X : Type 0} (xs : List X) (n : ℕ) (x : X) → numbered xs n ≡ Some x → (1 ≤ n) × (slice_get xs (n - 1) ≡ Some x)
numbered_there xs zero x is = absurd (none-some x is)
numbered_there xs (suc i) x is = (omega arith, sym (numbered_place xs (suc i) (omega arith)) ∙ is)

pub numbered_or_place : {X : Type 0} (xs : List X) (n : ℕ) (none : X) → 1 ≤ n → numbered_or xs n none ≡ get_or xs (n - 1) none
numbered_or_place xs zero none le = absurd (omega arith)
numbered_or_place xs (suc i) none le =
    let e : suc i - 1 ≡ i = omega arith in
    unwrap_or-slice_get xs i none ∙ ap (λ k. get_or xs k none) (sym e)
