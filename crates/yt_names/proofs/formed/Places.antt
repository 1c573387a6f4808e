-- Numbers of what has a place, and numbers that 32 bits hold.
use Rattle.std.proofs.Common.{◌≡◌, ℕ, zero, suc, ◌+◌, ◌<◌, ◌≤◌, List, [], ◌∷◌, length, true, is_some, Option, Some, None, true≢false, slice_get, bytes_eq, refl, sym, ◌∙◌, subst, arith, IsSomeAnd}
use Rattle.std.specs.List.{list_any}
use Rattle.std.specs.Option.{unwrap_or}
use Rattle.yt_graph.specs.WellFormed.{IsWithin}
use Rattle.yt_table.specs.Tables.{first_of}
use Rattle.yt_names.specs.Resolved.{place_of, number_of, number_among}
use Rattle.yt_names.proofs.FineLemmas.{place_stays, found_within}
use Rattle.yt_names.proofs.formed.Lists.{found}

-- the number of a small place
pub number_is : (place : ℕ) → place < 1000000 → number_of place ≡ suc place
number_is place lt = let e : place + 1 ≡ suc place = omega arith in place_stays (place + 1) (omega arith) ∙ e

-- a number within small limits is kept
pub kept_within : (low high n : ℕ) → high < 1000001 → IsWithin low high n → IsWithin low high (place_of n)
kept_within low high n lt h = subst (IsWithin low high) (sym (place_stays n (omega (arith, h.1)))) h

-- the number of a name that is there
pub number_within : (word : List ℕ) (names : List (List ℕ)) → list_any (bytes_eq word) names ≡ true → length names ≤ 96 → IsWithin 1 (length names) (number_among word names)
number_within word names there few = by (first_of word 1 names) refl (found word 1 names there)
  where
    by : (o : Option ℕ) → first_of word 1 names ≡ o → is_some o ≡ true → IsWithin 1 (length names) (place_of (unwrap_or o 0))
    by None e s = absurd (true≢false (sym s))
    by (Some k) e s =
        let w = found_within (bytes_eq word) 1 names k e in
        subst (IsWithin 1 (length names)) (sym (place_stays k (omega (arith, w.1)))) (omega (arith, w.0), omega (arith, w.1))

-- something at a place
pub some_within : {X : Type 0} (P : X → Type 0) (xs : List X) (k : ℕ) → IsSomeAnd (slice_get xs k) P → k < length xs
some_within P [] k h = absurd h
some_within P (x ∷ xs) zero h = omega arith
some_within P (x ∷ xs) (suc k) h = omega (arith, some_within P xs k h)

-- what follows of something that is there
pub some_then : {X : Type 0} (P Q : X → Type 0) (o : Option X) → ((x : X) → P x → Q x) → IsSomeAnd o P → IsSomeAnd o Q
some_then P Q None f h = absurd h
some_then P Q (Some x) f h = f x h

pub some_is : {X : Type 0} (P : X → Type 0) (o : Option X) (x : X) → o ≡ Some x → P x → IsSomeAnd o P
some_is P o x e h = subst (λ y. IsSomeAnd y P) (sym e) h
