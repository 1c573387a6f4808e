-- Lists of which each element is known once it was gone over.
use Rattle.std.proofs.Common.{◌≡◌, ℕ, ◌+◌, ◌≤◌, List, [], ◌∷◌, ◌++◌, length, drop, sym, ap, subst, ◌∙◌, arith, append_assoc}
use Rattle.std.specs.List.{All}
use Rattle.std.proofs.lemmas.Grind.{common_steps}
use Rattle.std.proofs.lemmas.List.Elements.{All-cons, All-nil}

module _ {X : Type 0} (P : X → Type 0) (xs : List X) where
  -- where what is left decides, and the next element passes, what is left behind it decides
  pub passes_on : (i : ℕ) (x : X) → drop i xs ≡ x ∷ drop (i + 1) xs → P x → (All P (drop i xs) → All P xs) → All P (drop (i + 1) xs) → All P xs
  passes_on i x cut here whole rest = whole (subst (All P) (sym cut) (All-cons P x (drop (i + 1) xs) here rest))

  -- where nothing is left, all pass
  pub all_passed : (i : ℕ) → length xs ≤ i → (All P (drop i xs) → All P xs) → All P xs
  all_passed i end whole = let none : drop i xs ≡ [] = grind (arith, common_steps) in whole (subst (All P) (sym none) (All-nil P))

-- a text that goes on by what is put behind it
pub text_on : (new text all put rest : List ℕ) → new ≡ text ++ put → text ++ (put ++ rest) ≡ all → new ++ rest ≡ all
text_on new text all put rest is so =
    let joined : (text ++ put) ++ rest ≡ text ++ (put ++ rest) = simp append_assoc in
    ap (λ (t : List ℕ). t ++ rest) is ∙ (joined ∙ so)
