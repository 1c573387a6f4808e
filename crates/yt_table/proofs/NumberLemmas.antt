-- What one more declaration does to names with numbers.
use Rattle.std.proofs.Common.{◌≡◌, ℕ, suc, ◌+◌, ◌<◌, List, ◌∷◌, length, map, drop, get_or, add-one, Option, Some, None, Bool, true, false, refl, sym, ap, ◌∙◌, unwrap_or, true≢false, cond}
use Rattle.std.proofs.lemmas.Slice.Eq.{bytes_eq-Decides}
use Rattle.std.specs.Str.{bytes_eq}
use Rattle.std.specs.Map.{update}
use Rattle.std.proofs.Math.Seq.{drop-cons}
use Rattle.yt_table.specs.Tables.{first_of}
use Rattle.yt_table.specs.Inside.Numbers.{or_declared, or_later}

-- a name that has no number takes the new one, and one that has a number keeps it
module _ (f : List ℕ → Option ℕ) (name : List ℕ) (number : ℕ) where
  pub declares : (other : List ℕ) → update bytes_eq f name (Some (unwrap_or (f name) number)) other ≡ or_declared (f other) other name number
  declares other = by (bytes_eq name other) refl (f other) refl (bytes_eq other name) refl
    where
      by : (b : Bool) → bytes_eq name other ≡ b → (o : Option ℕ) → f other ≡ o → (d : Bool) → bytes_eq other name ≡ d → cond b (Some (unwrap_or (f name) number)) o ≡ or_declared o other name number
      by true e o p d q =
          let same : name ≡ other = (bytes_eq-Decides name other).0 e in
          let back : bytes_eq other name ≡ true = (bytes_eq-Decides other name).1 (sym same) in
          ap (λ k. Some (unwrap_or (f k) number)) same ∙ ap (λ v. Some (unwrap_or v number)) p ∙ held o back
        where
          held : (v : Option ℕ) → bytes_eq other name ≡ true → Some (unwrap_or v number) ≡ or_declared v other name number
          held (Some n) back = refl
          held None back = rw back refl
      by false e (Some n) p d q = refl
      by false e None p true q = absurd (true≢false (sym ((bytes_eq-Decides name other).1 (sym ((bytes_eq-Decides other name).0 q))) ∙ e))
      by false e None p false q = rw q refl

-- one declaration moves from those that come to those that were
pub moves_on : (found rest : Option ℕ) (name new : List ℕ) (number : ℕ) → or_later (or_declared found name new number) rest ≡ or_later found (cond (bytes_eq name new) (Some number) rest)
moves_on (Some n) rest name new number = refl
moves_on None rest name new number = by (bytes_eq name new)
  where
    by : (b : Bool) → or_later (cond b (Some number) None) rest ≡ cond b (Some number) rest
    by true = refl
    by false = refl

-- none come later
pub no_later : (found : Option ℕ) → or_later found None ≡ found
no_later None = refl
no_later (Some n) = refl

-- a turn of a loop that declares the names of a list, where the list is cut before the place
pub declares_next : {X : Type 0} (text : X → List ℕ) (all : List X) (x : X) (k number : ℕ) (old new : List ℕ → Option ℕ) (end : Option ℕ) (name word : List ℕ)
    → k < length all → x ≡ get_or all k x → word ≡ text x
    → new name ≡ or_declared (old name) name word number
    → or_later (old name) (first_of name number (map text (drop k all))) ≡ end
    → or_later (new name) (first_of name (number + 1) (map text (drop (k + 1) all))) ≡ end
declares_next text all x k number old new end name word lt at says e h =
    let cut : drop k all ≡ x ∷ drop (k + 1) all = drop-cons all k x lt ∙ ap (λ y. y ∷ drop (suc k) all) (sym at) ∙ ap (λ n. x ∷ drop n all) (sym (add-one k)) in
    ap (λ o. or_later o (first_of name (number + 1) (map text (drop (k + 1) all)))) (e ∙ ap (λ w. or_declared (old name) name w number) says)
    ∙ moves_on (old name) (first_of name (number + 1) (map text (drop (k + 1) all))) name (text x) number
    ∙ ap (λ l. or_later (old name) (first_of name number (map text l))) (sym cut)
    ∙ h
