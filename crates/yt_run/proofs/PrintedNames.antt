-- Names that can be read back from a text, and the numbers that are read for them.
use Rattle.std.proofs.Common.{ℕ, suc, zero, ◌≡◌, ◌≢◌, ◌<◌, ◌≤◌, ◌==◌, List, [], ◌∷◌, map, length, get_or, true, false, refl, sym, ap, subst, ◌∙◌, arith}
use Rattle.std.specs.List.{AllPairs, list_all}
use Rattle.std.specs.Prelude.{bytes_eq}
use Rattle.std.proofs.lemmas.Bool.{false_from_ne_true}
use Rattle.std.proofs.lemmas.List.{get_or-map, length-map}
use Rattle.std.proofs.lemmas.Option.{unwrap_or-slice_get}
use Rattle.std.proofs.lemmas.Slice.Eq.{bytes_eq-Decides}
use Rattle.yt_list.specs.Numbered.{numbered_or}
use Rattle.yt_run.specs.Readable.{stays_in_word, AreDistinctWords}
use Rattle.yt_run.specs.RunText.{number_in}

-- the number of the name at a place
number_in-at : (names : List (List ℕ)) (k : ℕ) → AllPairs (λ a b. a ≢ b) names → k < length names → number_in names (get_or names k []) ≡ suc k
number_in-at [] k different within = absurd (omega arith)
number_in-at (name ∷ names) zero different within =
    let same : bytes_eq name name ≡ true = (bytes_eq-Decides name name).1 refl in
    rw same refl
number_in-at (name ∷ names) (suc k) different within =
    let other : bytes_eq name (get_or names k []) ≡ false = false_from_ne_true (bytes_eq name (get_or names k [])) (λ same. different zero (suc k) [] (omega arith) (omega arith) ((bytes_eq-Decides name (get_or names k [])).0 same)) in
    let more : number_in names (get_or names k []) ≡ suc k = number_in-at names k (λ i j d lt short. different (suc i) (suc j) d (omega arith) (omega arith)) (omega arith) in
    let some : (suc k == 0) ≡ false = grind arith in
    rw (other, more, some) refl

module _ {X : Type 0} (name_of : X → List ℕ) (things : List X) (d : X) (apart : AreDistinctWords (map name_of things)) where
  -- the name of the thing of a number
  name_at : (k : ℕ) → k < length things → get_or (map name_of things) k [] ≡ name_of (numbered_or things (suc k) d)
  name_at k within = get_or-map name_of things k d [] within ∙ ap name_of (sym (unwrap_or-slice_get things k d))

  -- the number of a thing's name is its own
  pub number_in-name : (number : ℕ) → 1 ≤ number → number ≤ length things → number_in (map name_of things) (name_of (numbered_or things number d)) ≡ number
  number_in-name zero from_one within = absurd (omega arith)
  number_in-name (suc k) from_one within =
      ap (number_in (map name_of things)) (sym (name_at k (omega arith))) ∙ number_in-at (map name_of things) k apart.different (omega (arith, length-map things name_of))

  -- and its name is a word
  pub name-stays_in_word : (number : ℕ) → 1 ≤ number → number ≤ length things → list_all stays_in_word (name_of (numbered_or things number d)) ≡ true
  name-stays_in_word zero from_one within = absurd (omega arith)
  name-stays_in_word (suc k) from_one within =
      subst (λ name. list_all stays_in_word name ≡ true) (name_at k (omega arith)) (apart.words k [] (omega (arith, length-map things name_of)))
