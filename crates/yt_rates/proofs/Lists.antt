-- Lists that are gone over, and lists of which an item is changed.
use Rattle.std.proofs.Common.{◌≡◌, ℕ, zero, suc, ◌+◌, ◌<◌, List, [], ◌∷◌, ◌++◌, length, drop, map, set, Some, refl, sym, ap, ◌∙◌, arith}
use Rattle.std.specs.Prelude.{slice_get}
use Rattle.std.specs.List.{All}
use Rattle.std.proofs.Math.Seq.{drop-length}
use Rattle.std.proofs.lemmas.List.{append_assoc}
use Rattle.std.proofs.lemmas.Option.{none-some, same_Some, slice_get-get_or}
use Rattle.yt_cost.proofs.Lemmas.{drop_at}

append_nil : {X : Type 0} (xs : List X) → xs ++ [] ≡ xs
append_nil [] = refl
append_nil (x ∷ xs) = ap (λ r. x ∷ r) (append_nil xs)

module _ {X Y : Type 0} (f : X → Y) where
  -- one more item is gone over
  pub mapped_more : (xs : List X) (i : ℕ) (x : X) (y : Y) (done more all : List Y) → slice_get xs i ≡ Some x → y ≡ f x → more ≡ done ++ y ∷ [] → done ++ map f (drop i xs) ≡ all → more ++ map f (drop (i + 1) xs) ≡ all
  mapped_more xs i x y done more all at is pushed h =
      ap (λ l. l ++ map f (drop (i + 1) xs)) pushed
      ∙ append_assoc done (y ∷ []) (map f (drop (i + 1) xs))
      ∙ ap (λ z. done ++ (z ∷ map f (drop (i + 1) xs))) is
      ∙ ap (λ l. done ++ map f l) (sym (drop_at xs i x at))
      ∙ h

  -- all items are gone over
  pub mapped_all : (xs : List X) (i : ℕ) (done all : List Y) → i ≡ length xs → done ++ map f (drop i xs) ≡ all → done ≡ all
  mapped_all xs i done all end h =
      sym (append_nil done) ∙ ap (λ l. done ++ map f l) (sym (ap (λ n. drop n xs) end ∙ drop-length xs)) ∙ h

-- an item at a place within a list
pub item_at : {X : Type 0} (xs : List X) (i : ℕ) → i < length xs → (x : X) × (slice_get xs i ≡ Some x)
item_at [] i lt = absurd (omega (arith, lt))
item_at (x ∷ xs) zero lt = (x, refl)
item_at (x ∷ xs) (suc i) lt = item_at xs i (omega (arith, lt))

-- what holds at each place holds of all
pub all_at : {X : Type 0} (P : X → Type 0) (xs : List X) → ((k : ℕ) (x : X) → slice_get xs k ≡ Some x → P x) → All P xs
all_at P xs h k d lt = h k _ (slice_get-get_or xs k d lt)

-- the items after a write
pub written_here : {X : Type 0} (xs : List X) (i : ℕ) (y z : X) → slice_get (set xs i y) i ≡ Some z → y ≡ z
written_here [] i y z e = absurd (none-some z e)
written_here (x ∷ xs) zero y z e = same_Some y z e
written_here (x ∷ xs) (suc i) y z e = written_here xs i y z e

pub written_there : {X : Type 0} (xs : List X) (i k : ℕ) (y : X) → (k ≡ i → ⊥) → slice_get (set xs i y) k ≡ slice_get xs k
written_there [] i k y apart = refl
written_there (x ∷ xs) zero zero y apart = absurd (apart refl)
written_there (x ∷ xs) zero (suc k) y apart = refl
written_there (x ∷ xs) (suc i) zero y apart = refl
written_there (x ∷ xs) (suc i) (suc k) y apart = written_there xs i k y (λ e. apart (ap suc e))
