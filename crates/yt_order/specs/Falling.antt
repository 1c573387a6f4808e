-- Lists of which each element comes before those in front of it, so that the least is the last.
use Rattle.std.specs.Prelude.{◌≡◌, ◌⊎◌, ℕ, ◌<◌, Bool, true, false, List, length, slice_index_or}
use Rattle.std.specs.List.{Contains}

-- each element comes before those in front of it
abbrev pub IsFallingBy : {X : Type 0} → (X → X → Bool) → List X → Type 0
IsFallingBy {X} comes xs = (i j : ℕ) (d : X) → i < j → j < length xs → comes (slice_index_or xs j d) (slice_index_or xs i d) ≡ true

-- an element of the list that none of the list comes before
pub record IsLeastBy {X : Type 0} (comes : X → X → Bool) (xs : List X) (least : X) : Type 0 where
  pub has : Contains xs least
  pub first : (other : X) → Contains xs other → comes other least ≡ false

-- one list has the elements of another, and one more that the other hasn't
pub record HasOneMore {X : Type 0} (xs : List X) (x : X) (more : List X) : Type 0 where
  pub fresh : Contains xs x → ⊥
  pub added : Contains more x
  pub kept : (other : X) → Contains xs other → Contains more other
  pub only : (other : X) → Contains more other → (other ≡ x) ⊎ Contains xs other
