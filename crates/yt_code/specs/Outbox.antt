-- What the sends of a tick leave of an outbox.
use Rattle.std.specs.Prelude.{◌≡◌, ◌≢◌, ℕ, ℤ, List, [], ◌∷◌, ◌++◌}
use Rattle.yt_graph.specs.declared.handled.SendItem.{SendItem}
use Rattle.yt_graph.specs.Sends.{messages_on}

-- the message comes last on this out, and nothing is sent on any other
abbrev pub AddsSend : (ℕ → List (List ℤ)) → (ℕ → List (List ℤ)) → ℕ → List ℤ → Type 0
AddsSend old new out values =
    (new out ≡ old out ++ values ∷ []) × ((other : ℕ) → other ≢ out → new other ≡ old other)

-- on each out these sends come last, in order
abbrev pub AddsSends : (ℕ → List (List ℤ)) → (ℕ → List (List ℤ)) → List SendItem → Type 0
AddsSends old new sends = (out : ℕ) → new out ≡ old out ++ messages_on out sends

-- one send after another leaves the outbox as the relation says, and it is unchanged where there is none
abbrev pub LeavesAll : {B : Type 0} → (B → ℕ → List ℤ → B → Type 0) → List SendItem → B → B → Type 0
LeavesAll leaves [] old new = new ≡ old
LeavesAll {B = B} leaves (s ∷ rest) old new = (mid : B) × leaves old s.out s.values mid × LeavesAll leaves rest mid new

-- the outbox takes the first send as it stands, and each later one however the sends before may leave it
abbrev pub TakesAll : {B : Type 0} → (B → ℕ → List ℤ → Type 0) → (B → ℕ → List ℤ → B → Type 0) → List SendItem → B → Type 0
TakesAll takes leaves [] old = Unit {0}
TakesAll {B = B} takes leaves (s ∷ rest) old =
    takes old s.out s.values × ((mid : B) → leaves old s.out s.values mid → TakesAll takes leaves rest mid)
