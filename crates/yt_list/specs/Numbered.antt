-- The items of a list by their numbers, which start at 1.
use Rattle.std.specs.Prelude.{ℕ, zero, suc, List, Option, None, slice_get}
use Rattle.std.specs.Option.{unwrap_or}

-- the item of a number, where there is one
abbrev pub numbered : {A : Type 0} → List A → ℕ → Option A
numbered items zero = None
numbered items (suc place) = slice_get items place

-- the item of a number, and what stands for it where there is none
abbrev pub numbered_or : {A : Type 0} → List A → ℕ → A → A
numbered_or items number none = unwrap_or (numbered items number) none
