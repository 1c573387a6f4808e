-- What a sink tells of the bytes that were written to it.
use Rattle.std.specs.Prelude.{ℕ, ◌≡◌, List, ◌++◌, take, Option, None, option_map}

-- the bytes that were written, and then these
abbrev pub add : Option (List ℕ) → List ℕ → Option (List ℕ)
add written bytes = option_map (λ front. front ++ bytes) written

-- some of the bytes were written, from the front
abbrev pub AddsFront : Option (List ℕ) → Option (List ℕ) → List ℕ → Type 0
AddsFront old new bytes = (n : ℕ) × (new ≡ add old (take n bytes))

-- what a sink tells that tells nothing
abbrev pub unseen : Option (List ℕ)
unseen = None
