-- Where the next byte stands.
use Rattle.std.specs.Prelude.{ℕ, List, length, ◌≡◌, ◌≤◌}
use Rattle.yt_graph.specs.declared.place.Place.{Place}
use Rattle.yt_lexer.specs.Places.{place_of}

-- a place in a text by its number of bytes and its line and column
abbrev pub IsSpot : List ℕ → ℕ → Place → Type 0
IsSpot text at place = (at ≤ length text) × (place ≡ place_of text at)
