-- The places of a text: lines and columns from 1, columns in bytes.
use Rattle.std.specs.Prelude.{ℕ, ◌+◌, List, [], ◌∷◌, take, if◌then◌else◌}
use Rattle.yt_base.specs.Lines.{is_feed}
use Rattle.yt_graph.specs.declared.place.Place.{Place}

-- the place behind the byte at a place: a line feed ends its line
abbrev pub next_place : Place → ℕ → Place
next_place p b = if is_feed b then record { line = p.line + 1; col = 1 } else record { line = p.line; col = p.col + 1 }

-- the place behind bytes that begin at a place
abbrev pub place_after : Place → List ℕ → Place
place_after p [] = p
place_after p (b ∷ bs) = place_after (next_place p b) bs

-- the place of the byte that so many bytes stand before, and of the end of the text
abbrev pub place_of : List ℕ → ℕ → Place
place_of text at = place_after (record { line = 1; col = 1 }) (take at text)
