-- What a place in a text counts.
use Rattle.std.specs.Prelude.{◌≡◌, ℕ, ◌+◌, ◌⊎◌, false, List, [], ◌∷◌, ◌++◌, length, take}
use Rattle.std.specs.List.{count_by, list_any}
use Rattle.yt_base.specs.Lines.{is_feed}
use Rattle.yt_graph.specs.declared.place.Place.{Place}
use Rattle.yt_lexer.specs.Places.{place_of}

-- bytes that are whole lines: there are none, or the last is a line feed
abbrev pub AreWholeLines : List ℕ → Type 0
AreWholeLines bytes = (bytes ≡ []) ⊎ ((front : List ℕ) × (bytes ≡ front ++ 10 ∷ []))

-- the place behind these bytes of a text: its line is one more than the line feeds among them, and its column one more than the bytes since
-- the last of these
pub record IsBehind (bytes : List ℕ) (place : Place) : Type 0 where
  pub line : place.line ≡ 1 + count_by is_feed bytes
  pub lines : List ℕ
  pub since : List ℕ
  pub parts : bytes ≡ lines ++ since
  pub ended : AreWholeLines lines
  pub one_line : list_any is_feed since ≡ false
  pub column : place.col ≡ 1 + length since

-- the place of a byte is the one behind the bytes before it
abbrev pub PlacesCountLines : Type 0
PlacesCountLines = (text : List ℕ) (at : ℕ) → IsBehind (take at text) (place_of text at)
