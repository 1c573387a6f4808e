-- The lines and fields of a text.
use Rattle.std.specs.Prelude.{ℕ, ◌-◌, List, [], ◌∷◌, length, map, take, Bool, ◌||◌, ◌==◌, nat_lt, slice_index, if◌then◌else◌}
use Rattle.std.specs.List.{filter, onto_first}

abbrev pub is_feed : ℕ → Bool
is_feed b = b == 10

-- a space or a tab
abbrev pub is_blank : ℕ → Bool
is_blank b = (b == 32) || (b == 9)

-- the pieces of a text that end at such a byte, which is left out, or at the text's end
abbrev pub pieces : (ℕ → Bool) → List ℕ → List (List ℕ)
pieces ends [] = []
pieces ends (b ∷ bs) = if ends b then [] ∷ pieces ends bs else onto_first b (pieces ends bs)

-- how many bytes a line has without the carriage return at its end
abbrev pub body_len : List ℕ → ℕ
body_len line = if slice_index line (length line - 1) == 13 then length line - 1 else length line

-- the lines of a text, each without the carriage return at its end; a last line without bytes is no line
abbrev pub lines_of : List ℕ → List (List ℕ)
lines_of text = map (λ line. take (body_len line) line) (pieces is_feed text)

-- the fields of a line, which blanks part
abbrev pub fields_of : List ℕ → List (List ℕ)
fields_of line = filter (λ field. nat_lt 0 (length field)) (pieces is_blank line)
