-- Words that may name something.
use Rattle.std.specs.Prelude.{ℕ, ◌==◌, ◌&&◌, ◌||◌, not, nat_le, Bool, false, List, [], ◌∷◌, length}
use Rattle.std.specs.List.{list_all}
use Rattle.yt_graph.specs.Limits.{most_name_bytes}
use Rattle.yt_graph.specs.Reserved.{is_reserved}

-- an ASCII letter or `_`
abbrev pub is_letter : ℕ → Bool
is_letter c = (nat_le 65 c && nat_le c 90) || ((nat_le 97 c && nat_le c 122) || (c == 95))

abbrev pub is_digit : ℕ → Bool
is_digit c = nat_le 48 c && nat_le c 57

-- a byte that a word goes on with
abbrev pub is_word_byte : ℕ → Bool
is_word_byte c = is_letter c || is_digit c

-- the first byte is a letter or `_`
abbrev pub begins_as_word : List ℕ → Bool
begins_as_word [] = false
begins_as_word (c ∷ cs) = is_letter c

-- a word that may name something: at most 32 letters, digits and `_`, no digit first, and not reserved
abbrev pub is_name : List ℕ → Bool
is_name word = begins_as_word word && (list_all is_word_byte word && (nat_le (length word) most_name_bytes && not (is_reserved word)))
