-- What stands at the front of a text: white space and comments, and a token.
use Rattle.std.specs.Prelude.{ℕ, ◌+◌, ◌==◌, ◌&&◌, ◌||◌, not, nat_le, nat_lt, Bool, false, List, [], ◌∷◌, length, take, if◌then◌else◌, Option, None, Some, Result, Ok, Err, ℤ}
use Rattle.std.specs.List.{prefix_len}
use Rattle.yt_base.specs.Digits.{signed_of_text}
use Rattle.yt_base.specs.Lines.{is_feed}
use Rattle.yt_graph.specs.declared.place.Place.{Place}
use Rattle.yt_graph.specs.Limits.{most_name_bytes}
pub use Rattle.yt_graph.specs.Names.{is_letter, is_digit, is_word_byte, is_name}
pub use Rattle.yt_graph.specs.Reserved.{reserved_words, is_reserved}
use Rattle.yt_lexer.specs.declared.token.TokenKind.{TokenKind}
use Rattle.yt_lexer.specs.declared.token.TokenKind.TheVariants.{Word, Key, Number, Symbol}
use Rattle.yt_lexer.specs.declared.token.LexFault.{LexFault}
use Rattle.yt_lexer.specs.declared.token.LexFault.TheVariants.{BadByte, LongName, BigNumber}

-- a space, a tab, a carriage return or a line feed
abbrev pub is_space : ℕ → Bool
is_space b = (b == 32) || ((b == 9) || ((b == 13) || (b == 10)))

-- white space, or of a comment, which may have begun before
abbrev pub is_blank : Bool → ℕ → Bool
is_blank comment b = comment || (is_space b || (b == 35))

-- behind this byte a comment goes on: `#` begins it, and a line feed ends it
abbrev pub is_in_comment : Bool → ℕ → Bool
is_in_comment comment b = not (is_feed b) && (comment || (b == 35))

-- how many bytes of white space and comments stand in front, where a comment may have begun before
abbrev pub blank_len_in : Bool → List ℕ → ℕ
blank_len_in comment [] = 0
blank_len_in comment (b ∷ bs) = if is_blank comment b then 1 + blank_len_in (is_in_comment comment b) bs else 0

abbrev pub blank_len : List ℕ → ℕ
blank_len text = blank_len_in false text

-- `<=`, `>=`, `==` and `!=` are these bytes with `=` behind them
abbrev pub takes_equals : ℕ → Bool
takes_equals b = (b == 60) || ((b == 62) || ((b == 61) || (b == 33)))

-- the symbols of one byte: `(` `)` `*` `+` `,` `-` `.` `/`, `<` `=` `>`, `%`, `{` and `}`
abbrev pub is_symbol : ℕ → Bool
is_symbol b = (nat_le 40 b && nat_le b 47) || ((nat_le 60 b && nat_le b 62) || ((b == 37) || ((b == 123) || (b == 125))))

-- how many bytes the longest symbol in front has; 0 where there is none
abbrev pub symbol_len : List ℕ → ℕ
symbol_len [] = 0
symbol_len (b ∷ []) = if is_symbol b then 1 else 0
symbol_len (b ∷ c ∷ bs) = if takes_equals b && (c == 61) then 2 else (if is_symbol b then 1 else 0)

-- what a word is
unfoldable pub word_token : Place → List ℕ → Result (TokenKind × ℕ) LexFault
word_token place word = if nat_lt most_name_bytes (length word) then Err (LongName place) else Ok ((if is_reserved word then Key else Word), length word)

-- what digits are
unfoldable pub number_token : Place → List ℕ → Result (TokenKind × ℕ) LexFault
number_token place digits = number_or_fault (signed_of_text digits)
  where
    number_or_fault : Option ℤ → Result (TokenKind × ℕ) LexFault
    number_or_fault (Some n) = Ok (Number n, length digits)
    number_or_fault None = Err (BigNumber place)

-- the symbol of so many bytes
abbrev pub symbol_token : Place → ℕ → Result (TokenKind × ℕ) LexFault
symbol_token place len = if len == 0 then Err (BadByte place) else Ok (Symbol, len)

-- the token in front with its number of bytes, or the fault at this place
unfoldable pub first_token : Place → List ℕ → Result (TokenKind × ℕ) LexFault
first_token place [] = Err (BadByte place)
first_token place (b ∷ bs) =
    if is_letter b then word_token place (take (prefix_len is_word_byte (b ∷ bs)) (b ∷ bs))
    else (if is_digit b then number_token place (take (prefix_len is_digit (b ∷ bs)) (b ∷ bs))
    else symbol_token place (symbol_len (b ∷ bs)))
