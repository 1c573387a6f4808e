-- What the first of the tokens says, as the parser's cursor keeps it, and tokens that lie in their text.
use Rattle.std.specs.Prelude.{ℕ, ◌≤◌, nat_eq, Bool, false, List, [], ◌∷◌, length, Option, None, Some, if◌then◌else◌}
use Rattle.yt_graph.specs.declared.place.Place.{Place}
use Rattle.yt_graph.specs.declared.expr.Op2.{Op2}
use Rattle.yt_lexer.specs.declared.token.Token.{Token}
use Rattle.yt_grammar.specs.declared.sign.Keyword.{Keyword}
use Rattle.yt_grammar.specs.declared.sign.Mark as declared_mark
use Rattle.yt_parser.specs.declared.cursor.Sign.{Sign}
use Rattle.yt_parser.specs.declared.cursor.Sign.TheVariants.{End, Word, Key, Mark, Number}
use Rattle.yt_grammar.specs.Lexemes.{Lexeme, word, key, mark, digits, Tok, keyword_number, mark_number}
use Rattle.yt_grammar.specs.Grammar.{op_rank}
use Rattle.yt_grammar.specs.Inside.Reading.{op_in}

-- the sign of what a token says
abbrev pub lexeme_sign : Lexeme → Sign
lexeme_sign (word bytes) = Word
lexeme_sign (key k) = Key k
lexeme_sign (mark m) = Mark m
lexeme_sign (digits n) = Number n

-- the sign of the first token, or of the end
abbrev pub sign_of : List Tok → Sign
sign_of [] = End
sign_of (t ∷ ts) = lexeme_sign t.says

-- whether a sign is this reserved word
abbrev pub sign_is_key : Keyword → Sign → Bool
sign_is_key k (Key j) = nat_eq (keyword_number k) (keyword_number j)
sign_is_key k End = false
sign_is_key k Word = false
sign_is_key k (Mark m) = false
sign_is_key k (Number n) = false

-- whether a sign is this symbol
abbrev pub sign_is_mark : declared_mark.Mark → Sign → Bool
sign_is_mark m (Mark j) = nat_eq (mark_number m) (mark_number j)
sign_is_mark m End = false
sign_is_mark m Word = false
sign_is_mark m (Key k) = false
sign_is_mark m (Number n) = false

-- the operator that a sign is
abbrev pub sign_op : Sign → Option Op2
sign_op (Key k) = op_in (key k)
sign_op (Mark m) = op_in (mark m)
sign_op End = None
sign_op Word = None
sign_op (Number n) = None

-- an operator, where it binds just so loosely
abbrev pub op_of_rank : ℕ → Option Op2 → Option Op2
op_of_rank rank None = None
op_of_rank rank (Some op) = if nat_eq (op_rank op) rank then Some op else None

-- the place of the first token, where there is one
abbrev pub place_next : List Tok → Option Place
place_next [] = None
place_next (t ∷ ts) = Some t.place

-- the slice of a token lies in the text
abbrev pub IsSpan : List ℕ → Token → Type 0
IsSpan text t = (t.from ≤ t.to) × (t.to ≤ length text)

-- the slices of all these tokens lie in the text
abbrev pub AreSpans : List ℕ → List Token → Type 0
AreSpans text [] = Unit {0}
AreSpans text (t ∷ ts) = IsSpan text t × AreSpans text ts
