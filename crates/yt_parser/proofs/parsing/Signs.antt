-- What a sign tells of the tokens that it is the first one's.
use Rattle.std.proofs.Common.{◌≡◌, List, [], ◌∷◌, refl}
use Rattle.yt_grammar.specs.declared.sign.Keyword.{Keyword}
use Rattle.yt_grammar.specs.declared.sign.Mark.{Mark}
use Rattle.yt_grammar.specs.Lexemes.{Lexeme, word, key, mark, digits, Tok}
use Rattle.yt_parser.specs.Inside.Signs.{sign_of, lexeme_sign, sign_is_key, sign_is_mark}
use Rattle.yt_grammar.specs.Inside.Reading.{at_key, at_mark}

key_at : (k : Keyword) (l : Lexeme) (t : Tok) (ts : List Tok) → t.says ≡ l → sign_is_key k (lexeme_sign l) ≡ at_key k (t ∷ ts)
key_at k (word w) t ts e = rw e refl
key_at k (key j) t ts e = rw e refl
key_at k (mark m) t ts e = rw e refl
key_at k (digits n) t ts e = rw e refl

pub sign_is_key-at : (k : Keyword) (s : List Tok) → sign_is_key k (sign_of s) ≡ at_key k s
sign_is_key-at k [] = refl
sign_is_key-at k (t ∷ ts) = key_at k t.says t ts refl

mark_at : (m : Mark) (l : Lexeme) (t : Tok) (ts : List Tok) → t.says ≡ l → sign_is_mark m (lexeme_sign l) ≡ at_mark m (t ∷ ts)
mark_at m (word w) t ts e = rw e refl
mark_at m (key j) t ts e = rw e refl
mark_at m (mark j) t ts e = rw e refl
mark_at m (digits n) t ts e = rw e refl

pub sign_is_mark-at : (m : Mark) (s : List Tok) → sign_is_mark m (sign_of s) ≡ at_mark m s
sign_is_mark-at m [] = refl
sign_is_mark-at m (t ∷ ts) = mark_at m t.says t ts refl
