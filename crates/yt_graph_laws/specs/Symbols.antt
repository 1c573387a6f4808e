-- The symbols of a text are the marks of the grammar, each read whole.
use Rattle.std.specs.Prelude.{◌≡◌, ℕ, ◌≤◌, List, ◌++◌, length, Ok}
use Rattle.yt_graph.specs.declared.place.Place.{Place}
use Rattle.yt_grammar.specs.declared.sign.Mark.{Mark}
use Rattle.yt_grammar.specs.Lexemes.{mark_text}
use Rattle.yt_lexer.specs.declared.token.TokenKind.TheVariants.{Symbol}
use Rattle.yt_lexer.specs.First.{first_token}

-- in front of these bytes no longer mark stands than this one, which stands there
abbrev pub IsLongest : Mark → List ℕ → Type 0
IsLongest mark rest = (other : Mark) (behind : List ℕ) → mark_text mark ++ rest ≡ mark_text other ++ behind → length (mark_text other) ≤ length (mark_text mark)

-- the longest mark in front of a text is its token
abbrev pub SymbolsAreMarks : Type 0
SymbolsAreMarks =
    (place : Place) (mark : Mark) (rest : List ℕ) → IsLongest mark rest → first_token place (mark_text mark ++ rest) ≡ Ok (Symbol, length (mark_text mark))

-- a mark stands in front of a text, and has so many bytes
pub record IsMark (text : List ℕ) (len : ℕ) : Type 0 where
  pub mark : Mark
  pub rest : List ℕ
  pub parts : text ≡ mark_text mark ++ rest
  pub count : len ≡ length (mark_text mark)

-- each symbol in front of a text is a mark
abbrev pub SymbolsAreOnlyMarks : Type 0
SymbolsAreOnlyMarks = (place : Place) (text : List ℕ) (len : ℕ) → first_token place text ≡ Ok (Symbol, len) → IsMark text len
