-- The tokens of a text, as a relation between its bytes and tokens with spans and places.
use Rattle.std.specs.Prelude.{◌≡◌, ℕ, ◌+◌, ◌<◌, List, [], ◌∷◌, length, drop, Option, None, Some, Result, Ok, Err}
use Rattle.yt_lexer.specs.Places.{place_of}
use Rattle.yt_lexer.specs.First.{blank_len, first_token}
use Rattle.yt_lexer.specs.declared.token.Token.{Token}
use Rattle.yt_lexer.specs.declared.token.LexFault.{LexFault}
use Rattle.yt_lexer.specs.declared.token.LexFault.TheVariants.{BadByte, LongName, BigNumber, Memory}

-- how many bytes stand before the next token, or before the fault or the end where there is none
abbrev pub next_from : List ℕ → ℕ → ℕ
next_from text at = at + blank_len (drop at text)

-- the longest token that begins at this byte
pub record IsTokenAt (text : List ℕ) (at : ℕ) (token : Token) : Type 0 where
  pub begins : token.from ≡ at
  pub more : token.from < length text
  pub placed : token.place ≡ place_of text token.from
  pub len : ℕ
  pub read : first_token token.place (drop token.from text) ≡ Ok (token.kind, len)
  pub ends : token.to ≡ token.from + len

-- the fault at this byte
pub record IsFaultAt (text : List ℕ) (at : ℕ) (fault : LexFault) : Type 0 where
  pub more : at < length text
  pub read : first_token (place_of text at) (drop at text) ≡ Err fault

-- no token comes from here on: the text ends, or there's a fault
abbrev pub EndsIn : List ℕ → ℕ → Option LexFault → Type 0
EndsIn text at None = next_from text at ≡ length text
EndsIn text at (Some fault) = IsFaultAt text (next_from text at) fault

-- from here on the text has these tokens, and then it ends or has a fault
abbrev pub Lexes : List ℕ → ℕ → List Token → Option LexFault → Type 0
Lexes text at [] end = EndsIn text at end
Lexes text at (t ∷ ts) end = IsTokenAt text (next_from text at) t × Lexes text t.to ts end

-- want of memory, or the first fault of the text
abbrev pub IsFirstFault : List ℕ → LexFault → Type 0
IsFirstFault text Memory = Unit {0}
IsFirstFault text (BadByte p) = (front : List Token) × Lexes text 0 front (Some (BadByte p))
IsFirstFault text (LongName p) = (front : List Token) × Lexes text 0 front (Some (LongName p))
IsFirstFault text (BigNumber p) = (front : List Token) × Lexes text 0 front (Some (BigNumber p))

-- the answer has these tokens where the text ends behind them, and else the fault; or memory ran out
abbrev pub Gives : Result (List Token) LexFault → List Token → Option LexFault → Type 0
Gives (Ok told) tokens end = (told ≡ tokens) × (end ≡ None)
Gives (Err Memory) tokens end = Unit {0}
Gives (Err (BadByte p)) tokens end = end ≡ Some (BadByte p)
Gives (Err (LongName p)) tokens end = end ≡ Some (LongName p)
Gives (Err (BigNumber p)) tokens end = end ≡ Some (BigNumber p)
