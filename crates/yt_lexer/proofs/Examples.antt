-- The tokens of two small texts, by the definition.
use Rattle.std.proofs.Common.{[], ◌∷◌, Some, None, refl, arith}
use Rattle.std.specs.Prelude.{pos, codes}
use Rattle.yt_lexer.specs.First.{word_token, number_token, first_token}
use Rattle.yt_lexer.specs.Lexes.{Lexes}
use Rattle.yt_lexer.specs.declared.token.TokenKind.TheVariants.{Word, Key, Number}
use Rattle.yt_lexer.specs.declared.token.LexFault.TheVariants.{BadByte}

-- the reserved word and the number of `in 7`
two_tokens : Lexes (codes "in 7") 0 ((record { kind = Key; from = 0; to = 2; place = record { line = 1; col = 1 } }) ∷ (record { kind = Number (pos 7); from = 3; to = 4; place = record { line = 1; col = 4 } }) ∷ []) None
unfolding word_token number_token first_token
two_tokens = (
  record { begins = refl; more = omega arith; placed = refl; len = 2; read = refl; ends = refl },
  (record { begins = refl; more = omega arith; placed = refl; len = 1; read = refl; ends = refl }, refl),
)

-- behind a word, a comment and a line feed comes a byte that begins no token
bad_byte : Lexes (codes "a# b\n !") 0 ((record { kind = Word; from = 0; to = 1; place = record { line = 1; col = 1 } }) ∷ []) (Some (BadByte (record { line = 2; col = 2 })))
unfolding word_token number_token first_token
bad_byte = (
  record { begins = refl; more = omega arith; placed = refl; len = 1; read = refl; ends = refl },
  record { more = omega arith; read = refl },
)
