-- How reserved words and symbols are read, case by case.
use Rattle.std.proofs.Common.{ℕ, ◌≡◌, List, [], ◌∷◌, ◌++◌, length, Bool, true, false, ◌&&◌, refl, arith}
use Rattle.std.proofs.lemmas.Grind.{common_steps}
use Rattle.std.specs.Prelude.{◌==◌, nat_le}
use Rattle.std.specs.List.{list_all}
use Rattle.yt_graph.specs.Names.{begins_as_word}
use Rattle.yt_lexer.specs.First.{is_blank, is_letter, is_digit, is_word_byte, is_reserved, symbol_len, is_symbol, takes_equals}
use Rattle.yt_grammar.specs.declared.sign.Keyword.{Keyword}
use Rattle.yt_grammar.specs.declared.sign.Keyword.TheVariants.{Input, Output, Resource, Process, In, Var, Port, From, Out, Every, Period, Let, Send, If, Else, Repeat, Max, And, Or, Not, Burst, Within, Native, Cost, Node, Link, Delay}
use Rattle.yt_grammar.specs.declared.sign.Mark.{Mark}
use Rattle.yt_grammar.specs.declared.sign.Mark.TheVariants.{LeftBrace, RightBrace, LeftParen, RightParen, Comma, Dot, Assign, Plus, Minus, Star, Slash, Percent, Less, LessEqual, Greater, GreaterEqual, Equal, NotEqual}
use Rattle.yt_grammar.specs.Lexemes.{keyword_text, mark_text, keyword_of, mark_of}

-- a test of the first byte, which the empty list fails
abbrev pub first_passes : (ℕ → Bool) → List ℕ → Bool
first_passes p [] = false
first_passes p (b ∷ bs) = p b

-- bytes that a word of the text can be
abbrev pub is_plain : List ℕ → Bool
is_plain w = begins_as_word w && (list_all is_word_byte w && nat_le (length w) 32)

-- what is known of a reserved word's bytes
pub record IsKey (k : Keyword) : Type 0 where
  pub plain : is_plain (keyword_text k) ≡ true
  pub reserved : is_reserved (keyword_text k) ≡ true
  pub means : keyword_of (keyword_text k) ≡ k

pub is_key : (k : Keyword) → IsKey k
is_key Input = record { plain = refl; reserved = refl; means = refl }
is_key Output = record { plain = refl; reserved = refl; means = refl }
is_key Resource = record { plain = refl; reserved = refl; means = refl }
is_key Process = record { plain = refl; reserved = refl; means = refl }
is_key In = record { plain = refl; reserved = refl; means = refl }
is_key Var = record { plain = refl; reserved = refl; means = refl }
is_key Port = record { plain = refl; reserved = refl; means = refl }
is_key From = record { plain = refl; reserved = refl; means = refl }
is_key Out = record { plain = refl; reserved = refl; means = refl }
is_key Every = record { plain = refl; reserved = refl; means = refl }
is_key Period = record { plain = refl; reserved = refl; means = refl }
is_key Let = record { plain = refl; reserved = refl; means = refl }
is_key Send = record { plain = refl; reserved = refl; means = refl }
is_key If = record { plain = refl; reserved = refl; means = refl }
is_key Else = record { plain = refl; reserved = refl; means = refl }
is_key Repeat = record { plain = refl; reserved = refl; means = refl }
is_key Max = record { plain = refl; reserved = refl; means = refl }
is_key And = record { plain = refl; reserved = refl; means = refl }
is_key Or = record { plain = refl; reserved = refl; means = refl }
is_key Not = record { plain = refl; reserved = refl; means = refl }
is_key Burst = record { plain = refl; reserved = refl; means = refl }
is_key Within = record { plain = refl; reserved = refl; means = refl }
is_key Native = record { plain = refl; reserved = refl; means = refl }
is_key Cost = record { plain = refl; reserved = refl; means = refl }
is_key Node = record { plain = refl; reserved = refl; means = refl }
is_key Link = record { plain = refl; reserved = refl; means = refl }
is_key Delay = record { plain = refl; reserved = refl; means = refl }

-- the bytes can stand behind a symbol: `=` behind none that it would make a longer one of
abbrev pub StopsMark : Mark → List ℕ → Type 0
StopsMark Assign more = first_passes (λ b. b == 61) more ≡ false
StopsMark Less more = first_passes (λ b. b == 61) more ≡ false
StopsMark Greater more = first_passes (λ b. b == 61) more ≡ false
StopsMark m more = Unit {0}

-- a symbol of one byte
one_byte : (b : ℕ) (more : List ℕ) → is_symbol b ≡ true → takes_equals b ≡ false → symbol_len (b ∷ more) ≡ 1
one_byte b [] h k = grind (arith, common_steps)
one_byte b (c ∷ cs) h k = grind (arith, common_steps)

-- a symbol of one byte in front of no `=`
one_byte_apart : (b : ℕ) (more : List ℕ) → is_symbol b ≡ true → first_passes (λ c. c == 61) more ≡ false → symbol_len (b ∷ more) ≡ 1
one_byte_apart b [] h k = grind (arith, common_steps)
one_byte_apart b (c ∷ cs) h k = rw k (grind (arith, common_steps))

-- the longest symbol in front is this one
pub symbol_len-mark : (m : Mark) (more : List ℕ) → StopsMark m more → symbol_len (mark_text m ++ more) ≡ length (mark_text m)
symbol_len-mark LeftBrace more h = one_byte 123 more refl refl
symbol_len-mark RightBrace more h = one_byte 125 more refl refl
symbol_len-mark LeftParen more h = one_byte 40 more refl refl
symbol_len-mark RightParen more h = one_byte 41 more refl refl
symbol_len-mark Comma more h = one_byte 44 more refl refl
symbol_len-mark Dot more h = one_byte 46 more refl refl
symbol_len-mark Assign more h = one_byte_apart 61 more refl h
symbol_len-mark Plus more h = one_byte 43 more refl refl
symbol_len-mark Minus more h = one_byte 45 more refl refl
symbol_len-mark Star more h = one_byte 42 more refl refl
symbol_len-mark Slash more h = one_byte 47 more refl refl
symbol_len-mark Percent more h = one_byte 37 more refl refl
symbol_len-mark Less more h = one_byte_apart 60 more refl h
symbol_len-mark LessEqual more h = refl
symbol_len-mark Greater more h = one_byte_apart 62 more refl h
symbol_len-mark GreaterEqual more h = refl
symbol_len-mark Equal more h = refl
symbol_len-mark NotEqual more h = refl

-- what is known of a symbol's bytes
pub record IsMark (m : Mark) : Type 0 where
  pub first : ℕ
  pub rest : List ℕ
  pub bytes : mark_text m ≡ first ∷ rest
  pub solid : is_blank false first ≡ false
  pub letter : is_letter first ≡ false
  pub digit : is_digit first ≡ false
  pub means : mark_of (mark_text m) ≡ m

pub is_mark : (m : Mark) → IsMark m
is_mark LeftBrace = record { first = 123; rest = []; bytes = refl; solid = refl; letter = refl; digit = refl; means = refl }
is_mark RightBrace = record { first = 125; rest = []; bytes = refl; solid = refl; letter = refl; digit = refl; means = refl }
is_mark LeftParen = record { first = 40; rest = []; bytes = refl; solid = refl; letter = refl; digit = refl; means = refl }
is_mark RightParen = record { first = 41; rest = []; bytes = refl; solid = refl; letter = refl; digit = refl; means = refl }
is_mark Comma = record { first = 44; rest = []; bytes = refl; solid = refl; letter = refl; digit = refl; means = refl }
is_mark Dot = record { first = 46; rest = []; bytes = refl; solid = refl; letter = refl; digit = refl; means = refl }
is_mark Assign = record { first = 61; rest = []; bytes = refl; solid = refl; letter = refl; digit = refl; means = refl }
is_mark Plus = record { first = 43; rest = []; bytes = refl; solid = refl; letter = refl; digit = refl; means = refl }
is_mark Minus = record { first = 45; rest = []; bytes = refl; solid = refl; letter = refl; digit = refl; means = refl }
is_mark Star = record { first = 42; rest = []; bytes = refl; solid = refl; letter = refl; digit = refl; means = refl }
is_mark Slash = record { first = 47; rest = []; bytes = refl; solid = refl; letter = refl; digit = refl; means = refl }
is_mark Percent = record { first = 37; rest = []; bytes = refl; solid = refl; letter = refl; digit = refl; means = refl }
is_mark Less = record { first = 60; rest = []; bytes = refl; solid = refl; letter = refl; digit = refl; means = refl }
is_mark LessEqual = record { first = 60; rest = 61 ∷ []; bytes = refl; solid = refl; letter = refl; digit = refl; means = refl }
is_mark Greater = record { first = 62; rest = []; bytes = refl; solid = refl; letter = refl; digit = refl; means = refl }
is_mark GreaterEqual = record { first = 62; rest = 61 ∷ []; bytes = refl; solid = refl; letter = refl; digit = refl; means = refl }
is_mark Equal = record { first = 61; rest = 61 ∷ []; bytes = refl; solid = refl; letter = refl; digit = refl; means = refl }
is_mark NotEqual = record { first = 33; rest = 61 ∷ []; bytes = refl; solid = refl; letter = refl; digit = refl; means = refl }
