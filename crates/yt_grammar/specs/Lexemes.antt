-- Tokens as the grammar sees them: what each says, and its place.
use Rattle.std.specs.Prelude.{ℕ, ◌-◌, ◌<◌, ◌^◌, IsTrue, List, [], ◌∷◌, map, bytes_eq, codes, take, drop, if◌then◌else◌, ℤ, pos, negsuc}
use Rattle.yt_graph.specs.declared.place.Place.{Place}
use Rattle.yt_graph.specs.Names.{is_name}
use Rattle.yt_lexer.specs.declared.token.Token.{Token}
use Rattle.yt_lexer.specs.declared.token.TokenKind.{TokenKind}
use Rattle.yt_lexer.specs.declared.token.TokenKind.TheVariants.{Word, Key, Number, Symbol}
use Rattle.yt_grammar.specs.declared.sign.Keyword.{Keyword}
use Rattle.yt_grammar.specs.declared.sign.Keyword.TheVariants.{Input, Output, Resource, Process, In, Var, Port, From, Out, Every, Period, Let, Send, If, Else, Repeat, Max, And, Or, Not, Burst, Within, Native, Cost, Node, Link, Delay}
use Rattle.yt_grammar.specs.declared.sign.Mark.{Mark}
use Rattle.yt_grammar.specs.declared.sign.Mark.TheVariants.{LeftBrace, RightBrace, LeftParen, RightParen, Comma, Dot, Assign, Plus, Minus, Star, Slash, Percent, Less, LessEqual, Greater, GreaterEqual, Equal, NotEqual}

-- the bytes of a reserved word
abbrev pub keyword_text : Keyword → List ℕ
keyword_text Input = codes "input"
keyword_text Output = codes "output"
keyword_text Resource = codes "resource"
keyword_text Process = codes "process"
keyword_text In = codes "in"
keyword_text Var = codes "var"
keyword_text Port = codes "port"
keyword_text From = codes "from"
keyword_text Out = codes "out"
keyword_text Every = codes "every"
keyword_text Period = codes "period"
keyword_text Let = codes "let"
keyword_text Send = codes "send"
keyword_text If = codes "if"
keyword_text Else = codes "else"
keyword_text Repeat = codes "repeat"
keyword_text Max = codes "max"
keyword_text And = codes "and"
keyword_text Or = codes "or"
keyword_text Not = codes "not"
keyword_text Burst = codes "burst"
keyword_text Within = codes "within"
keyword_text Native = codes "native"
keyword_text Cost = codes "cost"
keyword_text Node = codes "node"
keyword_text Link = codes "link"
keyword_text Delay = codes "delay"

-- the bytes of a symbol
abbrev pub mark_text : Mark → List ℕ
mark_text LeftBrace = codes "{"
mark_text RightBrace = codes "}"
mark_text LeftParen = codes "("
mark_text RightParen = codes ")"
mark_text Comma = codes ","
mark_text Dot = codes "."
mark_text Assign = codes "="
mark_text Plus = codes "+"
mark_text Minus = codes "-"
mark_text Star = codes "*"
mark_text Slash = codes "/"
mark_text Percent = codes "%"
mark_text Less = codes "<"
mark_text LessEqual = codes "<="
mark_text Greater = codes ">"
mark_text GreaterEqual = codes ">="
mark_text Equal = codes "=="
mark_text NotEqual = codes "!="

-- the number of a reserved word among them, from 0
abbrev pub keyword_number : Keyword → ℕ
keyword_number Input = 0
keyword_number Output = 1
keyword_number Resource = 2
keyword_number Process = 3
keyword_number In = 4
keyword_number Var = 5
keyword_number Port = 6
keyword_number From = 7
keyword_number Out = 8
keyword_number Every = 9
keyword_number Period = 10
keyword_number Let = 11
keyword_number Send = 12
keyword_number If = 13
keyword_number Else = 14
keyword_number Repeat = 15
keyword_number Max = 16
keyword_number And = 17
keyword_number Or = 18
keyword_number Not = 19
keyword_number Burst = 20
keyword_number Within = 21
keyword_number Native = 22
keyword_number Cost = 23
keyword_number Node = 24
keyword_number Link = 25
keyword_number Delay = 26

-- the number of a symbol among them, from 0
abbrev pub mark_number : Mark → ℕ
mark_number LeftBrace = 0
mark_number RightBrace = 1
mark_number LeftParen = 2
mark_number RightParen = 3
mark_number Comma = 4
mark_number Dot = 5
mark_number Assign = 6
mark_number Plus = 7
mark_number Minus = 8
mark_number Star = 9
mark_number Slash = 10
mark_number Percent = 11
mark_number Less = 12
mark_number LessEqual = 13
mark_number Greater = 14
mark_number GreaterEqual = 15
mark_number Equal = 16
mark_number NotEqual = 17

abbrev pub all_keywords : List Keyword
all_keywords = Input ∷ Output ∷ Resource ∷ Process ∷ In ∷ Var ∷ Port ∷ From ∷ Out ∷ Every ∷ Period ∷ Let ∷ Send ∷ If ∷ Else ∷ Repeat ∷ Max ∷ And ∷ Or ∷ Not ∷ Burst ∷ Within ∷ Native ∷ Cost ∷ Node ∷ Link ∷ Delay ∷ []

abbrev pub all_marks : List Mark
all_marks = LeftBrace ∷ RightBrace ∷ LeftParen ∷ RightParen ∷ Comma ∷ Dot ∷ Assign ∷ Plus ∷ Minus ∷ Star ∷ Slash ∷ Percent ∷ Less ∷ LessEqual ∷ Greater ∷ GreaterEqual ∷ Equal ∷ NotEqual ∷ []

-- the first reserved word of the list that has these bytes; the last one of all where there is none
abbrev pub first_keyword : List Keyword → List ℕ → Keyword
first_keyword [] bytes = Delay
first_keyword (k ∷ ks) bytes = if bytes_eq (keyword_text k) bytes then k else first_keyword ks bytes

-- the reserved word of these bytes
abbrev pub keyword_of : List ℕ → Keyword
keyword_of bytes = first_keyword all_keywords bytes

-- the first symbol of the list that has these bytes; the last one of all where there is none
abbrev pub first_mark : List Mark → List ℕ → Mark
first_mark [] bytes = NotEqual
first_mark (m ∷ ms) bytes = if bytes_eq (mark_text m) bytes then m else first_mark ms bytes

-- the symbol of these bytes
abbrev pub mark_of : List ℕ → Mark
mark_of bytes = first_mark all_marks bytes

-- what a token says: a word that isn't reserved, a reserved word, a symbol, or a number
pub data Lexeme : Type 0 where
  word : List ℕ → Lexeme
  key : Keyword → Lexeme
  mark : Mark → Lexeme
  digits : ℤ → Lexeme

-- a token: what it says, and where it stands
pub record Tok : Type 0 where
  pub says : Lexeme
  pub place : Place

-- what a token of such a kind and such bytes says
abbrev pub lexeme_of : TokenKind → List ℕ → Lexeme
lexeme_of Word bytes = word bytes
lexeme_of Key bytes = key (keyword_of bytes)
lexeme_of (Number n) bytes = digits n
lexeme_of Symbol bytes = mark (mark_of bytes)

-- a token of a text
abbrev pub tok_of : List ℕ → Token → Tok
tok_of text t = record { says = lexeme_of t.kind (take (t.to - t.from) (drop t.from text)); place = t.place }

-- the tokens of a text
abbrev pub toks_of : List ℕ → List Token → List Tok
toks_of text tokens = map (tok_of text) tokens

-- what a token can say: names, and numbers from 0 to 2^63 - 1
abbrev pub IsLexeme : Lexeme → Type 0
IsLexeme (word bytes) = IsTrue (is_name bytes)
IsLexeme (key k) = Unit {0}
IsLexeme (mark m) = Unit {0}
IsLexeme (digits (pos n)) = n < 2 ^ 63
IsLexeme (digits (negsuc n)) = ⊥

-- a list of tokens, each of which can stand in a text
abbrev pub AreTokens : List Tok → Type 0
AreTokens [] = Unit {0}
AreTokens (t ∷ ts) = IsLexeme t.says × AreTokens ts
