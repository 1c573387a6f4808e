-- What tokens may be, said of parts and put together.
use Rattle.std.specs.Prelude.{◌≡◌, List, [], ◌∷◌, ◌++◌}
use Rattle.yt_graph.specs.declared.ast.Word.{Word}
use Rattle.yt_graph.specs.declared.ast.Num.{Num}
use Rattle.yt_grammar.specs.declared.sign.Keyword.{Keyword}
use Rattle.yt_grammar.specs.declared.sign.Mark.{Mark}
use Rattle.yt_grammar.specs.declared.sign.Mark.TheVariants.{LeftBrace, RightBrace, LeftParen, RightParen, Comma}
use Rattle.yt_grammar.specs.Lexemes.{Lexeme, word, key, mark, digits, Tok}

infixr 5 ◌▹◌
-- a property of lists of tokens
abbrev pub Form : Type 1
Form = List Tok → Type 0

-- no token
abbrev pub nothing : Form
nothing ts = ts ≡ []

-- one form, and then another
abbrev pub ◌▹◌ : Form → Form → Form
◌▹◌ p q ts = (a b : List Tok) × (ts ≡ a ++ b) × p a × q b

-- one token that says this, wherever it stands
abbrev pub says : Lexeme → Form
says l ts = (t : Tok) × (ts ≡ t ∷ []) × (t.says ≡ l)

-- a reserved word
abbrev pub keyword : Keyword → Form
keyword k = says (key k)

-- a symbol
abbrev pub symbol : Mark → Form
symbol m = says (mark m)

-- a name, at its place
abbrev pub named : Word → Form
named w ts = ts ≡ (record { says = word w.text; place = w.place }) ∷ []

-- a number, at its place
abbrev pub counted : Num → Form
counted n ts = ts ≡ (record { says = digits n.value; place = n.place }) ∷ []

-- a form for each item, one after another
abbrev pub each : {X : Type 0} → (X → Form) → List X → Form
each f [] = nothing
each f (x ∷ xs) = f x ▹ each f xs

-- a form for each item, with commas between them
abbrev pub listed : {X : Type 0} → (X → Form) → List X → Form
listed f [] = nothing
listed f (x ∷ xs) = f x ▹ each (λ y. symbol Comma ▹ f y) xs

-- a form in braces
abbrev pub braces : Form → Form
braces f = symbol LeftBrace ▹ f ▹ symbol RightBrace

-- a form in parentheses
abbrev pub parens : Form → Form
parens f = symbol LeftParen ▹ f ▹ symbol RightParen
