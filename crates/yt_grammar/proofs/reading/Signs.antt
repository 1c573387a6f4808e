-- What the tests of the first token tell.
use Rattle.std.proofs.Common.{◌≡◌, true, nat_eq, List, ◌∷◌, ◌++◌, get_or, refl, sym, ap, ◌∙◌, subst, eqb-true, eq-eqb}
use Rattle.yt_graph.specs.declared.place.Place.{Place}
use Rattle.yt_graph.specs.declared.ast.Word.{Word}
use Rattle.yt_grammar.specs.declared.sign.Keyword.{Keyword}
use Rattle.yt_grammar.specs.declared.sign.Keyword.TheVariants.{Input, Output, Resource, Process, In, Var, Port, From, Out, Every, Period, Let, Send, If, Else, Repeat, Max, And, Or, Not, Burst, Within, Native, Cost, Node, Link, Delay}
use Rattle.yt_grammar.specs.declared.sign.Mark.{Mark}
use Rattle.yt_grammar.specs.declared.sign.Mark.TheVariants.{LeftBrace, RightBrace, LeftParen, RightParen, Comma, Dot, Assign, Plus, Minus, Star, Slash, Percent, Less, LessEqual, Greater, GreaterEqual, Equal, NotEqual}
use Rattle.yt_grammar.specs.Lexemes.{Lexeme, word, key, mark, digits, Tok, keyword_number, mark_number, all_keywords, all_marks}
use Rattle.yt_grammar.specs.Forms.{Form, ◌▹◌, says, named}
use Rattle.yt_grammar.specs.Inside.Reading.{at_key, at_mark, at_word}
use Rattle.yt_grammar.proofs.reading.Heads.{LooksAhead, looks_ahead}

-- a reserved word is the one at its number
keyword_back : (k : Keyword) → get_or all_keywords (keyword_number k) Delay ≡ k
keyword_back Input = refl
keyword_back Output = refl
keyword_back Resource = refl
keyword_back Process = refl
keyword_back In = refl
keyword_back Var = refl
keyword_back Port = refl
keyword_back From = refl
keyword_back Out = refl
keyword_back Every = refl
keyword_back Period = refl
keyword_back Let = refl
keyword_back Send = refl
keyword_back If = refl
keyword_back Else = refl
keyword_back Repeat = refl
keyword_back Max = refl
keyword_back And = refl
keyword_back Or = refl
keyword_back Not = refl
keyword_back Burst = refl
keyword_back Within = refl
keyword_back Native = refl
keyword_back Cost = refl
keyword_back Node = refl
keyword_back Link = refl
keyword_back Delay = refl

-- a symbol is the one at its number
mark_back : (m : Mark) → get_or all_marks (mark_number m) NotEqual ≡ m
mark_back LeftBrace = refl
mark_back RightBrace = refl
mark_back LeftParen = refl
mark_back RightParen = refl
mark_back Comma = refl
mark_back Dot = refl
mark_back Assign = refl
mark_back Plus = refl
mark_back Minus = refl
mark_back Star = refl
mark_back Slash = refl
mark_back Percent = refl
mark_back Less = refl
mark_back LessEqual = refl
mark_back Greater = refl
mark_back GreaterEqual = refl
mark_back Equal = refl
mark_back NotEqual = refl

-- reserved words of the same number are the same
pub same_keyword : (k j : Keyword) → nat_eq (keyword_number k) (keyword_number j) ≡ true → k ≡ j
same_keyword k j h = sym (keyword_back k) ∙ ap (λ n. get_or all_keywords n Delay) (eqb-true (keyword_number k) (keyword_number j) h) ∙ keyword_back j

-- each has its own number
pub keyword_itself : (k : Keyword) → nat_eq (keyword_number k) (keyword_number k) ≡ true
keyword_itself k = eq-eqb (keyword_number k) (keyword_number k) refl

-- symbols of the same number are the same
pub same_mark : (m j : Mark) → nat_eq (mark_number m) (mark_number j) ≡ true → m ≡ j
same_mark m j h = sym (mark_back m) ∙ ap (λ n. get_or all_marks n NotEqual) (eqb-true (mark_number m) (mark_number j) h) ∙ mark_back j

-- each has its own number
pub mark_itself : (m : Mark) → nat_eq (mark_number m) (mark_number m) ≡ true
mark_itself m = eq-eqb (mark_number m) (mark_number m) refl

-- a token that says this, at a place
abbrev pub tok_at : Lexeme → Place → Tok
tok_at l p = record { says = l; place = p }

-- a token is what it says, at its place
pub tok_is : (t : Tok) (l : Lexeme) → t.says ≡ l → t ≡ tok_at l t.place
tok_is t l e = ap (λ x. tok_at x t.place) e

-- the first token is a reserved word where the test says so
at_key_tells : (k : Keyword) (l : Lexeme) (p : Place) (ts : List Tok) → at_key k (tok_at l p ∷ ts) ≡ true → l ≡ key k
at_key_tells k (word w) p ts h = absurd cc
at_key_tells k (key j) p ts h = ap key (sym (same_keyword k j h))
at_key_tells k (mark m) p ts h = absurd cc
at_key_tells k (digits n) p ts h = absurd cc

-- so of any token
pub at_key_says : (k : Keyword) (t : Tok) (ts : List Tok) → at_key k (t ∷ ts) ≡ true → t.says ≡ key k
at_key_says k t ts h = at_key_tells k t.says t.place ts h

-- and the test passes there
pub says_at_key : (k : Keyword) (t : Tok) (ts : List Tok) → t.says ≡ key k → at_key k (t ∷ ts) ≡ true
says_at_key k t ts e = ap (λ u. at_key k (u ∷ ts)) (tok_is t (key k) e) ∙ keyword_itself k

-- the first token is a symbol where the test says so
at_mark_tells : (m : Mark) (l : Lexeme) (p : Place) (ts : List Tok) → at_mark m (tok_at l p ∷ ts) ≡ true → l ≡ mark m
at_mark_tells m (word w) p ts h = absurd cc
at_mark_tells m (key k) p ts h = absurd cc
at_mark_tells m (mark j) p ts h = ap mark (sym (same_mark m j h))
at_mark_tells m (digits n) p ts h = absurd cc

-- so of any token
pub at_mark_says : (m : Mark) (t : Tok) (ts : List Tok) → at_mark m (t ∷ ts) ≡ true → t.says ≡ mark m
at_mark_says m t ts h = at_mark_tells m t.says t.place ts h

-- and the test passes there
pub says_at_mark : (m : Mark) (t : Tok) (ts : List Tok) → t.says ≡ mark m → at_mark m (t ∷ ts) ≡ true
says_at_mark m t ts e = ap (λ u. at_mark m (u ∷ ts)) (tok_is t (mark m) e) ∙ mark_itself m

-- tokens begin with one that says this
abbrev pub BeginsWith : Lexeme → List Tok → Type 0
BeginsWith l s = (p : Place) × (ts : List Tok) × (s ≡ tok_at l p ∷ ts)

-- what begins with a part that says this
pub first_is : (l : Lexeme) (f : Form) (w rest : List Tok) → (says l ▹ f) w → BeginsWith l (w ++ rest)
first_is l f w rest k = (
  k.3.0.place,
  k.1 ++ rest,
  ap (λ v. v ++ rest) k.2 ∙ ap (λ v. (v ++ k.1) ++ rest) k.3.1 ∙ ap (λ t. t ∷ (k.1 ++ rest)) (tok_is k.3.0 l k.3.2),
)

-- what begins with one token that says this
pub one_is : (l : Lexeme) (w rest : List Tok) → says l w → BeginsWith l (w ++ rest)
one_is l w rest k = (k.0.place, rest, ap (λ v. v ++ rest) k.1 ∙ ap (λ t. t ∷ rest) (tok_is k.0 l k.2))

-- a name is a word
pub named_says : (w : Word) (ts : List Tok) → named w ts → says (word w.text) ts
named_says w ts e = (tok_at (word w.text) w.place, e, refl)

-- what begins with a name and more
pub first_named : (w : Word) (f : Form) (v rest : List Tok) → (named w ▹ f) v → BeginsWith (word w.text) (v ++ rest)
first_named w f v rest k = first_is (word w.text) f v rest (k.0, k.1, k.2, named_says w k.0 k.3, k.4)

-- what begins with a name
pub one_named : (w : Word) (v rest : List Tok) → named w v → BeginsWith (word w.text) (v ++ rest)
one_named w v rest k = one_is (word w.text) v rest (named_says w v k)

-- what holds of all tokens that begin with such a one
pub begins_follows : (follows : List Tok → Type 0) (l : Lexeme) → ((p : Place) (ts : List Tok) → follows (tok_at l p ∷ ts)) → (s : List Tok) → BeginsWith l s → follows s
begins_follows follows l h s k = subst follows (sym k.2) (h k.0 k.1)

-- so behind one token
pub one_follows : (follows : List Tok → Type 0) (l : Lexeme) → ((p : Place) (ts : List Tok) → follows (tok_at l p ∷ ts)) → (b rest : List Tok) → says l b → follows (b ++ rest)
one_follows follows l h b rest k = begins_follows follows l h (b ++ rest) (one_is l b rest k)

-- so behind a first token and more
pub first_follows : (follows : List Tok → Type 0) (l : Lexeme) → ((p : Place) (ts : List Tok) → follows (tok_at l p ∷ ts)) → (f : Form) (b rest : List Tok) → (says l ▹ f) b → follows (b ++ rest)
first_follows follows l h f b rest k = begins_follows follows l h (b ++ rest) (first_is l f b rest k)

-- these tests look at the first token only
pub at_key_ahead : (k : Keyword) → LooksAhead (at_key k)
at_key_ahead k = looks_ahead (at_key k) (λ t ts us. refl)

-- so does that of a symbol
pub at_mark_ahead : (m : Mark) → LooksAhead (at_mark m)
at_mark_ahead m = looks_ahead (at_mark m) (λ t ts us. refl)

-- and that of a name
pub at_word_ahead : LooksAhead at_word
at_word_ahead = looks_ahead at_word (λ t ts us. refl)
