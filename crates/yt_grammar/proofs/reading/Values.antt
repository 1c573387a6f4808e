-- The law of reading the values of a send.
use Rattle.std.proofs.Common.{◌≡◌, false, List, [], ◌∷◌, ◌++◌, refl, ap}
use Rattle.yt_graph.specs.AstPicture.{AstExprTree, number, name, minus, negation, two_sides, paren, call_of, AstExprsTree, no_values, more_values}
use Rattle.yt_grammar.specs.declared.sign.Keyword.TheVariants as keys
use Rattle.yt_grammar.specs.declared.sign.Mark.TheVariants.{LeftParen, RightParen, Comma, Minus}
use Rattle.yt_grammar.specs.Lexemes.{Tok, word, key, mark, digits}
use Rattle.yt_grammar.specs.Forms.{Form, ◌▹◌, says, symbol, each, listed, parens}
use Rattle.yt_grammar.specs.Grammar.{expr_form, args_form, within, right_rank, op_lexeme, value_form, more_values_form, values_form}
use Rattle.yt_grammar.specs.Inside.Reading.{got, choice, one_or_more, at_mark, in_parens, exprs_of, value_reader, values_reader}
use Rattle.yt_grammar.proofs.reading.Lawful.{Lawful}
use Rattle.yt_grammar.proofs.reading.Follows.{NotContinued}
use Rattle.yt_grammar.proofs.reading.Heads.{front_holds, group_left, group_right, second_as, first_as}
use Rattle.yt_grammar.proofs.reading.Signs.{BeginsWith, first_is, one_is, first_named, one_named, begins_follows}
use Rattle.yt_grammar.proofs.reading.Singles.{Any}
use Rattle.yt_grammar.proofs.reading.Sequences.{made_as, in_parens_lawful}
use Rattle.yt_grammar.proofs.reading.Repeats.{listed_lawful}
use Rattle.yt_grammar.proofs.reading.Exprs.{value_lawful}

-- no expression begins with `)`
abbrev NoParen : List Tok → Type 0
NoParen s = at_mark RightParen s ≡ false

-- so of each, by its first token
pub expr_starts : (e : AstExprTree) (w rest : List Tok) → expr_form e w → at_mark RightParen (w ++ rest) ≡ false
expr_starts (number n) w rest c = begins_follows NoParen (digits n) (λ p ts. refl) (w ++ rest) (one_is (digits n) w rest c)
expr_starts (name x) w rest c = begins_follows NoParen (word x.text) (λ p ts. refl) (w ++ rest) (one_named x w rest c)
expr_starts (minus e) w rest c = begins_follows NoParen (mark Minus) (λ p ts. refl) (w ++ rest) (first_is (mark Minus) (within 1 e (expr_form e)) w rest c)
expr_starts (negation e) w rest c = begins_follows NoParen (key keys.Not) (λ p ts. refl) (w ++ rest) (first_is (key keys.Not) (within 5 e (expr_form e)) w rest c)
expr_starts (two_sides op l r) w rest c =
    front_holds NoParen (expr_form l) (says (op_lexeme op) ▹ within (right_rank op) r (expr_form r)) (expr_starts l) w rest (c.0, c.1, c.2, c.3.1, c.4)
expr_starts (paren e) w rest c = begins_follows NoParen (mark LeftParen) (λ p ts. refl) (w ++ rest) (first_is (mark LeftParen) (expr_form e ▹ symbol RightParen) w rest c)
expr_starts (call_of x args) w rest c = begins_follows NoParen (word x.text) (λ p ts. refl) (w ++ rest) (first_named x (parens (args_form args)) w rest c)

-- expressions as a list
abbrev pub list_of : AstExprsTree → List AstExprTree
list_of no_values = []
list_of (more_values e rest) = e ∷ list_of rest

-- a tree is the one of its list
pub list_back : (es : AstExprsTree) → es ≡ exprs_of (list_of es)
list_back no_values = refl
list_back (more_values e rest) = ap (more_values e) (list_back rest)

-- values behind commas, from the list
more_there : (es : List AstExprTree) (w : List Tok) → each (λ e. symbol Comma ▹ value_form e) es w → more_values_form (exprs_of es) w
more_there [] w c = c
more_there (e ∷ es) w c =
    group_right (symbol Comma) (value_form e) (more_values_form (exprs_of es)) w
    (second_as (symbol Comma ▹ value_form e) (each (λ x. symbol Comma ▹ value_form x) es) (more_values_form (exprs_of es)) (more_there es) w c)

-- and back
more_back : (es : AstExprsTree) (w : List Tok) → more_values_form es w → each (λ e. symbol Comma ▹ value_form e) (list_of es) w
more_back no_values w c = c
more_back (more_values e rest) w c =
    second_as (symbol Comma ▹ value_form e) (more_values_form rest) (each (λ x. symbol Comma ▹ value_form x) (list_of rest)) (more_back rest) w
    (group_left (symbol Comma) (value_form e) (more_values_form rest) w c)

-- values with commas between them, from the list
values_there : (es : List AstExprTree) (w : List Tok) → listed value_form es w → values_form (exprs_of es) w
values_there [] w c = c
values_there (e ∷ es) w c = second_as (value_form e) (each (λ x. symbol Comma ▹ value_form x) es) (more_values_form (exprs_of es)) (more_there es) w c

-- and back
values_back : (es : AstExprsTree) (w : List Tok) → values_form es w → listed value_form (list_of es) w
values_back no_values w c = c
values_back (more_values e rest) w c = second_as (value_form e) (more_values_form rest) (each (λ x. symbol Comma ▹ value_form x) (list_of rest)) (more_back rest) w c

-- another form in parentheses
pub parens_as : (l m : Form) → ((w : List Tok) → l w → m w) → (w : List Tok) → parens l w → parens m w
parens_as l m h w c = second_as (symbol LeftParen) (l ▹ symbol RightParen) (m ▹ symbol RightParen) (first_as l m (symbol RightParen) h) w c

-- the law of the values of a send
pub values_lawful : Lawful values_reader (λ es. parens (values_form es)) Any
values_lawful =
    made_as exprs_of (in_parens (choice (at_mark RightParen) (got []) (one_or_more value_reader))) (λ es. parens (listed value_form es)) Any
    (in_parens_lawful (choice (at_mark RightParen) (got []) (one_or_more value_reader)) (listed value_form) (BeginsWith (mark RightParen))
    (listed_lawful value_reader value_form (NotContinued 7) value_lawful
    (λ p ts. record { no_paren = refl; no_operator = tt })
    (λ p ts. record { no_paren = refl; no_operator = tt })
    (λ e w rest c. expr_starts e w rest c.1))
    (λ p ts. (p, ts, refl)))
    (λ es. parens (values_form es))
    (λ es w c. parens_as (listed value_form es) (values_form (exprs_of es)) (values_there es) w c)
    (λ es w c. (list_of es, list_back es, parens_as (values_form es) (listed value_form (list_of es)) (values_back es) w c))
