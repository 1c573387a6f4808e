-- The laws of reading paths, sources, outs, variables and parameters.
use Rattle.std.proofs.Common.{◌≡◌, ℤ, neg_ℤ, inl, inr, true, false, Option, None, Some, List, [], ◌∷◌, ◌++◌, refl, sym, ap, ◌∙◌, subst}
use Rattle.yt_graph.specs.declared.place.Place.{Place}
use Rattle.yt_graph.specs.declared.ast.Word.{Word}
use Rattle.yt_graph.specs.declared.ast.Num.{Num}
use Rattle.yt_graph.specs.declared.ast.Path.{Path}
use Rattle.yt_graph.specs.declared.ast.Source.{Source}
use Rattle.yt_graph.specs.declared.ast.Source.TheVariants.{Input, Out}
use Rattle.yt_graph.specs.declared.ast.VarDecl.{VarDecl}
use Rattle.yt_graph.specs.declared.ast.OutDecl.{OutDecl}
use Rattle.yt_grammar.specs.declared.sign.Keyword.TheVariants as keys
use Rattle.yt_grammar.specs.declared.sign.Mark.TheVariants.{RightParen, Dot, Assign, Minus}
use Rattle.yt_grammar.specs.Lexemes.{Tok, word, key, mark, digits}
use Rattle.yt_grammar.specs.Forms.{Form, ◌▹◌, says, keyword, symbol, named, counted, listed, parens}
use Rattle.yt_grammar.specs.Grammar.{path_form, source_form, every_form, out_form, start_form, var_form}
use Rattle.yt_grammar.specs.Inside.Reading.{Reader, got, and_then, made, both, choice, optional, one_or_more, at_key, at_mark, behind_key, behind_mark, in_parens, word_reader, number_reader, path_reader, source_reader, out_reader, start_reader, var_reader, params_reader}
use Rattle.yt_grammar.proofs.reading.Lawful.{Lawful}
use Rattle.yt_grammar.proofs.reading.Heads.{second_as, drop_nothing, add_nothing}
use Rattle.yt_grammar.proofs.reading.Signs.{tok_at, tok_is, BeginsWith, one_is, one_named, first_follows, begins_follows, at_key_ahead, at_mark_ahead}
use Rattle.yt_grammar.proofs.reading.Singles.{Any, lawful_form, lawful_follows, word_lawful, number_lawful}
use Rattle.yt_grammar.proofs.reading.Sequences.{Then, and_then_lawful, Image, made_lawful, made_as, both_lawful, behind_key_lawful, behind_mark_lawful, in_parens_lawful}
use Rattle.yt_grammar.proofs.reading.Choices.{Either, choice_lawful, Given, given_lawful, Perhaps, Ends, optional_lawful}
use Rattle.yt_grammar.proofs.reading.Repeats.{listed_lawful}

-- a path behind its first word
abbrev path_of : Word → Word × Word → Path
path_of w r = record { process = w; port = r.0; out = r.1 }

-- its tokens behind that word
abbrev PathParts : Word × Word → Form
PathParts r = symbol Dot ▹ named r.0 ▹ symbol Dot ▹ named r.1

-- the path behind that word
abbrev PathFrom : Word → Path → Form
PathFrom w = Image (path_of w) PathParts

-- the law of a path behind its first word
path_rest_lawful : (w : Word) → Lawful (path_reader w) (PathFrom w) Any
path_rest_lawful w =
    made_lawful (path_of w) (behind_mark Dot (both word_reader (behind_mark Dot word_reader))) PathParts Any
    (behind_mark_lawful Dot (both word_reader (behind_mark Dot word_reader)) (λ r. named r.0 ▹ symbol Dot ▹ named r.1) Any
    (both_lawful word_reader (behind_mark Dot word_reader) named (λ x. symbol Dot ▹ named x) Any Any word_lawful
    (behind_mark_lawful Dot word_reader named Any word_lawful) (λ y b rest c d. tt)))

-- a path
abbrev pub full_path : Reader Path
full_path s = and_then (word_reader s) path_reader

-- a path, from its first word and what is behind it
path_there : (p : Path) (v : List Tok) → Then named PathFrom p v → path_form p v
path_there p v c = subst (λ q. path_form q v) (sym c.1.4.1) (c.1.0, c.1.1, c.1.2, c.1.3, c.1.4.2)

-- and back
path_back : (p : Path) (v : List Tok) → path_form p v → Then named PathFrom p v
path_back p v c = (p.process, (c.0, c.1, c.2, c.3, ((p.port, p.out), refl, c.4)))

-- the law of paths
pub path_lawful : Lawful full_path path_form Any
path_lawful =
    lawful_form full_path (Then named PathFrom) path_form Any path_there path_back
    (and_then_lawful word_reader path_reader named PathFrom Any Any (record {
      begins = word_lawful;
      goes_on = λ w a e. path_rest_lawful w;
      joins = λ w p a b rest e c d. tt;
    }))

-- a source, behind its first word
abbrev SourceFrom : Word → Source → Form
SourceFrom w = Either (Image Out (PathFrom w)) (Given (Input w))

-- what reads it
abbrev source_from : Word → Reader Source
source_from w = choice (at_mark Dot) (λ r. made Out (path_reader w r)) (got (Input w))

-- the law of a source behind its first word
source_rest_lawful : (w : Word) → Lawful (source_from w) (SourceFrom w) (Ends (at_mark Dot) Any)
source_rest_lawful w = choice_lawful (at_mark Dot) (λ r. made Out (path_reader w r)) (got (Input w)) (Image Out (PathFrom w)) (Given (Input w)) (Ends (at_mark Dot) Any) (record {
  ahead = at_mark_ahead Dot;
  one = λ s t. lawful_follows (λ r. made Out (path_reader w r)) (Image Out (PathFrom w)) Any (Ends (at_mark Dot) Any) (λ rest f. tt) (made_lawful Out (path_reader w) (PathFrom w) Any (path_rest_lawful w));
  other = λ s t. lawful_follows (got (Input w)) (Given (Input w)) Any (Ends (at_mark Dot) Any) (λ rest f. tt) (given_lawful (Input w));
  passes = λ x v rest c f. first_follows (λ u. at_mark Dot u ≡ true) (mark Dot) (λ p ts. refl) (named c.2.0.0 ▹ symbol Dot ▹ named c.2.0.1) v rest c.2.2;
  fails = λ x v rest c f. ap (λ u. at_mark Dot (u ++ rest)) c.1 ∙ f.fails;
})

-- a source, from its first word and what is behind it
source_there : (src : Source) (v : List Tok) → Then named SourceFrom src v → source_form src v
source_there src v (w, (a, b, e, n, inl c)) =
    subst (λ q. source_form q v) (sym c.1) (path_there c.0 v (w, (a, b, e, n, c.2)))
source_there src v (w, (a, b, e, n, inr c)) =
    subst (λ q. source_form q v) (sym c.0) (drop_nothing (named w) v (a, b, e, n, c.1))

-- and back
source_back : (src : Source) (v : List Tok) → source_form src v → Then named SourceFrom src v
source_back (Input w) v c = let d = add_nothing (named w) v c in (w, (d.0, d.1, d.2, d.3, inr (refl, d.4)))
source_back (Out p) v c = let d = path_back p v c in (d.0, (d.1.0, d.1.1, d.1.2, d.1.3, inl (p, refl, d.1.4)))

-- the law of sources
pub source_lawful : Lawful source_reader source_form (Ends (at_mark Dot) Any)
source_lawful =
    lawful_form source_reader (Then named SourceFrom) source_form (Ends (at_mark Dot) Any) source_there source_back
    (and_then_lawful word_reader source_from named SourceFrom Any (Ends (at_mark Dot) Any) (record {
      begins = word_lawful;
      goes_on = λ w a e. source_rest_lawful w;
      joins = λ w x a b rest e c d. tt;
    }))

-- every how many jobs messages pass
every_there : (o : Option Num) (w : List Tok) → Perhaps (λ m. keyword keys.Every ▹ counted m) o w → every_form o w
every_there None w c = c
every_there (Some m) w c = c

-- and back
every_back : (o : Option Num) (w : List Tok) → every_form o w → Perhaps (λ m. keyword keys.Every ▹ counted m) o w
every_back None w c = c
every_back (Some m) w c = c

-- the law of how many jobs messages pass
every_lawful : Lawful (optional (at_key keys.Every) (behind_key keys.Every number_reader)) every_form (Ends (at_key keys.Every) Any)
every_lawful =
    lawful_form (optional (at_key keys.Every) (behind_key keys.Every number_reader)) (Perhaps (λ m. keyword keys.Every ▹ counted m)) every_form (Ends (at_key keys.Every) Any) every_there every_back
    (optional_lawful (at_key keys.Every) (behind_key keys.Every number_reader) (λ m. keyword keys.Every ▹ counted m) Any
    (behind_key_lawful keys.Every number_reader counted Any number_lawful)
    (at_key_ahead keys.Every)
    (λ m w rest c. first_follows (λ v. at_key keys.Every v ≡ true) (key keys.Every) (λ p ts. refl) (counted m) w rest c))

-- a number in parentheses
pub width_lawful : Lawful (in_parens number_reader) (λ n. parens (counted n)) Any
width_lawful = in_parens_lawful number_reader counted Any number_lawful (λ p ts. tt)

-- an out
abbrev out_of : Word × (Num × Option Num) → OutDecl
out_of r = record { name = r.0; width = r.1.0; every = r.1.1 }

-- the law of outs
pub out_lawful : Lawful out_reader out_form (Ends (at_key keys.Every) Any)
out_lawful =
    made_as out_of (behind_key keys.Out (both word_reader (both (in_parens number_reader) (optional (at_key keys.Every) (behind_key keys.Every number_reader)))))
    (λ r. keyword keys.Out ▹ named r.0 ▹ parens (counted r.1.0) ▹ every_form r.1.1) (Ends (at_key keys.Every) Any)
    (behind_key_lawful keys.Out (both word_reader (both (in_parens number_reader) (optional (at_key keys.Every) (behind_key keys.Every number_reader)))) (λ r. named r.0 ▹ parens (counted r.1.0) ▹ every_form r.1.1) (Ends (at_key keys.Every) Any)
    (both_lawful word_reader (both (in_parens number_reader) (optional (at_key keys.Every) (behind_key keys.Every number_reader))) named (λ r. parens (counted r.0) ▹ every_form r.1) Any (Ends (at_key keys.Every) Any) word_lawful
    (both_lawful (in_parens number_reader) (optional (at_key keys.Every) (behind_key keys.Every number_reader)) (λ n. parens (counted n)) every_form Any (Ends (at_key keys.Every) Any) width_lawful every_lawful
    (λ y b rest c d. tt))
    (λ y b rest c d. tt)))
    out_form
    (λ r w c. c)
    (λ o w c. ((o.name, (o.width, o.every)), refl, c))

-- a start value
abbrev MinusForm : Num → Form
MinusForm n = symbol Minus ▹ counted n

-- a start value, as it is read
abbrev StartForm : ℤ → Form
StartForm = Either (Image (λ (n : Num). neg_ℤ n.value) MinusForm) (Image (λ (n : Num). n.value) counted)

-- a number, at its place and at any
counted_says : (n : Num) (w : List Tok) → counted n w → says (digits n.value) w
counted_says n w c = (tok_at (digits n.value) n.place, c, refl)

-- a number at a place
abbrev num_at : ℤ → Place → Num
num_at n p = record { value = n; place = p }

-- a token that says a number is one at its place
says_counted : (n : ℤ) (w : List Tok) → (c : says (digits n) w) → counted (num_at n c.0.place) w
says_counted n w c = c.1 ∙ ap (λ t. t ∷ []) (tok_is c.0 (digits n) c.2)

-- a start value, from how it is read
start_there : (n : ℤ) (w : List Tok) → StartForm n w → start_form n w
start_there n w (inl c) = inr (c.0.value, c.1, second_as (symbol Minus) (counted c.0) (says (digits c.0.value)) (counted_says c.0) w c.2)
start_there n w (inr c) = inl (subst (λ m. says (digits m) w) (sym c.1) (counted_says c.0 w c.2))

-- and back
start_back : (n : ℤ) (w : List Tok) → start_form n w → StartForm n w
start_back n w (inl c) = inr (num_at n c.0.place, refl, says_counted n w c)
start_back n w (inr c) = inl (num_at c.0 c.2.4.0.place, c.1, (c.2.0, c.2.1, c.2.2, c.2.3, says_counted c.0 c.2.1 c.2.4))

-- the law of start values
pub start_lawful : Lawful start_reader start_form Any
start_lawful =
    lawful_form start_reader StartForm start_form Any start_there start_back
    (choice_lawful (at_mark Minus) (λ s. made (λ (n : Num). neg_ℤ n.value) (behind_mark Minus number_reader s)) (λ s. made (λ (n : Num). n.value) (number_reader s)) (Image (λ (n : Num). neg_ℤ n.value) MinusForm) (Image (λ (n : Num). n.value) counted) Any (record {
      ahead = at_mark_ahead Minus;
      one = λ s t. made_lawful (λ (n : Num). neg_ℤ n.value) (behind_mark Minus number_reader) MinusForm Any (behind_mark_lawful Minus number_reader counted Any number_lawful);
      other = λ s t. made_lawful (λ (n : Num). n.value) number_reader counted Any number_lawful;
      passes = λ n w rest c f. first_follows (λ v. at_mark Minus v ≡ true) (mark Minus) (λ p ts. refl) (counted c.0) w rest c.2;
      fails = λ n w rest c f. begins_follows (λ v. at_mark Minus v ≡ false) (digits c.0.value) (λ p ts. refl) (w ++ rest) (one_is (digits c.0.value) w rest (counted_says c.0 w c.2));
    }))

-- a variable
abbrev var_of : Word × ℤ → VarDecl
var_of r = record { name = r.0; start = r.1 }

-- the law of variables
pub var_lawful : Lawful var_reader var_form Any
var_lawful =
    made_as var_of (behind_key keys.Var (both word_reader (behind_mark Assign start_reader))) (λ r. keyword keys.Var ▹ named r.0 ▹ symbol Assign ▹ start_form r.1) Any
    (behind_key_lawful keys.Var (both word_reader (behind_mark Assign start_reader)) (λ r. named r.0 ▹ symbol Assign ▹ start_form r.1) Any
    (both_lawful word_reader (behind_mark Assign start_reader) named (λ n. symbol Assign ▹ start_form n) Any Any word_lawful
    (behind_mark_lawful Assign start_reader start_form Any start_lawful) (λ y b rest c d. tt)))
    var_form
    (λ r w c. c)
    (λ v w c. ((v.name, v.start), refl, c))

-- the names of parameters
pub params_lawful : Lawful params_reader (λ ps. parens (listed named ps)) Any
params_lawful =
    in_parens_lawful (choice (at_mark RightParen) (got []) (one_or_more word_reader)) (listed named) (BeginsWith (mark RightParen))
    (listed_lawful word_reader named Any word_lawful (λ p ts. tt) (λ p ts. tt)
    (λ x w rest c. begins_follows (λ v. at_mark RightParen v ≡ false) (word x.text) (λ p ts. refl) (w ++ rest) (one_named x w rest c)))
    (λ p ts. (p, ts, refl))
