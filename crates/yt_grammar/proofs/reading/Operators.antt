-- The operator that tokens begin with.
use Rattle.std.proofs.Common.{◌≡◌, ℕ, ◌≤◌, ◌<◌, Bool, true, false, nat_eq, if◌then◌else◌, Option, None, Some, List, [], ◌∷◌, refl, sym, ap, ◌∙◌, eqb-true, eq-eqb, subst, arith}
use Rattle.yt_graph.specs.declared.place.Place.{Place}
use Rattle.yt_graph.specs.declared.expr.Op2.{Op2}
use Rattle.yt_graph.specs.declared.expr.Op2.TheVariants.{Or, And}
use Rattle.yt_grammar.specs.declared.sign.Keyword.{Keyword}
use Rattle.yt_grammar.specs.declared.sign.Keyword.TheVariants as keys
use Rattle.yt_grammar.specs.declared.sign.Mark.TheVariants.{LeftBrace, RightBrace, LeftParen, RightParen, Comma, Dot, Assign, Plus, Minus, Star, Slash, Percent, Less, LessEqual, Greater, GreaterEqual, Equal, NotEqual}
use Rattle.yt_grammar.specs.Lexemes.{Lexeme, word, key, mark, digits, Tok, keyword_number}
use Rattle.yt_grammar.specs.Grammar.{op_rank, op_lexeme}
use Rattle.yt_grammar.specs.Inside.Reading.{at_mark, op_in, op_at, behind}
use Rattle.yt_grammar.proofs.reading.Lawful.{SameHead}
use Rattle.yt_grammar.proofs.reading.Follows.{NotContinued, NoOperator, IsLooser}
use Rattle.yt_grammar.proofs.reading.Signs.{same_keyword, tok_at, tok_is}
use Rattle.yt_grammar.proofs.reading.Ranks.{op_in-lexeme, not_eqb}

-- what two equal options hold is equal
some_same : {X : Type 0} {a b : X} → Some a ≡ Some b → a ≡ b
some_same h = cc

-- a reserved word that is read as an operator is what the operator is written as
key_op : (k : Keyword) (is_or is_and : Bool) (op : Op2) → nat_eq (keyword_number k) (keyword_number keys.Or) ≡ is_or → nat_eq (keyword_number k) (keyword_number keys.And) ≡ is_and → (if is_or then Some Or else (if is_and then Some And else None)) ≡ Some op → key k ≡ op_lexeme op
key_op k true is_and op a b h = ap key (same_keyword k keys.Or a) ∙ ap op_lexeme (some_same h)
key_op k false true op a b h = ap key (same_keyword k keys.And b) ∙ ap op_lexeme (some_same h)
key_op k false false op a b h = absurd cc

-- what is read as an operator is what the operator is written as
pub op_in_says : (l : Lexeme) (op : Op2) → op_in l ≡ Some op → l ≡ op_lexeme op
op_in_says (word w) op h = absurd cc
op_in_says (digits n) op h = absurd cc
op_in_says (key k) op h = key_op k (nat_eq (keyword_number k) (keyword_number keys.Or)) (nat_eq (keyword_number k) (keyword_number keys.And)) op refl refl h
op_in_says (mark Less) op h = ap op_lexeme (some_same h)
op_in_says (mark LessEqual) op h = ap op_lexeme (some_same h)
op_in_says (mark Greater) op h = ap op_lexeme (some_same h)
op_in_says (mark GreaterEqual) op h = ap op_lexeme (some_same h)
op_in_says (mark Equal) op h = ap op_lexeme (some_same h)
op_in_says (mark NotEqual) op h = ap op_lexeme (some_same h)
op_in_says (mark Plus) op h = ap op_lexeme (some_same h)
op_in_says (mark Minus) op h = ap op_lexeme (some_same h)
op_in_says (mark Star) op h = ap op_lexeme (some_same h)
op_in_says (mark Slash) op h = ap op_lexeme (some_same h)
op_in_says (mark Percent) op h = ap op_lexeme (some_same h)
op_in_says (mark LeftBrace) op h = absurd cc
op_in_says (mark RightBrace) op h = absurd cc
op_in_says (mark LeftParen) op h = absurd cc
op_in_says (mark RightParen) op h = absurd cc
op_in_says (mark Comma) op h = absurd cc
op_in_says (mark Dot) op h = absurd cc
op_in_says (mark Assign) op h = absurd cc

-- an operator where it is of a rank
abbrev ranked : ℕ → Option Op2 → Option Op2
ranked rank None = None
ranked rank (Some op) = if nat_eq (op_rank op) rank then Some op else None

-- that is what is looked for
op_at_ranked : (rank : ℕ) (t : Tok) (ts : List Tok) (o : Option Op2) → op_in t.says ≡ o → op_at rank (t ∷ ts) ≡ ranked rank o
op_at_ranked rank t ts None e = rw e refl
op_at_ranked rank t ts (Some op) e = rw e refl

-- where it is found it is of the rank
ranked_some : (rank : ℕ) (o : Option Op2) (op : Op2) → ranked rank o ≡ Some op → (o ≡ Some op) × (op_rank op ≡ rank)
ranked_some rank None op h = absurd cc
ranked_some rank (Some p) op h = by_rank (nat_eq (op_rank p) rank) refl h
  where
    by_rank : (b : Bool) → nat_eq (op_rank p) rank ≡ b → (if b then Some p else None) ≡ Some op → (Some p ≡ Some op) × (op_rank op ≡ rank)
    by_rank true e k = (k, ap op_rank (sym (some_same k)) ∙ eqb-true (op_rank p) rank e)
    by_rank false e k = absurd cc

-- the first token is the operator that was found
pub record IsOperator (rank : ℕ) (op : Op2) (s : List Tok) : Type 0 where
  pub sign : Tok
  pub splits : s ≡ sign ∷ behind s
  pub written : sign.says ≡ op_lexeme op
  pub of_rank : op_rank op ≡ rank

-- where one is found the first token is that operator
pub op_at_tells : (rank : ℕ) (s : List Tok) (op : Op2) → op_at rank s ≡ Some op → IsOperator rank op s
op_at_tells rank [] op h = absurd cc
op_at_tells rank (t ∷ ts) op h =
    let found = ranked_some rank (op_in t.says) op (sym (op_at_ranked rank t ts (op_in t.says) refl) ∙ h) in
    record { sign = t; splits = refl; written = op_in_says t.says op found.0; of_rank = found.1 }

-- an operator of the rank is found
pub op_at-sign : (rank : ℕ) (t : Tok) (ts : List Tok) (op : Op2) → t.says ≡ op_lexeme op → op_rank op ≡ rank → op_at rank (t ∷ ts) ≡ Some op
op_at-sign rank t ts op written of_rank =
    op_at_ranked rank t ts (Some op) (ap op_in written ∙ op_in-lexeme op) ∙ rw (eq-eqb (op_rank op) rank of_rank) refl

-- tokens that look the same begin with the same operator
pub op_at_same : (rank : ℕ) (s other : List Tok) → SameHead s other → op_at rank other ≡ op_at rank s
op_at_same rank [] [] e = refl
op_at_same rank [] (u ∷ us) e = absurd e
op_at_same rank (t ∷ ts) [] e = absurd e
op_at_same rank (t ∷ ts) (u ∷ us) e = ap (λ v. op_at rank (v ∷ us)) (sym e)

-- no operator of a rank that can't go on
pub op_at_none : (rank : ℕ) (s : List Tok) → NotContinued rank s → op_at rank s ≡ None
op_at_none rank [] h = refl
op_at_none rank (t ∷ ts) h = op_at_ranked rank t ts (op_in t.says) refl ∙ looser (op_in t.says) h.no_operator
  where
    looser : (o : Option Op2) → IsLooser rank o → ranked rank o ≡ None
    looser None k = refl
    looser (Some op) k = rw (not_eqb (op_rank op) rank (omega (arith, k))) refl

-- what can't go on at a rank can't at a tighter one
pub tighter : (j k : ℕ) (s : List Tok) → j ≤ k → NotContinued k s → NotContinued j s
tighter j k s le h = record { no_paren = h.no_paren; no_operator = by_head s h.no_operator }
  where
    by_option : (o : Option Op2) → IsLooser k o → IsLooser j o
    by_option None i = tt
    by_option (Some op) i = omega (arith, i, le)

    by_head : (r : List Tok) → NoOperator k r → NoOperator j r
    by_head [] i = tt
    by_head (t ∷ ts) i = by_option (op_in t.says) i

-- no operator is a `(`
no_paren_op : (op : Op2) (p : Place) (ts : List Tok) → at_mark LeftParen (tok_at (op_lexeme op) p ∷ ts) ≡ false
no_paren_op Or p ts = refl
no_paren_op _ p ts = refl

-- an operator of a looser rank can't go on
pub looser_sign : (j : ℕ) (t : Tok) (ts : List Tok) (op : Op2) → t.says ≡ op_lexeme op → j < op_rank op → NotContinued j (t ∷ ts)
looser_sign j t ts op written more = record {
  no_paren = ap (λ u. at_mark LeftParen (u ∷ ts)) (tok_is t (op_lexeme op) written) ∙ no_paren_op op t.place ts;
  no_operator = subst (IsLooser j) (sym (ap op_in written ∙ op_in-lexeme op)) more;
}
