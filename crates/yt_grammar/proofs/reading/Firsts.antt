-- The first token of an expression.
use Rattle.std.proofs.Common.{◌≡◌, ℕ, ◌≤◌, Bool, false, List, ◌∷◌, ◌++◌, refl, ap, ◌∙◌, append_assoc, arith}
use Rattle.yt_graph.specs.declared.place.Place.{Place}
use Rattle.yt_graph.specs.declared.expr.Op2.{Op2}
use Rattle.yt_graph.specs.AstPicture.{AstExprTree, number, name, minus, negation, two_sides, paren, call_of}
use Rattle.yt_grammar.specs.declared.sign.Keyword.TheVariants as keys
use Rattle.yt_grammar.specs.declared.sign.Mark.TheVariants.{Minus, LeftParen, RightParen}
use Rattle.yt_grammar.specs.Lexemes.{Lexeme, word, mark, digits, Tok}
use Rattle.yt_grammar.specs.Forms.{◌▹◌, symbol, parens}
use Rattle.yt_grammar.specs.Grammar.{expr_form, args_form, rank_of, left_rank, op_rank, within}
use Rattle.yt_grammar.specs.Inside.Reading.{at_mark, at_key}
use Rattle.yt_grammar.proofs.reading.Signs.{tok_at, BeginsWith, first_is, one_is, first_named, one_named, begins_follows}
use Rattle.yt_grammar.proofs.reading.Ranks.{left_tighter, op_ranked}

-- what a token says makes a test fail
abbrev Fails : (List Tok → Bool) → Lexeme → Type 0
Fails test l = (p : Place) (ts : List Tok) → test (tok_at l p ∷ ts) ≡ false

-- such a test fails in front of it
failed : (test : List Tok → Bool) (l : Lexeme) → Fails test l → (s : List Tok) → BeginsWith l s → test s ≡ false
failed test l h s k = begins_follows (λ v. test v ≡ false) l h s k

-- what stands by itself doesn't begin with `-`
pub no_minus : (e : AstExprTree) (w rest : List Tok) → rank_of e ≤ 0 → expr_form e w → at_mark Minus (w ++ rest) ≡ false
no_minus (number n) w rest h k = failed (at_mark Minus) (digits n) (λ p ts. refl) (w ++ rest) (one_is (digits n) w rest k)
no_minus (name v) w rest h k = failed (at_mark Minus) (word v.text) (λ p ts. refl) (w ++ rest) (one_named v w rest k)
no_minus (paren e) w rest h k = failed (at_mark Minus) (mark LeftParen) (λ p ts. refl) (w ++ rest) (first_is (mark LeftParen) (expr_form e ▹ symbol RightParen) w rest k)
no_minus (call_of v es) w rest h k = failed (at_mark Minus) (word v.text) (λ p ts. refl) (w ++ rest) (first_named v (parens (args_form es)) w rest k)
no_minus (minus e) w rest h k = absurd (omega (arith, h))
no_minus (negation e) w rest h k = absurd (omega (arith, h))
no_minus (two_sides op l r) w rest h k = absurd (omega (arith, h, op_ranked op))

-- an operator's left side binds more tightly than `not` where the operator does
tight_left : (op : Op2) (l : ℕ) → l ≤ left_rank op → op_rank op ≤ 4 → l ≤ 4
tight_left op l h k = omega (arith, h, k, left_tighter op)

-- only an expression behind `not`, or one with two sides that binds more loosely, begins with it
pub no_not : (e : AstExprTree) (w rest : List Tok) → rank_of e ≤ 4 → expr_form e w → at_key keys.Not (w ++ rest) ≡ false
no_not (number n) w rest h k = failed (at_key keys.Not) (digits n) (λ p ts. refl) (w ++ rest) (one_is (digits n) w rest k)
no_not (name v) w rest h k = failed (at_key keys.Not) (word v.text) (λ p ts. refl) (w ++ rest) (one_named v w rest k)
no_not (paren e) w rest h k = failed (at_key keys.Not) (mark LeftParen) (λ p ts. refl) (w ++ rest) (first_is (mark LeftParen) (expr_form e ▹ symbol RightParen) w rest k)
no_not (call_of v es) w rest h k = failed (at_key keys.Not) (word v.text) (λ p ts. refl) (w ++ rest) (first_named v (parens (args_form es)) w rest k)
no_not (minus e) w rest h k = failed (at_key keys.Not) (mark Minus) (λ p ts. refl) (w ++ rest) (first_is (mark Minus) (within 1 e (expr_form e)) w rest k)
no_not (negation e) w rest h k = absurd (omega (arith, h))
no_not (two_sides op l r) w rest h (a, b, splits, left, right) =
    ap (λ v. at_key keys.Not (v ++ rest)) splits ∙ ap (λ v. at_key keys.Not v) (append_assoc a b rest) ∙ no_not l a (b ++ rest) (tight_left op (rank_of l) left.0 h) left.1
