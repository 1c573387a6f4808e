-- The law of reading what stands by itself: a number, a name, a call, or an expression in parentheses.
use Rattle.std.proofs.Common.{◌≡◌, ℕ, suc, ◌<◌, inl, inr, true, false, ◌&&◌, nat_lt, List, [], ◌∷◌, ◌++◌, refl, sym, ap, ◌∙◌, subst, append-nil, arith}
use Rattle.yt_graph.specs.declared.ast.Word.{Word}
use Rattle.yt_graph.specs.declared.ast.Num.{Num}
use Rattle.yt_graph.specs.AstPicture.{AstExprTree, number, name, minus, negation, two_sides, paren, call_of, AstExprsTree}
use Rattle.yt_grammar.specs.declared.sign.Mark.TheVariants.{LeftParen, RightParen}
use Rattle.yt_grammar.specs.Lexemes.{word, mark, digits, Tok}
use Rattle.yt_grammar.specs.Forms.{Form, ◌▹◌, symbol, named, counted, parens}
use Rattle.yt_grammar.specs.Grammar.{args_form}
use Rattle.yt_grammar.specs.Inside.Reading.{Reader, got, and_then, made, choice, at_mark, at_number, in_parens, word_reader, number_reader, args_reader, prim_reader}
use Rattle.yt_grammar.proofs.reading.Lawful.{Lawful}
use Rattle.yt_grammar.proofs.reading.Follows.{NotContinued}
use Rattle.yt_grammar.proofs.reading.Heads.{looks_ahead}
use Rattle.yt_grammar.proofs.reading.Signs.{tok_at, tok_is, first_is, first_named, begins_follows}
use Rattle.yt_grammar.proofs.reading.Singles.{Any, lawful_form, lawful_follows, word_lawful, number_lawful}
use Rattle.yt_grammar.proofs.reading.Sequences.{Then, and_then_lawful, Image, made_lawful, in_parens_lawful}
use Rattle.yt_grammar.proofs.reading.Choices.{Either, Given, given_lawful, choice_lawful}
use Rattle.yt_grammar.proofs.reading.Ranks.{op_ranked}
use Rattle.yt_grammar.proofs.reading.Chains.{Fits}
use Rattle.yt_grammar.proofs.reading.ChainLaws.{InnerLaws, depth_one}
use Rattle.yt_grammar.proofs.reading.RankLaws.{has_room, room_shown, not_shown, room_ahead}
use Rattle.yt_grammar.proofs.reading.Args.{ArgsFit, args_lawful, args_depth, rank_most}

-- arguments behind a name, or none
abbrev CallOrName : ℕ → Word → AstExprTree → Form
CallOrName room w = Either (Image (call_of w) (ArgsFit room)) (Given (name w))

-- an expression in parentheses
abbrev InParens : ℕ → AstExprTree → Form
InParens room = Image paren (λ e. parens (Fits room 7 e))

-- a number
abbrev Counted : AstExprTree → Form
Counted = Image (λ n. number n.value) counted

-- arguments need room
args_room : (room : ℕ) (es : AstExprsTree) (w : List Tok) → ArgsFit room es w → 0 < room
args_room room es w (low, (a, back, splits, left, (b, c, splits', args, right))) = omega (arith, low, args_depth es b args)

module _ (inner : ℕ → Reader AstExprTree) (room : ℕ) (laws : InnerLaws inner room) where
  -- what is read behind a name
  abbrev behind_name : Word → Reader AstExprTree
  behind_name w = choice (λ r. at_mark LeftParen r && nat_lt 0 room) (λ r. made (call_of w) (args_reader inner r)) (got (name w))

  -- that is arguments where `(` follows and there is room, and nothing else
  behind_name_lawful : (w : Word) → Lawful (behind_name w) (CallOrName room w) (NotContinued 0)
  behind_name_lawful w = choice_lawful (λ r. at_mark LeftParen r && nat_lt 0 room) (λ r. made (call_of w) (args_reader inner r)) (got (name w)) (Image (call_of w) (ArgsFit room)) (Given (name w)) (NotContinued 0) (record {
    ahead = room_ahead (at_mark LeftParen) room (looks_ahead (at_mark LeftParen) (λ t ts us. refl));
    one = λ s shown. lawful_follows (λ r. made (call_of w) (args_reader inner r)) (Image (call_of w) (ArgsFit room)) Any (NotContinued 0) (λ rest f. tt)
        (made_lawful (call_of w) (args_reader inner) (ArgsFit room) Any (args_lawful inner room (laws (has_room (at_mark LeftParen s) room shown) 7 (omega arith))));
    other = λ s shown. lawful_follows (got (name w)) (Given (name w)) Any (NotContinued 0) (λ rest f. tt) (given_lawful (name w));
    passes = λ t v rest (es, is, fits) f. room_shown (at_mark LeftParen (v ++ rest)) room
        (begins_follows (λ s. at_mark LeftParen s ≡ true) (mark LeftParen) (λ p ts. refl) (v ++ rest) (first_is (mark LeftParen) (args_form es ▹ symbol RightParen) v rest fits.1))
        (args_room room es v fits);
    fails = λ t v rest c f. not_shown (at_mark LeftParen (v ++ rest)) room (ap (λ s. at_mark LeftParen (s ++ rest)) c.1 ∙ f.no_paren);
  })

  -- what is read where a name comes
  abbrev name_or_call : Reader AstExprTree
  name_or_call s = and_then (word_reader s) behind_name

  -- a name is read and what stands behind it
  name_or_call_lawful : Lawful name_or_call (Then named (CallOrName room)) (NotContinued 0)
  name_or_call_lawful = and_then_lawful word_reader behind_name named (CallOrName room) Any (NotContinued 0) (record {
    begins = word_lawful;
    goes_on = λ w a k. behind_name_lawful w;
    joins = λ w t a b rest k c f. tt;
  })

  -- what is read where no number comes
  abbrev no_number : Reader AstExprTree
  no_number = choice (λ s. at_mark LeftParen s && nat_lt 0 room) (λ s. made paren (in_parens (inner 7) s)) name_or_call

  -- that is an expression in parentheses, a name or a call
  no_number_lawful : Lawful no_number (Either (InParens room) (Then named (CallOrName room))) (NotContinued 0)
  no_number_lawful = choice_lawful (λ s. at_mark LeftParen s && nat_lt 0 room) (λ s. made paren (in_parens (inner 7) s)) name_or_call (InParens room) (Then named (CallOrName room)) (NotContinued 0) (record {
    ahead = room_ahead (at_mark LeftParen) room (looks_ahead (at_mark LeftParen) (λ t ts us. refl));
    one = λ s shown. lawful_follows (λ r. made paren (in_parens (inner 7) r)) (InParens room) Any (NotContinued 0) (λ rest f. tt)
        (made_lawful paren (in_parens (inner 7)) (λ e. parens (Fits room 7 e)) Any
        (in_parens_lawful (inner 7) (Fits room 7) (NotContinued 7) (laws (has_room (at_mark LeftParen s) room shown) 7 (omega arith)) (λ at ts. record { no_paren = refl; no_operator = tt })));
    other = λ s shown. name_or_call_lawful;
    passes = λ t w rest (e, is, k) f. room_shown (at_mark LeftParen (w ++ rest)) room
        (begins_follows (λ s. at_mark LeftParen s ≡ true) (mark LeftParen) (λ p ts. refl) (w ++ rest) (first_is (mark LeftParen) (Fits room 7 e ▹ symbol RightParen) w rest k))
        (omega (arith, k.4.3.depth, depth_one e));
    fails = λ t w rest (v, k) f. not_shown (at_mark LeftParen (w ++ rest)) room
        (begins_follows (λ s. at_mark LeftParen s ≡ false) (word v.text) (λ p ts. refl) (w ++ rest) (first_named v (CallOrName room v t) w rest k));
  })

  -- one of all these is read
  prim_choice : Lawful (prim_reader inner room) (Either Counted (Either (InParens room) (Then named (CallOrName room)))) (NotContinued 0)
  prim_choice = choice_lawful at_number (λ s. made (λ n. number n.value) (number_reader s)) no_number Counted (Either (InParens room) (Then named (CallOrName room))) (NotContinued 0) (record {
    ahead = looks_ahead at_number (λ t ts us. refl);
    one = λ s shown. lawful_follows (λ r. made (λ n. number n.value) (number_reader r)) Counted Any (NotContinued 0) (λ rest f. tt) (made_lawful (λ n. number n.value) number_reader counted Any number_lawful);
    other = λ s shown. no_number_lawful;
    passes = λ t w rest (n, is, k) f. ap (λ v. at_number (v ++ rest)) k;
    fails = λ t w rest c f. not_number t w rest c;
  })
    where
      not_number : (t : AstExprTree) (w rest : List Tok) → Either (InParens room) (Then named (CallOrName room)) t w → at_number (w ++ rest) ≡ false
      not_number t w rest (inl (e, is, k)) = begins_follows (λ s. at_number s ≡ false) (mark LeftParen) (λ p ts. refl) (w ++ rest) (first_is (mark LeftParen) (Fits room 7 e ▹ symbol RightParen) w rest k)
      not_number t w rest (inr (v, k)) = begins_follows (λ s. at_number s ≡ false) (word v.text) (λ p ts. refl) (w ++ rest) (first_named v (CallOrName room v t) w rest k)

-- what stands by itself, in these parts
abbrev Alone : ℕ → AstExprTree → Form
Alone room = Either Counted (Either (InParens room) (Then named (CallOrName room)))

-- each of them stands by itself
number_there : (room : ℕ) (n : Num) (w : List Tok) → counted n w → Fits (suc room) 0 (number n.value) w
number_there room n w k = record { bound = omega arith; depth = omega arith; spelled = (tok_at (digits n.value) n.place, k, refl) }

-- so does an expression in parentheses
paren_there : (room : ℕ) (e : AstExprTree) (w : List Tok) → parens (Fits room 7 e) w → Fits (suc room) 0 (paren e) w
paren_there room e w (a, back, splits, left, (b, c, splits', fits, right)) = record {
  bound = omega arith;
  depth = omega (arith, fits.depth);
  spelled = (a, back, splits, left, (b, c, splits', fits.spelled, right));
}

-- so does a name, and a call
name_there : (room : ℕ) (v : Word) (t : AstExprTree) (a b w : List Tok) → w ≡ a ++ b → named v a → CallOrName room v t b → Fits (suc room) 0 t w
name_there room v t a b w splits k (inl (es, is, (low, args))) =
    subst (λ x. Fits (suc room) 0 x w) (sym is) (record { bound = omega arith; depth = omega (arith, low); spelled = (a, b, splits, k, args) })
name_there room v t a b w splits k (inr (is, empty)) =
    let whole : w ≡ a = splits ∙ rw (empty, append-nil) refl in
    subst (λ x. Fits (suc room) 0 x w) (sym is) (record { bound = omega arith; depth = omega arith; spelled = whole ∙ k })

-- so does each of these parts
alone_there : (room : ℕ) (t : AstExprTree) (w : List Tok) → Alone room t w → Fits (suc room) 0 t w
alone_there room t w (inl (n, is, k)) = subst (λ x. Fits (suc room) 0 x w) (sym is) (number_there room n w k)
alone_there room t w (inr (inl (e, is, k))) = subst (λ x. Fits (suc room) 0 x w) (sym is) (paren_there room e w k)
alone_there room t w (inr (inr (v, (a, b, splits, k, c)))) = name_there room v t a b w splits k c

-- what stands by itself is one of these parts
alone_back : (room : ℕ) (t : AstExprTree) (w : List Tok) → Fits (suc room) 0 t w → Alone room t w
alone_back room (number n) w h =
    let (t, is, says_n) = h.spelled in
    inl (record { value = n; place = t.place }, refl, is ∙ ap (λ u. u ∷ []) (tok_is t (digits n) says_n))
alone_back room (name v) w h = inr (inr (v, (w, [], sym (append-nil w), h.spelled, inr (refl, refl))))
alone_back room (paren e) w h =
    let (a, back, splits, left, inside) = h.spelled in
    let (b, c, splits', spelled, right) = inside in
    inr (inl (e, refl, (a, back, splits, left, (b, c, splits', record { bound = rank_most e; depth = omega (arith, h.depth); spelled = spelled }, right))))
alone_back room (call_of v es) w h =
    let (a, b, splits, k, args) = h.spelled in
    inr (inr (v, (a, b, splits, k, inl (es, refl, (omega (arith, h.depth), args)))))
alone_back room (minus e) w h = absurd (omega (arith, h.bound))
alone_back room (negation e) w h = absurd (omega (arith, h.bound))
alone_back room (two_sides op l r) w h = absurd (omega (arith, h.bound, op_ranked op))

-- what stands by itself is read, where its parts are
pub prim_lawful : (inner : ℕ → Reader AstExprTree) (room : ℕ) → InnerLaws inner room → Lawful (prim_reader inner room) (Fits (suc room) 0) (NotContinued 0)
prim_lawful inner room laws = lawful_form (prim_reader inner room) (Alone room) (Fits (suc room) 0) (NotContinued 0) (alone_there room) (alone_back room) (prim_choice inner room laws)
