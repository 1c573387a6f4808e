-- The laws of reading an expression of a rank, from those of the next tighter rank.
use Rattle.std.proofs.Common.{◌≡◌, ℕ, zero, suc, ◌≤◌, ◌<◌, inl, inr, Bool, true, false, ◌&&◌, nat_lt, List, ◌++◌, refl, sym, ap, subst, arith, ltb-true, lt-ltb, eqb, ◌≢◌, ◌⊎◌}
use Rattle.std.proofs.lemmas.Bool.Decides.{eqb_tells}
use Rattle.yt_graph.specs.AstPicture.{AstExprTree, number, name, minus, negation, two_sides, paren, call_of}
use Rattle.yt_grammar.specs.declared.sign.Keyword.TheVariants as keys
use Rattle.yt_grammar.specs.declared.sign.Mark.TheVariants.{Minus}
use Rattle.yt_grammar.specs.Lexemes.{key, mark, Tok}
use Rattle.yt_grammar.specs.Forms.{Form, ◌▹◌, symbol, keyword}
use Rattle.yt_grammar.specs.Grammar.{expr_form, rank_of, op_rank}
use Rattle.yt_grammar.specs.Inside.Reading.{Reader, and_then, made, choice, at_mark, at_key, behind_mark, behind_key, chain, turns_at, prim_reader, rank_reader}
use Rattle.yt_grammar.proofs.reading.Lawful.{Lawful}
use Rattle.yt_grammar.proofs.reading.Follows.{NotContinued}
use Rattle.yt_grammar.proofs.reading.Heads.{LooksAhead, looks_ahead}
use Rattle.yt_grammar.proofs.reading.Signs.{first_is, begins_follows}
use Rattle.yt_grammar.proofs.reading.Singles.{lawful_reader, lawful_form, lawful_follows}
use Rattle.yt_grammar.proofs.reading.Sequences.{Then, and_then_lawful, Image, made_lawful, behind_mark_lawful, behind_key_lawful}
use Rattle.yt_grammar.proofs.reading.Choices.{Either, choice_lawful}
use Rattle.yt_grammar.proofs.reading.Ranks.{op_ranked, not_eqb}
use Rattle.yt_grammar.proofs.reading.Chains.{Fits, Extends, parts_of, whole_of}
use Rattle.yt_grammar.proofs.reading.Operators.{tighter}
use Rattle.yt_grammar.proofs.reading.ChainLaws.{InnerLaws, chain_lawful, behind_left, depth_one}
use Rattle.yt_grammar.proofs.reading.Firsts.{no_minus, no_not}

-- what operators of the next rank, as many as are read, make of a left side
abbrev More : ℕ → ℕ → AstExprTree → AstExprTree → Form
More room m left t = Extends (turns_at (suc m) room) (suc m) room t left

-- a part of the next tighter rank, and what extends it
pub chained_lawful : (inner : ℕ → Reader AstExprTree) (room m : ℕ) (p : Reader AstExprTree) → InnerLaws inner room → (m ≡ 0 → ⊥) → (m ≡ 4 → ⊥) → Lawful p (Fits (suc room) m) (NotContinued m) → Lawful (λ s. and_then (p s) (chain inner room (suc m) (turns_at (suc m) room))) (Fits (suc room) (suc m)) (NotContinued (suc m))
chained_lawful inner room m p laws a c h =
    lawful_form (λ s. and_then (p s) (chain inner room (suc m) (turns_at (suc m) room))) (Then (Fits (suc room) m) (More room m)) (Fits (suc room) (suc m)) (NotContinued (suc m))
    (λ t w (left, (front, back, splits, fits, extends)). rw splits (whole_of m room t left front back fits extends))
    (λ t w fits. let parts = parts_of m room t w a c fits in (parts.left, (parts.front, parts.back, parts.splits, parts.fits, parts.extends)))
    (and_then_lawful p (chain inner room (suc m) (turns_at (suc m) room)) (Fits (suc room) m) (More room m) (NotContinued m) (NotContinued (suc m)) (record {
      begins = h;
      goes_on = λ left front fits. chain_lawful inner room (suc m) laws (turns_at (suc m) room) left;
      joins = λ left t front back rest fits extends follows. behind_left (turns_at (suc m) room) (suc m) room m t left back rest (omega arith) extends follows;
    }))

-- the second of two tests that pass
both_true : (a b : Bool) → (a && b) ≡ true → b ≡ true
both_true true b h = h
both_true false b h = absurd cc

-- there is room where a test shows it
pub has_room : (a : Bool) (room : ℕ) → (a && nat_lt 0 room) ≡ true → 0 < room
has_room a room h = ltb-true 0 room (both_true a (nat_lt 0 room) h)

-- a test passes where there is room
pub room_shown : (a : Bool) (room : ℕ) → a ≡ true → 0 < room → (a && nat_lt 0 room) ≡ true
room_shown a room h k = rw (h, lt-ltb 0 room k) refl

-- it fails where its first part does
pub not_shown : (a : Bool) (room : ℕ) → a ≡ false → (a && nat_lt 0 room) ≡ false
not_shown a room h = rw h refl

-- it looks as far as its first part
pub room_ahead : (at : List Tok → Bool) (room : ℕ) → LooksAhead at → LooksAhead (λ s. at s && nat_lt 0 room)
room_ahead at room h s other same = ap (λ b. b && nat_lt 0 room) (h s other same)

-- what is known of an expression behind a sign, of a rank, by the test of the sign and the reader of both, and of the expressions of the next tighter rank
record IsPrefix (room m : ℕ) (at : List Tok → Bool) (sign : Form) (wrap : AstExprTree → AstExprTree) (p q : Reader AstExprTree) : Type 0 where
  ahead : LooksAhead at
  reads : 0 < room → Lawful p (λ e. sign ▹ Fits room (suc m) e) (NotContinued (suc m))
  others : Lawful q (Fits (suc room) m) (NotContinued m)
  begins : (e : AstExprTree) (w rest : List Tok) → (sign ▹ Fits room (suc m) e) w → at (w ++ rest) ≡ true
  differs : (e : AstExprTree) (w rest : List Tok) → rank_of e ≤ m → expr_form e w → at (w ++ rest) ≡ false
  wraps : (e : AstExprTree) (w : List Tok) → (sign ▹ Fits room (suc m) e) w → Fits (suc room) (suc m) (wrap e) w
  unwraps : (t : AstExprTree) (w : List Tok) → Fits (suc room) (suc m) t w → Either (Image wrap (λ e. sign ▹ Fits room (suc m) e)) (Fits (suc room) m) t w

module _ (room m : ℕ) (at : List Tok → Bool) (sign : Form) (wrap : AstExprTree → AstExprTree) (p q : Reader AstExprTree) (h : IsPrefix room m at sign wrap p q) where
  -- a sign and an expression, or one of the next tighter rank
  prefix_choice : Lawful (choice (λ s. at s && nat_lt 0 room) (λ s. made wrap (p s)) q) (Either (Image wrap (λ e. sign ▹ Fits room (suc m) e)) (Fits (suc room) m)) (NotContinued (suc m))
  prefix_choice = choice_lawful (λ s. at s && nat_lt 0 room) (λ s. made wrap (p s)) q (Image wrap (λ e. sign ▹ Fits room (suc m) e)) (Fits (suc room) m) (NotContinued (suc m)) (record {
    ahead = room_ahead at room h.ahead;
    one = λ s shown. made_lawful wrap p (λ e. sign ▹ Fits room (suc m) e) (NotContinued (suc m)) (h.reads (has_room (at s) room shown));
    other = λ s shown. lawful_follows q (Fits (suc room) m) (NotContinued m) (NotContinued (suc m)) (λ rest k. tighter m (suc m) rest (omega arith) k) h.others;
    passes = λ t w rest (e, is, k) follows. room_shown (at (w ++ rest)) room (h.begins e w rest k) (omega (arith, k.4.depth, depth_one e));
    fails = λ t w rest fits follows. not_shown (at (w ++ rest)) room (h.differs t w rest fits.bound fits.spelled);
  })

  -- either is an expression of the rank
  back : (t : AstExprTree) (w : List Tok) → Either (Image wrap (λ e. sign ▹ Fits room (suc m) e)) (Fits (suc room) m) t w → Fits (suc room) (suc m) t w
  back t w (inl (e, is, k)) = subst (λ v. Fits (suc room) (suc m) v w) (sym is) (h.wraps e w k)
  back t w (inr fits) = record { bound = omega (arith, fits.bound); depth = fits.depth; spelled = fits.spelled }

  -- an expression that may stand behind a sign is read
  prefix_lawful : Lawful (choice (λ s. at s && nat_lt 0 room) (λ s. made wrap (p s)) q) (Fits (suc room) (suc m)) (NotContinued (suc m))
  prefix_lawful = lawful_form (choice (λ s. at s && nat_lt 0 room) (λ s. made wrap (p s)) q) (Either (Image wrap (λ e. sign ▹ Fits room (suc m) e)) (Fits (suc room) m)) (Fits (suc room) (suc m)) (NotContinued (suc m)) back h.unwraps prefix_choice

-- what stands behind `-`, or by itself
minus_or : (room : ℕ) (t : AstExprTree) (w : List Tok) → Fits (suc room) 1 t w → Either (Image minus (λ e. symbol Minus ▹ Fits room 1 e)) (Fits (suc room) 0) t w
minus_or room (minus e) w h = let (a, b, splits, sign, inside) = h.spelled in inl (e, refl, (a, b, splits, sign, record { bound = inside.0; depth = omega (arith, h.depth); spelled = inside.1 }))
minus_or room (number n) w h = inr (record { bound = omega arith; depth = h.depth; spelled = h.spelled })
minus_or room (name v) w h = inr (record { bound = omega arith; depth = h.depth; spelled = h.spelled })
minus_or room (paren e) w h = inr (record { bound = omega arith; depth = h.depth; spelled = h.spelled })
minus_or room (call_of v es) w h = inr (record { bound = omega arith; depth = h.depth; spelled = h.spelled })
minus_or room (negation e) w h = absurd (omega (arith, h.bound))
minus_or room (two_sides op l r) w h = absurd (omega (arith, h.bound, op_ranked op))

-- an expression of the rank of `-` is read
minus_lawful : (inner : ℕ → Reader AstExprTree) (room : ℕ) (q : Reader AstExprTree) → InnerLaws inner room → Lawful q (Fits (suc room) 0) (NotContinued 0) → Lawful (choice (λ s. at_mark Minus s && nat_lt 0 room) (λ s. made minus (behind_mark Minus (inner 1) s)) q) (Fits (suc room) 1) (NotContinued 1)
minus_lawful inner room q laws h = prefix_lawful room 0 (at_mark Minus) (symbol Minus) minus (behind_mark Minus (inner 1)) q (record {
  ahead = looks_ahead (at_mark Minus) (λ t ts us. refl);
  reads = λ more. behind_mark_lawful Minus (inner 1) (Fits room 1) (NotContinued 1) (laws more 1 (omega arith));
  others = h;
  begins = λ e w rest k. begins_follows (λ v. at_mark Minus v ≡ true) (mark Minus) (λ p ts. refl) (w ++ rest) (first_is (mark Minus) (Fits room 1 e) w rest k);
  differs = no_minus;
  wraps = λ e w (a, b, splits, sign, fits). record { bound = omega arith; depth = omega (arith, fits.depth); spelled = (a, b, splits, sign, (fits.bound, fits.spelled)) };
  unwraps = minus_or room;
})

-- at most 5 and not 5 is at most 4
apart_five : (n : ℕ) → n ≤ 5 → (n ≡ 5 → ⊥) → n ≤ 4
apart_five n h k = omega (arith, h, k)

-- what stands behind `not`, or binds more tightly
not_or : (room : ℕ) (t : AstExprTree) (w : List Tok) → Fits (suc room) 5 t w → Either (Image negation (λ e. keyword keys.Not ▹ Fits room 5 e)) (Fits (suc room) 4) t w
not_or room (negation e) w h = let (a, b, splits, sign, inside) = h.spelled in inl (e, refl, (a, b, splits, sign, record { bound = inside.0; depth = omega (arith, h.depth); spelled = inside.1 }))
not_or room (number n) w h = inr (record { bound = omega arith; depth = h.depth; spelled = h.spelled })
not_or room (name v) w h = inr (record { bound = omega arith; depth = h.depth; spelled = h.spelled })
not_or room (paren e) w h = inr (record { bound = omega arith; depth = h.depth; spelled = h.spelled })
not_or room (call_of v es) w h = inr (record { bound = omega arith; depth = h.depth; spelled = h.spelled })
not_or room (minus e) w h = inr (record { bound = omega arith; depth = h.depth; spelled = h.spelled })
not_or room (two_sides op l r) w h = inr (record { bound = apart_five (op_rank op) h.bound (op_ranked op).2; depth = h.depth; spelled = h.spelled })

-- an expression of the rank of `not` is read
not_lawful : (inner : ℕ → Reader AstExprTree) (room : ℕ) (q : Reader AstExprTree) → InnerLaws inner room → Lawful q (Fits (suc room) 4) (NotContinued 4) → Lawful (choice (λ s. at_key keys.Not s && nat_lt 0 room) (λ s. made negation (behind_key keys.Not (inner 5) s)) q) (Fits (suc room) 5) (NotContinued 5)
not_lawful inner room q laws h = prefix_lawful room 4 (at_key keys.Not) (keyword keys.Not) negation (behind_key keys.Not (inner 5)) q (record {
  ahead = looks_ahead (at_key keys.Not) (λ t ts us. refl);
  reads = λ more. behind_key_lawful keys.Not (inner 5) (Fits room 5) (NotContinued 5) (laws more 5 (omega arith));
  others = h;
  begins = λ e w rest k. begins_follows (λ v. at_key keys.Not v ≡ true) (key keys.Not) (λ p ts. refl) (w ++ rest) (first_is (key keys.Not) (Fits room 5 e) w rest k);
  differs = no_not;
  wraps = λ e w (a, b, splits, sign, fits). record { bound = omega arith; depth = omega (arith, fits.depth); spelled = (a, b, splits, sign, (fits.bound, fits.spelled)) };
  unwraps = not_or room;
})

-- the law of one rank
abbrev ByRank : (ℕ → Reader AstExprTree) → ℕ → ℕ → Type 0
ByRank inner room rank = Lawful (rank_reader inner room rank) (Fits (suc room) rank) (NotContinued rank)

-- a rank that operators may extend
by_chain : (inner : ℕ → Reader AstExprTree) (room m : ℕ) → InnerLaws inner room → (m ≢ 0) → (m ≢ 4) → ByRank inner room m → ByRank inner room (suc m)
by_chain inner room m laws a c h =
    lawful_reader (λ s. and_then (rank_reader inner room m s) (chain inner room (suc m) (turns_at (suc m) room))) (rank_reader inner room (suc m)) (Fits (suc room) (suc m)) (NotContinued (suc m))
    (λ s. rw (not_eqb m 0 a, not_eqb m 4 c) refl)
    (chained_lawful inner room m (rank_reader inner room m) laws a c h)

-- one rank from the next tighter one
next_rank : (inner : ℕ → Reader AstExprTree) (room m : ℕ) → InnerLaws inner room → ((eqb m 0 ≡ true) × (m ≡ 0)) ⊎ ((eqb m 0 ≡ false) × (m ≢ 0)) → ((eqb m 4 ≡ true) × (m ≡ 4)) ⊎ ((eqb m 4 ≡ false) × (m ≢ 4)) → ByRank inner room m → ByRank inner room (suc m)
next_rank inner room m laws (inl zeroth) c = subst (λ k. ByRank inner room k → ByRank inner room (suc k)) (sym zeroth.1) (minus_lawful inner room (rank_reader inner room 0) laws)
next_rank inner room m laws (inr a) (inl fourth) = subst (λ k. ByRank inner room k → ByRank inner room (suc k)) (sym fourth.1) (not_lawful inner room (rank_reader inner room 4) laws)
next_rank inner room m laws (inr a) (inr c) = by_chain inner room m laws a.1 c.1

-- every rank's reader is lawful where that of what stands by itself is
pub ranks_lawful : (inner : ℕ → Reader AstExprTree) (room : ℕ) → InnerLaws inner room → Lawful (prim_reader inner room) (Fits (suc room) 0) (NotContinued 0) → (rank : ℕ) → Lawful (rank_reader inner room rank) (Fits (suc room) rank) (NotContinued rank)
ranks_lawful inner room laws h zero = h
ranks_lawful inner room laws h (suc m) = next_rank inner room m laws (eqb_tells m 0) (eqb_tells m 4) (ranks_lawful inner room laws h m)
