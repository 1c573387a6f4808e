-- An expression of a rank as its leftmost part and the operators of that rank that extend it.
use Rattle.std.proofs.Common.{◌≡◌, ℕ, zero, suc, ◌≤◌, ◌⊎◌, inl, inr, true, false, List, [], ◌∷◌, ◌++◌, refl, sym, ap, ◌∙◌, append-nil, append_assoc, arith, eqb, ◌≢◌, subst}
use Rattle.std.specs.Prelude.{nat_eq}
use Rattle.std.proofs.lemmas.Bool.Decides.{eqb_tells}
use Rattle.yt_graph.specs.declared.expr.Op2.{Op2}
use Rattle.yt_graph.specs.AstPicture.{AstExprTree, number, name, minus, negation, two_sides, paren, call_of}
use Rattle.yt_graph.specs.AstWellFormed.{ast_expr_depth}
use Rattle.yt_grammar.specs.Lexemes.{Tok}
use Rattle.yt_grammar.specs.Forms.{Form}
use Rattle.yt_grammar.specs.Grammar.{op_lexeme, op_rank, left_rank, right_rank, rank_of, expr_form}
use Rattle.yt_grammar.specs.Inside.Reading.{turns_at}
use Rattle.yt_grammar.proofs.reading.Ranks.{not_eqb, op_left}

-- the tokens spell the expression, which binds no more loosely than a rank and is no deeper than there is room
pub record Fits (room rank : ℕ) (e : AstExprTree) (w : List Tok) : Type 0 where
  pub bound : rank_of e ≤ rank
  pub depth : ast_expr_depth e ≤ room
  pub spelled : expr_form e w

-- the tokens are an operator of the rank and its right side, which make a greater part of `left`, and then what extends that part
pub record Link (more : AstExprTree → Form) (rank room : ℕ) (left : AstExprTree) (op : Op2) (right : AstExprTree) (w : List Tok) : Type 0 where
  pub ranked : op_rank op ≡ rank
  pub low : ast_expr_depth left ≤ room
  pub sign : Tok
  pub written : sign.says ≡ op_lexeme op
  pub side : List Tok
  pub rest : List Tok
  pub splits : w ≡ sign ∷ side ++ rest
  pub fits : Fits room (right_rank op) right side
  pub extends : more (two_sides op left right) rest

-- `t` is `left`, extended by so many operators of the rank at most
abbrev pub Extends : ℕ → ℕ → ℕ → AstExprTree → AstExprTree → Form
Extends zero rank room t left w = (t ≡ left) × (w ≡ [])
Extends (suc n) rank room t left w =
    ((t ≡ left) × (w ≡ [])) ⊎ ((op : Op2) × (right : AstExprTree) × Link (Extends n rank room t) rank room left op right w)

-- a leftmost part of the next tighter rank, and what extends it
pub record Parts (n rank room : ℕ) (t : AstExprTree) (w : List Tok) : Type 0 where
  pub left : AstExprTree
  pub front : List Tok
  pub back : List Tok
  pub splits : w ≡ front ++ back
  pub fits : Fits (suc room) rank left front
  pub extends : Extends n (suc rank) room t left back

-- the same operator and right side, and then something else
relinked : (more other : AstExprTree → Form) (rank room : ℕ) (left : AstExprTree) (op : Op2) (right : AstExprTree) (w v : List Tok) (link : Link more rank room left op right w) (rest : List Tok) → v ≡ link.sign ∷ link.side ++ rest → other (two_sides op left right) rest → Link other rank room left op right v
relinked more other rank room left op right w v link rest splits extends = record {
  ranked = link.ranked;
  low = link.low;
  sign = link.sign;
  written = link.written;
  side = link.side;
  rest = rest;
  splits = splits;
  fits = link.fits;
  extends = extends;
}

-- an operator behind a left side, and its right side
joined : (room : ℕ) (op : Op2) (left right : AstExprTree) (sign : Tok) (w side : List Tok) → Fits (suc room) (left_rank op) left w → ast_expr_depth left ≤ room → sign.says ≡ op_lexeme op → Fits room (right_rank op) right side → Fits (suc room) (op_rank op) (two_sides op left right) (w ++ sign ∷ side)
joined room op left right sign w side l low written r = record {
  bound = omega arith;
  depth = omega (arith, low, r.depth);
  spelled = (w, sign ∷ side, refl, (l.bound, l.spelled), (sign ∷ [], side, refl, (sign, refl, written), (r.bound, r.spelled)));
}

-- what extends by nothing
stays : (room rank : ℕ) (t left : AstExprTree) (w v : List Tok) → Fits room rank left w → (t ≡ left) × (v ≡ []) → Fits room rank t (w ++ v)
stays room rank t left w v h same = rw (same.0, same.1, append-nil) h

-- an expression of a rank, other than that of comparisons, extended by operators of the rank is of that rank
extended : (n rank room : ℕ) (t left : AstExprTree) (w v : List Tok) → nat_eq rank 4 ≡ false → Fits (suc room) rank left w → Extends n rank room t left v → Fits (suc room) rank t (w ++ v)
extended zero rank room t left w v other h same = stays (suc room) rank t left w v h same
extended (suc n) rank room t left w v other h (inl same) = stays (suc room) rank t left w v h same
extended (suc n) rank room t left w v other h (inr (op, right, link)) =
    let same : left_rank op ≡ rank = op_left op ∙ rw (link.ranked, other) refl in
    let inner : Fits (suc room) (left_rank op) left w = rw same h in
    let more : Fits (suc room) rank (two_sides op left right) (w ++ link.sign ∷ link.side) = rw link.ranked at (joined room op left right link.sign w link.side inner link.low link.written link.fits) in
    rw (link.splits, ← append_assoc w (link.sign ∷ link.side) link.rest) (extended n rank room t (two_sides op left right) (w ++ link.sign ∷ link.side) link.rest other more link.extends)

-- an expression of the rank below that of comparisons, extended by a comparison, or by nothing
compared : (room : ℕ) (t left : AstExprTree) (w v : List Tok) → Fits (suc room) 3 left w → Extends 1 4 room t left v → Fits (suc room) 4 t (w ++ v)
compared room t left w v h (inl same) = stays (suc room) 4 t left w v (record { bound = omega (arith, h.bound); depth = h.depth; spelled = h.spelled }) same
compared room t left w v h (inr (op, right, link)) =
    let same : left_rank op ≡ 3 = op_left op ∙ rw link.ranked refl in
    let inner : Fits (suc room) (left_rank op) left w = rw same h in
    let more : Fits (suc room) 4 (two_sides op left right) (w ++ link.sign ∷ link.side) = rw link.ranked at (joined room op left right link.sign w link.side inner link.low link.written link.fits) in
    rw (link.splits, ← append_assoc w (link.sign ∷ link.side) link.rest) (stays (suc room) 4 t (two_sides op left right) (w ++ link.sign ∷ link.side) link.rest more link.extends)

-- more operators at most
more_at_most : (n k rank room : ℕ) (t left : AstExprTree) (w : List Tok) → n ≤ k → Extends n rank room t left w → Extends k rank room t left w
more_at_most zero zero rank room t left w fewer h = h
more_at_most zero (suc k) rank room t left w fewer h = inl h
more_at_most (suc n) zero rank room t left w fewer h = absurd (omega (arith, fewer))
more_at_most (suc n) (suc k) rank room t left w fewer (inl same) = inl same
more_at_most (suc n) (suc k) rank room t left w fewer (inr (op, right, link)) =
    inr (op, right, relinked (Extends n rank room t) (Extends k rank room t) rank room left op right w w link link.rest link.splits (more_at_most n k rank room t (two_sides op left right) link.rest (omega (arith, fewer)) link.extends))

-- no operators behind nothing
pub none_yet : (n rank room : ℕ) (t left : AstExprTree) (w : List Tok) → t ≡ left → w ≡ [] → Extends n rank room t left w
none_yet zero rank room t left w same empty = (same, empty)
none_yet (suc n) rank room t left w same empty = inl (same, empty)

-- an operator behind a left side that nothing has extended yet
first_one : (n rank room : ℕ) (left : AstExprTree) (op : Op2) (t right : AstExprTree) (w : List Tok) (sign : Tok) (side : List Tok) → (t ≡ left) × (w ≡ []) → op_rank op ≡ rank → ast_expr_depth t ≤ room → sign.says ≡ op_lexeme op → Fits room (right_rank op) right side → Extends (suc n) rank room (two_sides op t right) left (w ++ sign ∷ side)
first_one n rank room left op t right w sign side same ranked low written fits =
    inr (
      op,
      right,
      record {
        ranked = ranked;
        low = rw same.0 at low;
        sign = sign;
        written = written;
        side = side;
        rest = [];
        splits = rw (same.1, append-nil) refl;
        fits = fits;
        extends = none_yet n rank room (two_sides op t right) (two_sides op left right) [] (ap (λ e. two_sides op e right) same.0) refl;
      },
    )

-- one operator more behind those that are there
one_more : (n rank room : ℕ) (left : AstExprTree) (op : Op2) (t right : AstExprTree) (w : List Tok) (sign : Tok) (side : List Tok) → Extends n rank room t left w → op_rank op ≡ rank → ast_expr_depth t ≤ room → sign.says ≡ op_lexeme op → Fits room (right_rank op) right side → Extends (suc n) rank room (two_sides op t right) left (w ++ sign ∷ side)
one_more zero rank room left op t right w sign side same ranked low written fits = first_one zero rank room left op t right w sign side same ranked low written fits
one_more (suc n) rank room left op t right w sign side (inl same) ranked low written fits = first_one (suc n) rank room left op t right w sign side same ranked low written fits
one_more (suc n) rank room left op t right w sign side (inr (op', right', link)) ranked low written fits =
    let splits : w ++ sign ∷ side ≡ link.sign ∷ link.side ++ (link.rest ++ sign ∷ side) = ap (λ v. v ++ sign ∷ side) link.splits ∙ ap (λ v. link.sign ∷ v) (append_assoc link.side link.rest (sign ∷ side)) in
    inr (
      op',
      right',
      relinked (Extends n rank room t) (Extends (suc n) rank room (two_sides op t right)) rank room left op' right' w (w ++ sign ∷ side) link (link.rest ++ sign ∷ side) splits
          (one_more n rank room (two_sides op' left right') op t right link.rest sign side link.extends ranked low written fits),
    )

-- an expression that is of the next tighter rank is extended by nothing
bare : (n rank room : ℕ) (t : AstExprTree) (w : List Tok) → rank_of t ≤ rank → Fits (suc room) (suc rank) t w → Parts n rank room t w
bare n rank room t w tight h = record {
  left = t;
  front = w;
  back = [];
  splits = sym (append-nil w);
  fits = record { bound = tight; depth = h.depth; spelled = h.spelled };
  extends = none_yet n (suc rank) room t t [] refl refl;
}

-- the parts of an expression with two sides, which are those of its left side and one operator more
grown : (n rank room : ℕ) (op : Op2) (l r : AstExprTree) (sign : Tok) (w side : List Tok) → Parts n rank room l w → op_rank op ≡ suc rank → ast_expr_depth l ≤ room → sign.says ≡ op_lexeme op → Fits room (right_rank op) r side → Parts (suc n) rank room (two_sides op l r) (w ++ sign ∷ side)
grown n rank room op l r sign w side h ranked low written fits = record {
  left = h.left;
  front = h.front;
  back = h.back ++ sign ∷ side;
  splits = rw (h.splits, append_assoc h.front h.back (sign ∷ side)) refl;
  fits = h.fits;
  extends = one_more n (suc rank) room h.left op l r h.back sign side h.extends ranked low written fits;
}

-- more operators at most
more_parts : (n k rank room : ℕ) (t : AstExprTree) (w : List Tok) → n ≤ k → Parts n rank room t w → Parts k rank room t w
more_parts n k rank room t w fewer h = record {
  left = h.left;
  front = h.front;
  back = h.back;
  splits = h.splits;
  fits = h.fits;
  extends = more_at_most n k (suc rank) room t h.left h.back fewer h.extends;
}

-- the tokens of both sides and of the operator between them
record Sides (room : ℕ) (op : Op2) (l r : AstExprTree) (w : List Tok) : Type 0 where
  left_side : List Tok
  sign : Tok
  right_side : List Tok
  splits : w ≡ left_side ++ sign ∷ right_side
  left_bound : rank_of l ≤ left_rank op
  left_low : ast_expr_depth l ≤ room
  left_spelled : expr_form l left_side
  written : sign.says ≡ op_lexeme op
  right_fits : Fits room (right_rank op) r right_side

-- those of an expression with two sides
sides_of : (room rank : ℕ) (op : Op2) (l r : AstExprTree) (w : List Tok) → Fits (suc room) rank (two_sides op l r) w → Sides room op l r w
sides_of room rank op l r w h =
    let (front, back, splits, left, behind) = h.spelled in
    let (middle, end, splits', written, right) = behind in
    record {
      left_side = front;
      sign = written.0;
      right_side = end;
      splits = rw (splits, splits', written.1) refl;
      left_bound = left.0;
      left_low = omega (arith, h.depth);
      left_spelled = left.1;
      written = written.2;
      right_fits = record { bound = right.0; depth = omega (arith, h.depth); spelled = right.1 };
    }

-- numbers that differ do so one higher
suc_apart : (a b : ℕ) → (a ≡ b → ⊥) → suc a ≢ suc b
suc_apart a b differs = omega (arith, differs)

-- the parts of an expression with two sides whose operator is of the rank, where those of its left side are known
sides_within : (rank room : ℕ) (op : Op2) (l r : AstExprTree) (w : List Tok) → (rank ≡ 3 → ⊥) → ((v : List Tok) → Fits (suc room) (suc rank) l v → Parts (ast_expr_depth l) rank room l v) → Fits (suc room) (suc rank) (two_sides op l r) w → op_rank op ≡ suc rank → Parts (ast_expr_depth (two_sides op l r)) rank room (two_sides op l r) w
sides_within rank room op l r w other known h ranked =
    let sides = sides_of room (suc rank) op l r w h in
    let same : left_rank op ≡ suc rank = op_left op ∙ rw (ranked, not_eqb (suc rank) 4 (suc_apart rank 3 other)) refl in
    let left : Fits (suc room) (suc rank) l sides.left_side = record { bound = rw same at sides.left_bound; depth = omega (arith, sides.left_low); spelled = sides.left_spelled } in
    rw sides.splits (more_parts (suc (ast_expr_depth l)) (ast_expr_depth (two_sides op l r)) rank room (two_sides op l r) (sides.left_side ++ sides.sign ∷ sides.right_side) (omega arith)
    (grown (ast_expr_depth l) rank room op l r sides.sign sides.left_side sides.right_side (known sides.left_side left) ranked sides.left_low sides.written sides.right_fits))

-- the same, whatever the operator's rank
sides_cases : (rank room : ℕ) (op : Op2) (l r : AstExprTree) (w : List Tok) → (rank ≡ 3 → ⊥) → ((v : List Tok) → Fits (suc room) (suc rank) l v → Parts (ast_expr_depth l) rank room l v) → Fits (suc room) (suc rank) (two_sides op l r) w → ((eqb (op_rank op) (suc rank) ≡ true) × (op_rank op ≡ suc rank)) ⊎ ((eqb (op_rank op) (suc rank) ≡ false) × (op_rank op ≢ suc rank)) → Parts (ast_expr_depth (two_sides op l r)) rank room (two_sides op l r) w
sides_cases rank room op l r w other known h (inl same) = sides_within rank room op l r w other known h same.1
sides_cases rank room op l r w other known h (inr differs) = bare (ast_expr_depth (two_sides op l r)) rank room (two_sides op l r) w (omega (arith, h.bound, differs.1)) h

-- fewer operators than an expression is deep extend its leftmost part of the next tighter rank, at ranks other than those of comparisons, `-` and `not`
parts_within : (rank room : ℕ) (t : AstExprTree) (w : List Tok) → (rank ≡ 0 → ⊥) → (rank ≡ 3 → ⊥) → (rank ≡ 4 → ⊥) → Fits (suc room) (suc rank) t w → Parts (ast_expr_depth t) rank room t w
parts_within rank room (number n) w a b c h = bare (ast_expr_depth (number n)) rank room (number n) w (omega arith) h
parts_within rank room (name v) w a b c h = bare (ast_expr_depth (name v)) rank room (name v) w (omega arith) h
parts_within rank room (paren e) w a b c h = bare (ast_expr_depth (paren e)) rank room (paren e) w (omega arith) h
parts_within rank room (call_of v es) w a b c h = bare (ast_expr_depth (call_of v es)) rank room (call_of v es) w (omega arith) h
parts_within rank room (minus e) w a b c h = bare (ast_expr_depth (minus e)) rank room (minus e) w (omega (arith, a)) h
parts_within rank room (negation e) w a b c h = bare (ast_expr_depth (negation e)) rank room (negation e) w (omega (arith, c, h.bound)) h
parts_within rank room (two_sides op l r) w a b c h =
    sides_cases rank room op l r w b (λ v left. parts_within rank room l v a b c left) h (eqb_tells (op_rank op) (suc rank))

-- the parts of a comparison
comparison_sides : (room : ℕ) (op : Op2) (l r : AstExprTree) (w : List Tok) → Fits (suc room) 4 (two_sides op l r) w → ((eqb (op_rank op) 4 ≡ true) × (op_rank op ≡ 4)) ⊎ ((eqb (op_rank op) 4 ≡ false) × (op_rank op ≢ 4)) → Parts 1 3 room (two_sides op l r) w
comparison_sides room op l r w h (inl ranked) =
    let sides = sides_of room 4 op l r w h in
    let same : left_rank op ≡ 3 = op_left op ∙ rw ranked.1 refl in
    record {
      left = l;
      front = sides.left_side;
      back = sides.sign ∷ sides.right_side;
      splits = sides.splits;
      fits = record { bound = rw same at sides.left_bound; depth = omega (arith, sides.left_low); spelled = sides.left_spelled };
      extends = first_one 0 4 room l op l r [] sides.sign sides.right_side (refl, refl) ranked.1 sides.left_low sides.written sides.right_fits;
    }
comparison_sides room op l r w h (inr differs) = bare 1 3 room (two_sides op l r) w (omega (arith, h.bound, differs.1)) h

-- at most one comparison extends the leftmost part of the next tighter rank
compared_parts : (room : ℕ) (t : AstExprTree) (w : List Tok) → Fits (suc room) 4 t w → Parts 1 3 room t w
compared_parts room (number n) w h = bare 1 3 room (number n) w (omega arith) h
compared_parts room (name v) w h = bare 1 3 room (name v) w (omega arith) h
compared_parts room (paren e) w h = bare 1 3 room (paren e) w (omega arith) h
compared_parts room (call_of v es) w h = bare 1 3 room (call_of v es) w (omega arith) h
compared_parts room (minus e) w h = bare 1 3 room (minus e) w (omega arith) h
compared_parts room (negation e) w h = absurd (omega (arith, h.bound))
compared_parts room (two_sides op l r) w h = comparison_sides room op l r w h (eqb_tells (op_rank op) 4)

-- an expression of a rank that operators may extend is its leftmost part of the next tighter rank, extended by as many as are read
pub parts_of : (rank room : ℕ) (t : AstExprTree) (w : List Tok) → (rank ≡ 0 → ⊥) → (rank ≡ 4 → ⊥) → Fits (suc room) (suc rank) t w → Parts (turns_at (suc rank) room) rank room t w
parts_of rank room t w a c h = by_rank (eqb_tells (suc rank) 4)
  where
    by_rank : ((eqb (suc rank) 4 ≡ true) × (suc rank ≡ 4)) ⊎ ((eqb (suc rank) 4 ≡ false) × (suc rank ≢ 4)) → Parts (turns_at (suc rank) room) rank room t w
    by_rank (inl same) =
        let three : rank ≡ 3 = omega (arith, same.1) in
        subst (λ k. Parts (turns_at (suc k) room) k room t w) (sym three) (compared_parts room t w (rw three at h))
    by_rank (inr differs) =
        rw differs.0 (more_parts (ast_expr_depth t) (suc room) rank room t w h.depth (parts_within rank room t w a (omega (arith, differs.1)) c h))

-- and so it is put together
pub whole_of : (rank room : ℕ) (t left : AstExprTree) (w v : List Tok) → Fits (suc room) rank left w → Extends (turns_at (suc rank) room) (suc rank) room t left v → Fits (suc room) (suc rank) t (w ++ v)
whole_of rank room t left w v h more = by_rank (eqb_tells (suc rank) 4) h more
  where
    by_rank : ((eqb (suc rank) 4 ≡ true) × (suc rank ≡ 4)) ⊎ ((eqb (suc rank) 4 ≡ false) × (suc rank ≢ 4)) → Fits (suc room) rank left w → Extends (turns_at (suc rank) room) (suc rank) room t left v → Fits (suc room) (suc rank) t (w ++ v)
    by_rank (inl same) =
        let three : rank ≡ 3 = omega (arith, same.1) in
        subst (λ k. Fits (suc room) k left w → Extends (turns_at (suc k) room) (suc k) room t left v → Fits (suc room) (suc k) t (w ++ v)) (sym three) (compared room t left w v)
    by_rank (inr differs) = λ h more.
        extended (suc room) (suc rank) room t left w v differs.0 (record { bound = omega (arith, h.bound); depth = h.depth; spelled = h.spelled }) (rw differs.0 at more)
