-- The law of reading operators of one rank, one behind the other.
use Rattle.std.proofs.Common.{◌≡◌, ℕ, zero, suc, ◌≤◌, ◌<◌, inl, inr, Bool, true, false, if◌then◌else◌, Option, None, Some, List, [], ◌∷◌, ◌++◌, refl, sym, ap, ◌∙◌, subst, arith, nat_le, leb-true, le-leb}
use Rattle.yt_graph.specs.declared.expr.Op2.{Op2}
use Rattle.yt_graph.specs.AstPicture.{AstExprTree, number, name, minus, negation, two_sides, paren, call_of}
use Rattle.yt_graph.specs.AstWellFormed.{ast_expr_depth}
use Rattle.yt_grammar.specs.Lexemes.{Tok}
use Rattle.yt_grammar.specs.Forms.{Form}
use Rattle.yt_grammar.specs.Grammar.{op_lexeme, op_rank, right_rank}
use Rattle.yt_grammar.specs.Inside.Reading.{got, stuck, Reader, and_then, op_at, behind, link, chain}
use Rattle.yt_grammar.proofs.reading.Lawful.{SameHead, ReadsFront, StopsBehind, Lawful}
use Rattle.yt_grammar.proofs.reading.Follows.{NotContinued}
use Rattle.yt_grammar.proofs.reading.Heads.{same_self}
use Rattle.yt_grammar.proofs.reading.Sequences.{Then, and_then_lawful}
use Rattle.yt_grammar.proofs.reading.Ranks.{op_right, op_ranked}
use Rattle.yt_grammar.proofs.reading.Chains.{Fits, Extends}
use Rattle.yt_grammar.proofs.reading.Operators.{IsOperator, op_at_tells, op_at-sign, op_at_same, op_at_none, tighter, looser_sign}

-- the parts of an expression are read by a reader that is lawful where there is room
abbrev pub InnerLaws : (ℕ → Reader AstExprTree) → ℕ → Type 0
InnerLaws inner room = 0 < room → (k : ℕ) → k ≤ 7 → Lawful (inner k) (Fits room k) (NotContinued k)

-- what is read alike without a token
record ReadsNothing {X : Type 0} (p : Reader X) (x : X) (s : List Tok) : Type 0 where
  alike : (other : List Tok) → SameHead s other → p other ≡ got x other

-- such a thing was read from no token
nothing_sound : {X : Type 0} (p : Reader X) (form : X → Form) (y : X) (s : List Tok) → ReadsNothing p y s → form y [] → (x : X) (rest : List Tok) → p s ≡ got x rest → ReadsFront p form s x rest
nothing_sound p form y s h k x rest e =
    let is : got y s ≡ got x rest = sym (h.alike s (same_self s)) ∙ e in
    let thing : y ≡ x = cc in
    let left : s ≡ rest = cc in
    record {
      front = [];
      splits = left;
      spelled = subst (λ z. form z []) thing k;
      local = λ other same. h.alike other (subst (λ r. SameHead r other) (sym left) same) ∙ ap (λ z. got z other) thing;
    }

-- such reading is never stuck
nothing_stops : {X : Type 0} (p : Reader X) (form : X → Form) (y : X) (s : List Tok) → ReadsNothing p y s → (rest : List Tok) → p s ≡ stuck rest → StopsBehind p form s rest
nothing_stops p form y s h rest e =
    let is : got y s ≡ stuck rest = sym (h.alike s (same_self s)) ∙ e in
    absurd cc

-- every expression has a depth
pub depth_one : (e : AstExprTree) → 1 ≤ ast_expr_depth e
depth_one (number n) = omega arith
depth_one (name w) = omega arith
depth_one (minus e) = omega arith
depth_one (negation e) = omega arith
depth_one (two_sides op l r) = omega arith
depth_one (paren e) = omega arith
depth_one (call_of w es) = omega arith

-- what comes behind an extended expression comes behind its left side, for a tighter rank
pub behind_left : (n rank room j : ℕ) (t left : AstExprTree) (b rest : List Tok) → j < rank → Extends n rank room t left b → NotContinued rank rest → NotContinued j (b ++ rest)
behind_left zero rank room j t left b rest less h k = rw h.1 (tighter j rank rest (omega (arith, less)) k)
behind_left (suc n) rank room j t left b rest less (inl h) k = rw h.1 (tighter j rank rest (omega (arith, less)) k)
behind_left (suc n) rank room j t left b rest less (inr (op, right, link)) k =
    rw link.splits (looser_sign j link.sign (link.side ++ link.rest ++ rest) op link.written (omega (arith, less, link.ranked)))

module _ (inner : ℕ → Reader AstExprTree) (room rank n : ℕ) (left : AstExprTree) where
  -- the right side of an operator, and then what else extends
  abbrev tail : Op2 → Reader AstExprTree
  tail op s = and_then (inner (right_rank op) s) (λ right. chain inner room rank n (two_sides op left right))

  -- without an operator of the rank
  step_none : (s : List Tok) → op_at rank s ≡ None → chain inner room rank (suc n) left s ≡ got left s
  step_none s e = ap (λ o. link inner room left (chain inner room rank n) o s) e

  -- without room for one
  step_deep : (s : List Tok) (op : Op2) → op_at rank s ≡ Some op → nat_le (ast_expr_depth left) room ≡ false → chain inner room rank (suc n) left s ≡ got left s
  step_deep s op e deep = ap (λ o. link inner room left (chain inner room rank n) o s) e ∙ ap (λ b. if b then tail op (behind s) else got left s) deep

  -- with both
  step_on : (s : List Tok) (op : Op2) → op_at rank s ≡ Some op → nat_le (ast_expr_depth left) room ≡ true → chain inner room rank (suc n) left s ≡ tail op (behind s)
  step_on s op e low = ap (λ o. link inner room left (chain inner room rank n) o s) e ∙ ap (λ b. if b then tail op (behind s) else got left s) low

  -- what is read behind an operator
  abbrev Tail : Op2 → AstExprTree → Form
  Tail op = Then (Fits room (right_rank op)) (λ right t. Extends n rank room t (two_sides op left right))

  -- that is lawful, as the right side is, where further operators are
  tail_lawful : InnerLaws inner room → ((other : AstExprTree) → Lawful (chain inner room rank n other) (λ t. Extends n rank room t other) (NotContinued rank)) → (op : Op2) → op_rank op ≡ rank → ast_expr_depth left ≤ room → Lawful (tail op) (Tail op) (NotContinued rank)
  tail_lawful laws more op of_rank low = and_then_lawful (inner (right_rank op)) (λ right. chain inner room rank n (two_sides op left right)) (Fits room (right_rank op)) (λ right t. Extends n rank room t (two_sides op left right)) (NotContinued (right_rank op)) (NotContinued rank) (record {
    begins = laws (omega (arith, low, depth_one left)) (right_rank op) (omega (arith, op_right op, op_ranked op));
    goes_on = λ right a k. more (two_sides op left right);
    joins = λ right t a b rest k m f. behind_left n rank room (right_rank op) t (two_sides op left right) b rest (omega (arith, op_right op, of_rank)) m f;
  })

  -- nothing is read where no operator of the rank comes, or where there is no room for it
  none_read : (s : List Tok) → op_at rank s ≡ None → ReadsNothing (chain inner room rank (suc n) left) left s
  none_read s e = record { alike = λ other same. step_none other (op_at_same rank s other same ∙ e) }

  -- nor where there is no room for one
  deep_read : (s : List Tok) (op : Op2) → op_at rank s ≡ Some op → nat_le (ast_expr_depth left) room ≡ false → ReadsNothing (chain inner room rank (suc n) left) left s
  deep_read s op e deep = record { alike = λ other same. step_deep other op (op_at_same rank s other same ∙ e) deep }

  -- an operator and what is read behind it
  behind_sign : (op : Op2) (sign : Tok) (other : List Tok) → sign.says ≡ op_lexeme op → op_rank op ≡ rank → ast_expr_depth left ≤ room → chain inner room rank (suc n) left (sign ∷ other) ≡ tail op other
  behind_sign op sign other written of_rank low = step_on (sign ∷ other) op (op_at-sign rank sign other op written of_rank) (le-leb (ast_expr_depth left) room low)

  -- what an operator and the tokens behind it are together
  linked : (op : Op2) (sign : Tok) (t : AstExprTree) (w : List Tok) → sign.says ≡ op_lexeme op → op_rank op ≡ rank → ast_expr_depth left ≤ room → Tail op t w → Extends (suc n) rank room t left (sign ∷ w)
  linked op sign t w written of_rank low (right, (a, b, splits, fits, extends)) = inr (
    op,
    right,
    record {
      ranked = of_rank;
      low = low;
      sign = sign;
      written = written;
      side = a;
      rest = b;
      splits = ap (λ v. sign ∷ v) splits;
      fits = fits;
      extends = extends;
    },
  )

  -- reading goes on behind an operator
  on_sound : (s : List Tok) (op : Op2) (t : AstExprTree) (rest : List Tok) → IsOperator rank op s → ast_expr_depth left ≤ room → ReadsFront (tail op) (Tail op) (behind s) t rest → ReadsFront (chain inner room rank (suc n) left) (λ x. Extends (suc n) rank room x left) s t rest
  on_sound s op t rest o low a = record {
    front = o.sign ∷ a.front;
    splits = o.splits ∙ ap (λ v. o.sign ∷ v) a.splits;
    spelled = linked op o.sign t a.front o.written o.of_rank low a.spelled;
    local = λ other same. behind_sign op o.sign (a.front ++ other) o.written o.of_rank low ∙ a.local other same;
  }

  -- reading is stuck behind an operator
  on_stops : (s : List Tok) (op : Op2) (rest : List Tok) → IsOperator rank op s → ast_expr_depth left ≤ room → StopsBehind (tail op) (Tail op) (behind s) rest → StopsBehind (chain inner room rank (suc n) left) (λ x. Extends (suc n) rank room x left) s rest
  on_stops s op rest o low a = record {
    front = o.sign ∷ a.front;
    splits = o.splits ∙ ap (λ v. o.sign ∷ v) a.splits;
    missing = a.missing;
    fine = a.fine;
    thing = a.thing;
    completed = linked op o.sign a.thing (a.front ++ a.missing) o.written o.of_rank low a.completed;
    local = λ other same. behind_sign op o.sign (a.front ++ other) o.written o.of_rank low ∙ a.local other same;
  }

  module _ (laws : InnerLaws inner room) (more : (other : AstExprTree) → Lawful (chain inner room rank n other) (λ t. Extends n rank room t other) (NotContinued rank)) where
    -- what was read, by the operator that comes and by the room
    sound_cases : (s : List Tok) (t : AstExprTree) (rest : List Tok) → (o : Option Op2) → op_at rank s ≡ o → (b : Bool) → nat_le (ast_expr_depth left) room ≡ b → chain inner room rank (suc n) left s ≡ got t rest → ReadsFront (chain inner room rank (suc n) left) (λ x. Extends (suc n) rank room x left) s t rest
    sound_cases s t rest None e b d is = nothing_sound (chain inner room rank (suc n) left) (λ x. Extends (suc n) rank room x left) left s (none_read s e) (inl (refl, refl)) t rest is
    sound_cases s t rest (Some op) e false d is = nothing_sound (chain inner room rank (suc n) left) (λ x. Extends (suc n) rank room x left) left s (deep_read s op e d) (inl (refl, refl)) t rest is
    sound_cases s t rest (Some op) e true d is =
        let o = op_at_tells rank s op e in
        let low = leb-true (ast_expr_depth left) room d in
        on_sound s op t rest o low ((tail_lawful laws more op o.of_rank low).sound (behind s) t rest (sym (step_on s op e d) ∙ is))

    -- where reading is stuck, by the same
    stops_cases : (s rest : List Tok) → (o : Option Op2) → op_at rank s ≡ o → (b : Bool) → nat_le (ast_expr_depth left) room ≡ b → chain inner room rank (suc n) left s ≡ stuck rest → StopsBehind (chain inner room rank (suc n) left) (λ x. Extends (suc n) rank room x left) s rest
    stops_cases s rest None e b d is = nothing_stops (chain inner room rank (suc n) left) (λ x. Extends (suc n) rank room x left) left s (none_read s e) rest is
    stops_cases s rest (Some op) e false d is = nothing_stops (chain inner room rank (suc n) left) (λ x. Extends (suc n) rank room x left) left s (deep_read s op e d) rest is
    stops_cases s rest (Some op) e true d is =
        let o = op_at_tells rank s op e in
        let low = leb-true (ast_expr_depth left) room d in
        on_stops s op rest o low ((tail_lawful laws more op o.of_rank low).stops (behind s) rest (sym (step_on s op e d) ∙ is))

    -- what extends is read
    complete_cases : (w : List Tok) (t : AstExprTree) (rest : List Tok) → Extends (suc n) rank room t left w → NotContinued rank rest → chain inner room rank (suc n) left (w ++ rest) ≡ got t rest
    complete_cases w t rest (inl (same, empty)) f = rw (empty, same) (step_none rest (op_at_none rank rest f))
    complete_cases w t rest (inr (op, right, link)) f =
        rw link.splits (behind_sign op link.sign (link.side ++ link.rest ++ rest) link.written link.ranked link.low
        ∙ (tail_lawful laws more op link.ranked link.low).complete (link.side ++ link.rest) t rest (right, (link.side, link.rest, refl, link.fits, link.extends)) f)

    -- so many operators and one more are read as the left side is extended by them
    next_lawful : Lawful (chain inner room rank (suc n) left) (λ t. Extends (suc n) rank room t left) (NotContinued rank)
    next_lawful = record {
      sound = λ s t rest is. sound_cases s t rest (op_at rank s) refl (nat_le (ast_expr_depth left) room) refl is;
      stops = λ s rest is. stops_cases s rest (op_at rank s) refl (nat_le (ast_expr_depth left) room) refl is;
      complete = complete_cases;
    }

-- operators of a rank, and their right sides, are read as an expression is extended by them
pub chain_lawful : (inner : ℕ → Reader AstExprTree) (room rank : ℕ) → InnerLaws inner room → (n : ℕ) (left : AstExprTree) → Lawful (chain inner room rank n left) (λ t. Extends n rank room t left) (NotContinued rank)
chain_lawful inner room rank laws zero left = record {
  sound = λ s. nothing_sound (chain inner room rank zero left) (λ t. Extends zero rank room t left) left s (record { alike = λ other same. refl }) (refl, refl);
  stops = λ s rest is. absurd cc;
  complete = λ w t rest h f. rw (h.0, h.1) refl;
}
chain_lawful inner room rank laws (suc n) left = next_lawful inner room rank n left laws (chain_lawful inner room rank laws n)
