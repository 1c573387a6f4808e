-- Where instructions stand in code, and how many a tree has.
use Rattle.std.proofs.Common.{◌≡◌, ℕ, ◌+◌, ◌<◌, List, [], ◌∷◌, ◌++◌, length, Some, refl, ap, ◌∙◌, subst, arith, append_assoc, length-append}
use Rattle.std.specs.Prelude.{slice_get}
use Rattle.std.proofs.Math.Seq.{get_or-append_seam}
use Rattle.std.proofs.lemmas.Option.{slice_get-get_or}
use Rattle.yt_graph.specs.Picture.{ExprTree, num, local, var, neg, lnot, two, call, ExprsTree, no_exprs, more_exprs, StmtTree, set_local, set_var, send, if_only, if_else, repeat, BlockTree, empty, more}
use Rattle.yt_code.specs.declared.instr.Instr.TheVariants.{SetLocal, SetVar, Neg, Not, Two, Call, Send, JumpZero, Jump, Loop, Again}
use Rattle.yt_graph.specs.WellFormed.{exprs_count}
use Rattle.yt_cost.specs.CodeSizes.{expr_size, exprs_size, stmt_size, block_size}
use Rattle.yt_cost.specs.Code.{expr_code, exprs_code, stmt_code, block_code}

module _ {A : Type 0} where
  -- the items stand in the list at this place
  abbrev pub HasAt : List A → ℕ → List A → Type 0
  HasAt all p [] = Unit {0}
  HasAt all p (i ∷ is) = (slice_get all p ≡ Some i) × HasAt all (p + 1) is

  pub has_front : (all : List A) (p : ℕ) (a b : List A) → HasAt all p (a ++ b) → HasAt all p a
  has_front all p [] b h = tt
  has_front all p (i ∷ a) b h = (h.0, has_front all (p + 1) a b h.1)

  pub has_back : (all : List A) (p n : ℕ) (a b : List A) → length a ≡ n → HasAt all p (a ++ b) → HasAt all (p + n) b
  has_back all p n [] b e h = let q : p ≡ p + n = omega arith in subst (λ m. HasAt all m b) q h
  has_back all p n (i ∷ a) b e h =
      let q : p + 1 + length a ≡ p + n = omega arith in
      subst (λ m. HasAt all m b) q (has_back all (p + 1) (length a) a b refl h.1)

  pub has_all : (is before : List A) → HasAt (before ++ is) (length before) is
  has_all [] before = tt
  has_all (i ∷ is) before =
      let within : length before < length (before ++ i ∷ is) = omega (arith, length-append before (i ∷ is)) in
      let here = slice_get-get_or (before ++ i ∷ is) (length before) i within ∙ ap Some (get_or-append_seam before i is i) in
      let n : length (before ++ i ∷ []) ≡ length before + 1 = omega (arith, length-append before (i ∷ [])) in
      let rest = subst (λ l. HasAt l (length (before ++ i ∷ [])) is) (append_assoc before (i ∷ []) is) (has_all is (before ++ i ∷ [])) in
      (here, subst (λ m. HasAt (before ++ i ∷ is) m is) n rest)

mutual
  pub length-expr_code : (e : ExprTree) → length (expr_code e) ≡ expr_size e
  length-expr_code (num n) = refl
  length-expr_code (local i) = refl
  length-expr_code (var i) = refl
  length-expr_code (neg e) = omega (arith, length-append (expr_code e) (Neg ∷ []), length-expr_code e)
  length-expr_code (lnot e) = omega (arith, length-append (expr_code e) (Not ∷ []), length-expr_code e)
  length-expr_code (two op l r) =
      omega (arith, length-append (expr_code l) (expr_code r ++ Two op ∷ []), length-append (expr_code r) (Two op ∷ []), length-expr_code l, length-expr_code r)
  length-expr_code (call op code ticks args) =
      omega (arith, length-append (exprs_code args) (Call op (exprs_count args) ticks code ∷ []), length-exprs_code args)

  pub length-exprs_code : (es : ExprsTree) → length (exprs_code es) ≡ exprs_size es
  length-exprs_code no_exprs = refl
  length-exprs_code (more_exprs e es) =
      omega (arith, length-append (expr_code e) (exprs_code es), length-expr_code e, length-exprs_code es)

mutual
  pub length-stmt_code : (a : StmtTree) (p : ℕ) → length (stmt_code a p) ≡ stmt_size a
  length-stmt_code (set_local i e) p = omega (arith, length-append (expr_code e) (SetLocal i ∷ []), length-expr_code e)
  length-stmt_code (set_var i e) p = omega (arith, length-append (expr_code e) (SetVar i ∷ []), length-expr_code e)
  length-stmt_code (send o es) p =
      omega (arith, length-append (exprs_code es) (Send o (exprs_count es) ∷ []), length-exprs_code es)
  length-stmt_code (if_only e first) p =
      let b = block_code first (p + (expr_size e + 1)) in
      omega (arith, length-append (expr_code e) (JumpZero (p + (expr_size e + 1 + block_size first)) ∷ b), length-expr_code e, length-block_code first (p + (expr_size e + 1)))
  length-stmt_code (if_else e first second) p =
      let a = block_code first (p + (expr_size e + 1)) in
      let b = block_code second (p + (expr_size e + 1 + (block_size first + 1))) in
      let j = Jump (p + (expr_size e + 1 + (block_size first + 1) + block_size second)) in
      omega (arith, length-append (expr_code e) (JumpZero (p + (expr_size e + 1 + (block_size first + 1))) ∷ (a ++ (j ∷ b))), length-append a (j ∷ b), length-expr_code e, length-block_code first (p + (expr_size e + 1)), length-block_code second (p + (expr_size e + 1 + (block_size first + 1))))
  length-stmt_code (repeat e most body) p =
      let b = block_code body (p + (expr_size e + 1)) in
      let j = Again (p + (expr_size e + 1)) in
      omega (arith, length-append (expr_code e) (Loop most (p + (expr_size e + 1 + (block_size body + 1))) ∷ (b ++ j ∷ [])), length-append b (j ∷ []), length-expr_code e, length-block_code body (p + (expr_size e + 1)))

  pub length-block_code : (b : BlockTree) (p : ℕ) → length (block_code b p) ≡ block_size b
  length-block_code empty p = refl
  length-block_code (more a rest) p =
      omega (arith, length-append (stmt_code a p) (block_code rest (p + stmt_size a)), length-stmt_code a p, length-block_code rest (p + stmt_size a))
