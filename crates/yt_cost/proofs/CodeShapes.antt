-- How many numbers are on the stack, and how many loops are open, before each instruction of a tree.
use Rattle.std.proofs.Common.{◌≡◌, ℕ, ◌+◌, ◌≤◌, max, List, [], ◌∷◌, ◌++◌, length, replicate, refl, subst, arith, length-append}
use Rattle.std.proofs.lemmas.List.{length-replicate}
use Rattle.yt_graph.specs.Picture.{ExprTree, num, local, var, neg, lnot, two, call, ExprsTree, no_exprs, more_exprs, StmtTree, set_local, set_var, send, if_only, if_else, repeat, BlockTree, empty, more}
use Rattle.yt_code.specs.Valid.{Shape, Leads}
use Rattle.yt_graph.specs.WellFormed.{exprs_count, expr_depth}
use Rattle.yt_cost.specs.CodeSizes.{expr_size, exprs_size, stmt_size, block_size}
use Rattle.yt_cost.proofs.CodePlaces.{HasAt, has_front}

abbrev pub shape : ℕ → ℕ → Shape
shape d o = record { depth = d; open_loops = o }

-- the most numbers that an expression has on the stack
abbrev pub expr_height : ExprTree → ℕ
expr_height (num n) = 1
expr_height (local i) = 1
expr_height (var i) = 1
expr_height (neg e) = expr_height e
expr_height (lnot e) = expr_height e
expr_height (two op l r) = max (expr_height l) (1 + expr_height r)
expr_height (call op code ticks args) = 1

pub some_height : (e : ExprTree) → 1 ≤ expr_height e
some_height (num n) = omega arith
some_height (local i) = omega arith
some_height (var i) = omega arith
some_height (neg e) = some_height e
some_height (lnot e) = some_height e
some_height (two op l r) = omega (arith, some_height l)
some_height (call op code ticks args) = omega arith

-- which are no more than its levels
pub height_le_depth : (e : ExprTree) → expr_height e ≤ expr_depth e
height_le_depth (num n) = omega arith
height_le_depth (local i) = omega arith
height_le_depth (var i) = omega arith
height_le_depth (neg e) = omega (arith, height_le_depth e)
height_le_depth (lnot e) = omega (arith, height_le_depth e)
height_le_depth (two op l r) = omega (arith, height_le_depth l, height_le_depth r)
height_le_depth (call op code ticks args) = omega arith

-- the shapes of an expression that begins with d numbers on the stack and o loops open; code with calls has none that matter
abbrev pub expr_shapes : ExprTree → ℕ → ℕ → List Shape
expr_shapes (num n) d o = shape d o ∷ []
expr_shapes (local i) d o = shape d o ∷ []
expr_shapes (var i) d o = shape d o ∷ []
expr_shapes (neg e) d o = expr_shapes e d o ++ shape (d + 1) o ∷ []
expr_shapes (lnot e) d o = expr_shapes e d o ++ shape (d + 1) o ∷ []
expr_shapes (two op l r) d o = expr_shapes l d o ++ (expr_shapes r (d + 1) o ++ shape (d + 2) o ∷ [])
expr_shapes (call op code ticks args) d o = shape d o ∷ replicate (exprs_size args) (shape d o)

abbrev pub exprs_shapes : ExprsTree → ℕ → ℕ → List Shape
exprs_shapes no_exprs d o = []
exprs_shapes (more_exprs e es) d o = expr_shapes e d o ++ exprs_shapes es (d + 1) o

abbrev mutual
  pub stmt_shapes : StmtTree → ℕ → List Shape
  stmt_shapes (set_local i e) o = expr_shapes e 0 o ++ shape 1 o ∷ []
  stmt_shapes (set_var i e) o = expr_shapes e 0 o ++ shape 1 o ∷ []
  stmt_shapes (send out es) o = exprs_shapes es 0 o ++ shape (exprs_count es) o ∷ []
  stmt_shapes (if_only e first) o = expr_shapes e 0 o ++ (shape 1 o ∷ block_shapes first o)
  stmt_shapes (if_else e first second) o =
      expr_shapes e 0 o ++ (shape 1 o ∷ (block_shapes first o ++ (shape 0 o ∷ block_shapes second o)))
  stmt_shapes (repeat e most body) o =
      expr_shapes e 0 o ++ (shape 1 o ∷ (block_shapes body (o + 1) ++ shape 0 (o + 1) ∷ []))

  pub block_shapes : BlockTree → ℕ → List Shape
  block_shapes empty o = []
  block_shapes (more a rest) o = stmt_shapes a o ++ block_shapes rest o

pub length-expr_shapes : (e : ExprTree) (d o : ℕ) → length (expr_shapes e d o) ≡ expr_size e
length-expr_shapes (num n) d o = refl
length-expr_shapes (local i) d o = refl
length-expr_shapes (var i) d o = refl
length-expr_shapes (neg e) d o = omega (arith, length-append (expr_shapes e d o) (shape (d + 1) o ∷ []), length-expr_shapes e d o)
length-expr_shapes (lnot e) d o = omega (arith, length-append (expr_shapes e d o) (shape (d + 1) o ∷ []), length-expr_shapes e d o)
length-expr_shapes (two op l r) d o =
    omega (arith, length-append (expr_shapes l d o) (expr_shapes r (d + 1) o ++ shape (d + 2) o ∷ []), length-append (expr_shapes r (d + 1) o) (shape (d + 2) o ∷ []), length-expr_shapes l d o, length-expr_shapes r (d + 1) o)
length-expr_shapes (call op code ticks args) d o = omega (arith, length-replicate (exprs_size args) (shape d o))

pub length-exprs_shapes : (es : ExprsTree) (d o : ℕ) → length (exprs_shapes es d o) ≡ exprs_size es
length-exprs_shapes no_exprs d o = refl
length-exprs_shapes (more_exprs e es) d o =
    omega (arith, length-append (expr_shapes e d o) (exprs_shapes es (d + 1) o), length-expr_shapes e d o, length-exprs_shapes es (d + 1) o)

mutual
  pub length-stmt_shapes : (a : StmtTree) (o : ℕ) → length (stmt_shapes a o) ≡ stmt_size a
  length-stmt_shapes (set_local i e) o = omega (arith, length-append (expr_shapes e 0 o) (shape 1 o ∷ []), length-expr_shapes e 0 o)
  length-stmt_shapes (set_var i e) o = omega (arith, length-append (expr_shapes e 0 o) (shape 1 o ∷ []), length-expr_shapes e 0 o)
  length-stmt_shapes (send out es) o =
      omega (arith, length-append (exprs_shapes es 0 o) (shape (exprs_count es) o ∷ []), length-exprs_shapes es 0 o)
  length-stmt_shapes (if_only e first) o =
      omega (arith, length-append (expr_shapes e 0 o) (shape 1 o ∷ block_shapes first o), length-expr_shapes e 0 o, length-block_shapes first o)
  length-stmt_shapes (if_else e first second) o =
      let b = shape 0 o ∷ block_shapes second o in
      omega (arith, length-append (expr_shapes e 0 o) (shape 1 o ∷ (block_shapes first o ++ b)), length-append (block_shapes first o) b, length-expr_shapes e 0 o, length-block_shapes first o, length-block_shapes second o)
  length-stmt_shapes (repeat e most body) o =
      let b = shape 0 (o + 1) ∷ [] in
      omega (arith, length-append (expr_shapes e 0 o) (shape 1 o ∷ (block_shapes body (o + 1) ++ b)), length-append (block_shapes body (o + 1)) b, length-expr_shapes e 0 o, length-block_shapes body (o + 1))

  pub length-block_shapes : (b : BlockTree) (o : ℕ) → length (block_shapes b o) ≡ block_size b
  length-block_shapes empty o = refl
  length-block_shapes (more a rest) o =
      omega (arith, length-append (stmt_shapes a o) (block_shapes rest o), length-stmt_shapes a o, length-block_shapes rest o)

module _ (all : List Shape) where
  -- the same place and shape, written otherwise
  pub move : (p q d e o : ℕ) → p ≡ q → d ≡ e → Leads all p d o → Leads all q e o
  move p q d e o ep ed h = subst (λ k. Leads all k e o) ep (subst (λ k. Leads all p k o) ed h)

  -- the first instruction of a tree has the shape that the tree begins with, where the place behind the tree has its own
  pub expr_starts : (e : ExprTree) (p d o : ℕ) → HasAt all p (expr_shapes e d o) → Leads all p d o
  expr_starts (num n) p d o h = h.0
  expr_starts (local i) p d o h = h.0
  expr_starts (var i) p d o h = h.0
  expr_starts (neg e) p d o h = expr_starts e p d o (has_front all p (expr_shapes e d o) _ h)
  expr_starts (lnot e) p d o h = expr_starts e p d o (has_front all p (expr_shapes e d o) _ h)
  expr_starts (two op l r) p d o h = expr_starts l p d o (has_front all p (expr_shapes l d o) _ h)
  expr_starts (call op code ticks args) p d o h = h.0

  pub exprs_starts : (es : ExprsTree) (p d o : ℕ) → HasAt all p (exprs_shapes es d o) → Leads all (p + exprs_size es) (d + exprs_count es) o → Leads all p d o
  exprs_starts no_exprs p d o h next = move (p + 0) p (d + 0) d o (omega arith) (omega arith) next
  exprs_starts (more_exprs e es) p d o h next = expr_starts e p d o (has_front all p (expr_shapes e d o) _ h)

  pub stmt_starts : (a : StmtTree) (p o : ℕ) → HasAt all p (stmt_shapes a o) → Leads all p 0 o
  stmt_starts (set_local i e) p o h = expr_starts e p 0 o (has_front all p (expr_shapes e 0 o) _ h)
  stmt_starts (set_var i e) p o h = expr_starts e p 0 o (has_front all p (expr_shapes e 0 o) _ h)
  stmt_starts (send out no_exprs) p o h = h.0
  stmt_starts (send out (more_exprs e es)) p o h =
      expr_starts e p 0 o (has_front all p (expr_shapes e 0 o) _ (has_front all p (exprs_shapes (more_exprs e es) 0 o) _ h))
  stmt_starts (if_only e first) p o h = expr_starts e p 0 o (has_front all p (expr_shapes e 0 o) _ h)
  stmt_starts (if_else e first second) p o h = expr_starts e p 0 o (has_front all p (expr_shapes e 0 o) _ h)
  stmt_starts (repeat e most body) p o h = expr_starts e p 0 o (has_front all p (expr_shapes e 0 o) _ h)

  pub block_starts : (b : BlockTree) (p o : ℕ) → HasAt all p (block_shapes b o) → Leads all (p + block_size b) 0 o → Leads all p 0 o
  block_starts empty p o h next = move (p + 0) p 0 0 o (omega arith) refl next
  block_starts (more a rest) p o h next = stmt_starts a p o (has_front all p (stmt_shapes a o) _ h)
