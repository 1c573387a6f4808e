-- What compiling needs of a handler, place by place.
use Rattle.std.proofs.Common.{◌≡◌, ℕ, ◌<◌, ◌≤◌, Bool, true, false, List, length, Option, None, Some, refl, subst, arith}
use Rattle.std.specs.Prelude.{◌||◌, slice_get, IsSomeAnd}
use Rattle.std.specs.List.{All}
use Rattle.std.proofs.lemmas.Option.{slice_get_within, get_or_from_slice_get}
use Rattle.yt_graph.specs.declared.graph as graph
use Rattle.yt_graph.specs.declared.port.OutHead.{OutHead}
use Rattle.yt_graph.specs.Picture.{ExprTree, num, local, var, neg, lnot, two, call, ExprsTree, no_exprs, more_exprs, StmtTree, set_local, set_var, send, if_only, if_else, repeat, BlockTree, empty, more, PortTree, GraphTree}
use Rattle.yt_graph.specs.WellFormed.{expr_depth, exprs_depth, exprs_count, block_depth, IsFineExpr, IsFineValue, AreFineExprs, IsFineStmt, IsFineBlock, IsFineOut}
use Rattle.yt_graph.specs.Cost.{block_cost}
use Rattle.yt_cost.specs.CodeFit.{expr_calls, exprs_call, stmt_calls, block_calls, IsHandlerFit}

-- an expression without operator calls, whose locals and variables are there
abbrev pub IsExprFit : (locals vars : ℕ) → ExprTree → Type 0
IsExprFit locals vars (num n) = Unit {0}
IsExprFit locals vars (local i) = i < locals
IsExprFit locals vars (var i) = i < vars
IsExprFit locals vars (neg e) = IsExprFit locals vars e
IsExprFit locals vars (lnot e) = IsExprFit locals vars e
IsExprFit locals vars (two op l r) = IsExprFit locals vars l × IsExprFit locals vars r
IsExprFit locals vars (call op code ticks args) = ⊥

-- which is at most 32 deep
abbrev pub IsValueFit : (locals vars : ℕ) → ExprTree → Type 0
IsValueFit locals vars e = (expr_depth e ≤ 32) × IsExprFit locals vars e

abbrev pub AreValuesFit : (locals vars : ℕ) → ExprsTree → Type 0
AreValuesFit locals vars no_exprs = Unit {0}
AreValuesFit locals vars (more_exprs e rest) = IsValueFit locals vars e × AreValuesFit locals vars rest

abbrev mutual
  -- a statement whose locals and variables are there, whose messages have at most 8 numbers, and whose loops may turn
  pub IsStmtFit : (locals vars : ℕ) → StmtTree → Type 0
  IsStmtFit locals vars (set_local i e) = (i < locals) × IsValueFit locals vars e
  IsStmtFit locals vars (set_var i e) = (i < vars) × IsValueFit locals vars e
  IsStmtFit locals vars (send o es) = (exprs_count es ≤ 8) × AreValuesFit locals vars es
  IsStmtFit locals vars (if_only e first) = IsValueFit locals vars e × IsBlockFit locals vars first
  IsStmtFit locals vars (if_else e first second) =
      IsValueFit locals vars e × IsBlockFit locals vars first × IsBlockFit locals vars second
  IsStmtFit locals vars (repeat e most body) = (0 < most) × IsValueFit locals vars e × IsBlockFit locals vars body

  pub IsBlockFit : (locals vars : ℕ) → BlockTree → Type 0
  IsBlockFit locals vars empty = Unit {0}
  IsBlockFit locals vars (more a rest) = IsStmtFit locals vars a × IsBlockFit locals vars rest

-- all of it
pub record IsFit (vars : ℕ) (port : PortTree) : Type 0 where
  pub params_are_locals : port.params ≤ port.locals
  pub few_locals : port.locals ≤ 16
  pub depth : block_depth port.body ≤ 8
  pub body : IsBlockFit port.locals vars port.body
  pub cost : block_cost port.body < 1000000

pub or_false : (a b : Bool) → (a || b) ≡ false → (a ≡ false) × (b ≡ false)
or_false true b e = absurd cc
or_false false b e = (refl, e)

is_there : {A : Type 0} (P : A → Type 0) (all : List A) (i : ℕ) (o : Option A) → slice_get all i ≡ o → IsSomeAnd o P → i < length all
is_there P all i None e h = absurd h
is_there P all i (Some x) e h = slice_get_within all i x e

-- what holds of all holds of the one that is there
of_all : {A : Type 0} (P Q : A → Type 0) (all : List A) (i : ℕ) (o : Option A) → slice_get all i ≡ o → IsSomeAnd o P → All Q all → (x : A) × P x × Q x
of_all P Q all i None e h each = absurd h
of_all P Q all i (Some x) e h each =
    (x, h, subst Q (get_or_from_slice_get all i x x e) (each i x (slice_get_within all i x e)))

-- an out's width is 8 at most
narrow : (outs : List OutHead) (i width : ℕ) → IsSomeAnd (slice_get outs i) (λ o. o.width ≡ width) → All IsFineOut outs → width ≤ 8
narrow outs i width h each =
    let x = of_all (λ (o : OutHead). o.width ≡ width) IsFineOut outs i (slice_get outs i) refl h each in
    omega (arith, x.1, x.2.1)

module _ (g : GraphTree) (p : PortTree) where
  expr_fits : (e : ExprTree) → IsFineExpr g p e → expr_calls e ≡ false → IsExprFit p.locals (length g.vars) e
  expr_fits (num n) f c = tt
  expr_fits (local i) f c = f
  expr_fits (var i) f c = is_there (λ (v : graph.Var.Var). v.process ≡ p.process) g.vars i (slice_get g.vars i) refl f
  expr_fits (neg e) f c = expr_fits e f c
  expr_fits (lnot e) f c = expr_fits e f c
  expr_fits (two op l r) f c =
      let parts = or_false (expr_calls l) (expr_calls r) c in
      (expr_fits l f.0 parts.0, expr_fits r f.1 parts.1)
  expr_fits (call op code ticks args) f c = absurd cc

  value_fits : (e : ExprTree) → IsFineValue g p e → expr_calls e ≡ false → IsValueFit p.locals (length g.vars) e
  value_fits e f c = (f.0, expr_fits e f.1 c)

  values_fit : (es : ExprsTree) → exprs_depth es ≤ 32 → AreFineExprs g p es → exprs_call es ≡ false → AreValuesFit p.locals (length g.vars) es
  values_fit no_exprs d f c = tt
  values_fit (more_exprs e es) d f c =
      let parts = or_false (expr_calls e) (exprs_call es) c in
      ((omega (arith, d), expr_fits e f.0 parts.0), values_fit es (omega (arith, d)) f.1 parts.1)

  mutual
    stmt_fits : All IsFineOut p.outs → (a : StmtTree) → IsFineStmt g p a → stmt_calls a ≡ false → IsStmtFit p.locals (length g.vars) a
    stmt_fits outs (set_local i e) f c = (f.0, value_fits e f.1 c)
    stmt_fits outs (set_var i e) f c =
        (is_there (λ (v : graph.Var.Var). v.process ≡ p.process) g.vars i (slice_get g.vars i) refl f.0, value_fits e f.1 c)
    stmt_fits outs (send o es) f c =
        (narrow p.outs f.0.0 (exprs_count es) f.0.2 outs, values_fit es f.1.0 f.1.1 c)
    stmt_fits outs (if_only e first) f c =
        let parts = or_false (expr_calls e) (block_calls first) c in
        (value_fits e f.0 parts.0, block_fits outs first f.1 parts.1)
    stmt_fits outs (if_else e first second) f c =
        let parts = or_false (expr_calls e) (block_calls first || block_calls second) c in
        let blocks = or_false (block_calls first) (block_calls second) parts.1 in
        (value_fits e f.0 parts.0, block_fits outs first f.1 blocks.0, block_fits outs second f.2 blocks.1)
    stmt_fits outs (repeat e most body) f c =
        let parts = or_false (expr_calls e) (block_calls body) c in
        (omega (arith, f.1.0), value_fits e f.0 parts.0, block_fits outs body f.2 parts.1)

    block_fits : All IsFineOut p.outs → (b : BlockTree) → IsFineBlock g p b → block_calls b ≡ false → IsBlockFit p.locals (length g.vars) b
    block_fits outs empty f c = tt
    block_fits outs (more a rest) f c =
        let parts = or_false (stmt_calls a) (block_calls rest) c in
        (stmt_fits outs a f.0 parts.0, block_fits outs rest f.1 parts.1)

pub fits : (graph : GraphTree) (port : PortTree) → IsHandlerFit graph port → IsFit (length graph.vars) port
fits graph port h =
    let w = h.well_formed in
    record {
      params_are_locals = w.4;
      few_locals = w.5;
      depth = w.9;
      body = block_fits graph port w.8 port.body w.10 h.no_calls;
      cost = omega (arith, h.cost);
    }
