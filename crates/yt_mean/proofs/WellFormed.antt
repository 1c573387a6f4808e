-- The handlers of a well-formed graph name only what is there.
use Rattle.std.proofs.Common.{◌≡◌, ℕ, zero, suc, ◌<◌, List, [], ◌∷◌, Some, subst, arith, length}
use Rattle.std.specs.Prelude.{slice_get, IsSomeAnd}
use Rattle.yt_list.specs.Numbered.{numbered}
use Rattle.std.proofs.lemmas.Option.{none-some, slice_get_within, get_or_from_slice_get}
use Rattle.std.proofs.lemmas.List.Elements.{All-get_or}
use Rattle.yt_graph.specs.Picture.{ExprTree, num, local, var, neg, lnot, two, call, ExprsTree, no_exprs, more_exprs, StmtTree, set_local, set_var, send, if_only, if_else, repeat, BlockTree, empty, more, PortTree, GraphTree}
use Rattle.yt_graph.specs.WellFormed.{IsFineExpr, AreFineExprs, IsFineStmt, IsFineBlock, IsFinePort, IsWellFormed}
use Rattle.yt_mean.specs.Inside.Within.{IsExprWithin, AreExprsWithin, IsStmtWithin, IsBlockWithin, IsHandlerWithin}

place_there : {X : Type 0} (P : X → Type 0) (xs : List X) (i : ℕ) → IsSomeAnd (slice_get xs i) P → i < length xs
place_there P [] i h = absurd h
place_there P (x ∷ xs) zero h = omega arith
place_there P (x ∷ xs) (suc i) h = let below : i < length xs = place_there P xs i h in omega arith

module _ (g : GraphTree) (p : PortTree) where
  mutual
    expr_within : (e : ExprTree) → IsFineExpr g p e → IsExprWithin p.locals (length g.vars) e
    expr_within (num n) h = tt
    expr_within (local i) h = h
    expr_within (var i) h = place_there _ g.vars i h
    expr_within (neg e) h = expr_within e h
    expr_within (lnot e) h = expr_within e h
    expr_within (two op l r) h = (expr_within l h.0, expr_within r h.1)
    expr_within (call op code ticks args) h = exprs_within args h.4

    exprs_within : (es : ExprsTree) → AreFineExprs g p es → AreExprsWithin p.locals (length g.vars) es
    exprs_within no_exprs h = tt
    exprs_within (more_exprs e rest) h = (expr_within e h.0, exprs_within rest h.1)

  mutual
    stmt_within : (s : StmtTree) → IsFineStmt g p s → IsStmtWithin p.locals (length g.vars) s
    stmt_within (set_local i e) h = (h.0, expr_within e h.1.1)
    stmt_within (set_var i e) h = (place_there _ g.vars i h.0, expr_within e h.1.1)
    stmt_within (send out es) h = exprs_within es h.1.1
    stmt_within (if_only e first) h = (expr_within e h.0.1, block_within first h.1)
    stmt_within (if_else e first second) h = (expr_within e h.0.1, block_within first h.1, block_within second h.2)
    stmt_within (repeat e most body) h = (expr_within e h.0.1, block_within body h.2)

    block_within : (b : BlockTree) → IsFineBlock g p b → IsBlockWithin p.locals (length g.vars) b
    block_within empty h = tt
    block_within (more s rest) h = (stmt_within s h.0, block_within rest h.1)

pub handler_within : (g : GraphTree) (n : ℕ) (p : PortTree) → IsWellFormed g → numbered g.ports n ≡ Some p → IsHandlerWithin (length g.vars) p
handler_within g zero p well there = absurd (none-some p there)
handler_within g (suc k) p well there =
    let fine : IsFinePort g p = subst (IsFinePort g) (get_or_from_slice_get g.ports k p p there) (All-get_or (IsFinePort g) g.ports k p (slice_get_within g.ports k p there) well.each_port) in
    record { params = fine.4; places = block_within g p p.body fine.10 }
