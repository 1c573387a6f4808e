-- A well-formed port's handler names variables of the port's process alone, and none where the port is under no resource.
use Rattle.std.proofs.Common.{◌≡◌, ℕ, zero, suc, Bool, true, false, List, [], ◌∷◌, ◌++◌, refl, sym, ap, ◌∙◌, subst, arith}
use Rattle.std.specs.Prelude.{◌||◌}
use Rattle.std.specs.List.{All}
use Rattle.std.proofs.lemmas.List.Elements.{All-append}
use Rattle.yt_graph.specs.Picture.{ExprTree, num, local, var, neg, lnot, two, call, ExprsTree, no_exprs, more_exprs, StmtTree, set_local, set_var, send, if_only, if_else, repeat, BlockTree, empty, more, PortTree, GraphTree}
use Rattle.yt_graph.specs.WellFormed.{expr_uses_var, exprs_use_var, stmt_uses_var, block_uses_var, IsVarOf, IsFinePort, IsFineExpr, AreFineExprs, IsFineStmt, IsFineBlock, IsFineGroup}
use Rattle.yt_code.specs.Valid.{Program}
use Rattle.yt_cost.specs.Code.{port_code}
use Rattle.yt_cost.specs.CodeVars.{expr_vars, exprs_vars, stmt_vars, block_vars, UsesVarsOf, UsesOwnVars, CompiledUsesOwnVars}
use Rattle.yt_cost.proofs.CodeFits.{or_false}
use Rattle.yt_cost.proofs.CodeUses.{uses_vars}

module _ (g : GraphTree) (p : PortTree) where
  abbrev AreOwn : List ℕ → Type 0
  AreOwn vars = All (IsVarOf g p.process) vars

  nothing : AreOwn []
  nothing k d lt = absurd (omega (arith, lt))

  this_one : (i : ℕ) → IsVarOf g p.process i → AreOwn (i ∷ [])
  this_one i h zero d lt = h
  this_one i h (suc k) d lt = absurd (omega (arith, lt))

  both : (a b : List ℕ) → AreOwn a → AreOwn b → AreOwn (a ++ b)
  both a b h k = All-append (IsVarOf g p.process) a b h k

  mutual
    expr_own : (e : ExprTree) → IsFineExpr g p e → AreOwn (expr_vars e)
    expr_own (num n) f = nothing
    expr_own (local i) f = nothing
    expr_own (var i) f = this_one i f
    expr_own (neg e) f = expr_own e f
    expr_own (lnot e) f = expr_own e f
    expr_own (two op l r) f = both (expr_vars l) (expr_vars r) (expr_own l f.0) (expr_own r f.1)
    expr_own (call op code ticks args) f = exprs_own args f.4

    exprs_own : (es : ExprsTree) → AreFineExprs g p es → AreOwn (exprs_vars es)
    exprs_own no_exprs f = nothing
    exprs_own (more_exprs e es) f = both (expr_vars e) (exprs_vars es) (expr_own e f.0) (exprs_own es f.1)

  mutual
    stmt_own : (a : StmtTree) → IsFineStmt g p a → AreOwn (stmt_vars a)
    stmt_own (set_local i e) f = expr_own e f.1.1
    stmt_own (set_var i e) f = both (expr_vars e) (i ∷ []) (expr_own e f.1.1) (this_one i f.0)
    stmt_own (send o es) f = exprs_own es f.1.1
    stmt_own (if_only e first) f = both (expr_vars e) (block_vars first) (expr_own e f.0.1) (block_own first f.1)
    stmt_own (if_else e first second) f =
        both (expr_vars e) (block_vars first ++ block_vars second) (expr_own e f.0.1) (both (block_vars first) (block_vars second) (block_own first f.1) (block_own second f.2))
    stmt_own (repeat e most body) f = both (expr_vars e) (block_vars body) (expr_own e f.0.1) (block_own body f.2)

    block_own : (b : BlockTree) → IsFineBlock g p b → AreOwn (block_vars b)
    block_own empty f = nothing
    block_own (more a rest) f = both (stmt_vars a) (block_vars rest) (stmt_own a f.0) (block_own rest f.1)

-- two parts without variables
none_in : (a b : List ℕ) → a ≡ [] → b ≡ [] → a ++ b ≡ []
none_in a b e f = ap (λ l. l ++ b) e ∙ f

mutual
  expr_none : (e : ExprTree) → expr_uses_var e ≡ false → expr_vars e ≡ []
  expr_none (num n) u = refl
  expr_none (local i) u = refl
  expr_none (var i) u = absurd cc
  expr_none (neg e) u = expr_none e u
  expr_none (lnot e) u = expr_none e u
  expr_none (two op l r) u =
      let parts = or_false (expr_uses_var l) (expr_uses_var r) u in
      none_in (expr_vars l) (expr_vars r) (expr_none l parts.0) (expr_none r parts.1)
  expr_none (call op code ticks args) u = exprs_none args u

  exprs_none : (es : ExprsTree) → exprs_use_var es ≡ false → exprs_vars es ≡ []
  exprs_none no_exprs u = refl
  exprs_none (more_exprs e es) u =
      let parts = or_false (expr_uses_var e) (exprs_use_var es) u in
      none_in (expr_vars e) (exprs_vars es) (expr_none e parts.0) (exprs_none es parts.1)

mutual
  stmt_none : (a : StmtTree) → stmt_uses_var a ≡ false → stmt_vars a ≡ []
  stmt_none (set_local i e) u = expr_none e u
  stmt_none (set_var i e) u = absurd cc
  stmt_none (send o es) u = exprs_none es u
  stmt_none (if_only e first) u =
      let parts = or_false (expr_uses_var e) (block_uses_var first) u in
      none_in (expr_vars e) (block_vars first) (expr_none e parts.0) (block_none first parts.1)
  stmt_none (if_else e first second) u =
      let parts = or_false (expr_uses_var e) (block_uses_var first || block_uses_var second) u in
      let blocks = or_false (block_uses_var first) (block_uses_var second) parts.1 in
      none_in (expr_vars e) (block_vars first ++ block_vars second) (expr_none e parts.0) (none_in (block_vars first) (block_vars second) (block_none first blocks.0) (block_none second blocks.1))
  stmt_none (repeat e most body) u =
      let parts = or_false (expr_uses_var e) (block_uses_var body) u in
      none_in (expr_vars e) (block_vars body) (expr_none e parts.0) (block_none body parts.1)

  block_none : (b : BlockTree) → block_uses_var b ≡ false → block_vars b ≡ []
  block_none empty u = refl
  block_none (more a rest) u =
      let parts = or_false (stmt_uses_var a) (block_uses_var rest) u in
      none_in (stmt_vars a) (block_vars rest) (stmt_none a parts.0) (block_none rest parts.1)

-- a port under no resource uses no variable
no_use : (g : GraphTree) (p : PortTree) (b : Bool) → IsFineGroup g p b → p.group ≡ 0 → b ≡ false
no_use g p true h e = absurd (omega (arith, h.0, e))
no_use g p false h e = refl

-- so code that uses the variables which such a port's handler names keeps to the port's process
pub owns : (g : GraphTree) (p : PortTree) (code : Program) → IsFinePort g p → UsesVarsOf g code p → UsesOwnVars g code p
owns g p code fine same = record {
  of_process = subst (λ xs. All (IsVarOf g p.process) xs) (sym same) (block_own g p p.body fine.10);
  none = λ e. same ∙ block_none p.body (no_use g p (block_uses_var p.body) fine.11 e);
}

pub uses_own : CompiledUsesOwnVars
uses_own g p fine = owns g p (port_code g p) fine (uses_vars g p)
