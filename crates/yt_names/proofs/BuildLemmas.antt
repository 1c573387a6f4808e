-- Expressions and statements that are built one by one.
use Rattle.std.proofs.Common.{◌≡◌, List, [], ◌∷◌, ◌++◌, refl, sym, ap, ◌∙◌}
use Rattle.yt_graph.specs.declared.expr.Expr.{Expr}
use Rattle.yt_graph.specs.declared.stmt.Stmt.{Stmt}
use Rattle.yt_graph.specs.Picture.{ExprTree, ExprsTree, no_exprs, more_exprs, StmtTree, BlockTree, empty, more, expr_tree, exprs_tree, stmt_tree, block_tree}

-- expressions and then others
abbrev pub exprs_then : ExprsTree → ExprsTree → ExprsTree
exprs_then no_exprs rest = rest
exprs_then (more_exprs e es) rest = more_exprs e (exprs_then es rest)

pub exprs_end : (es : ExprsTree) → exprs_then es no_exprs ≡ es
exprs_end no_exprs = refl
exprs_end (more_exprs e es) = ap (more_exprs e) (exprs_end es)

exprs_push : (xs : List Expr) (x : Expr) (rest : ExprsTree) → exprs_then (exprs_tree (xs ++ x ∷ [])) rest ≡ exprs_then (exprs_tree xs) (more_exprs (expr_tree x) rest)
exprs_push [] x rest = refl
exprs_push (y ∷ ys) x rest = ap (more_exprs (expr_tree y)) (exprs_push ys x rest)

-- a turn that builds the first of those that are left
pub exprs_next : (old new : List Expr) (x : Expr) (e : ExprTree) (rest front end : ExprsTree)
    → new ≡ old ++ x ∷ [] → expr_tree x ≡ e → front ≡ more_exprs e rest
    → exprs_then (exprs_tree old) front ≡ end → exprs_then (exprs_tree new) rest ≡ end
exprs_next old new x e rest front end p q cut h =
    ap (λ l. exprs_then (exprs_tree l) rest) p
    ∙ exprs_push old x rest
    ∙ ap (λ y. exprs_then (exprs_tree old) (more_exprs y rest)) q
    ∙ ap (exprs_then (exprs_tree old)) (sym cut)
    ∙ h

-- the end of such a loop
pub exprs_done : (new : ExprsTree) (rest end : ExprsTree) → rest ≡ no_exprs → exprs_then new rest ≡ end → new ≡ end
exprs_done new rest end e h = sym (exprs_end new) ∙ ap (exprs_then new) (sym e) ∙ h

-- statements and then others
abbrev pub block_then : BlockTree → BlockTree → BlockTree
block_then empty rest = rest
block_then (more s ss) rest = more s (block_then ss rest)

pub block_end : (b : BlockTree) → block_then b empty ≡ b
block_end empty = refl
block_end (more s ss) = ap (more s) (block_end ss)

block_push : (xs : List Stmt) (x : Stmt) (rest : BlockTree) → block_then (block_tree (xs ++ x ∷ [])) rest ≡ block_then (block_tree xs) (more (stmt_tree x) rest)
block_push [] x rest = refl
block_push (y ∷ ys) x rest = ap (more (stmt_tree y)) (block_push ys x rest)

pub block_next : (old new : List Stmt) (x : Stmt) (s : StmtTree) (rest front end : BlockTree)
    → new ≡ old ++ x ∷ [] → stmt_tree x ≡ s → front ≡ more s rest
    → block_then (block_tree old) front ≡ end → block_then (block_tree new) rest ≡ end
block_next old new x s rest front end p q cut h =
    ap (λ l. block_then (block_tree l) rest) p
    ∙ block_push old x rest
    ∙ ap (λ y. block_then (block_tree old) (more y rest)) q
    ∙ ap (block_then (block_tree old)) (sym cut)
    ∙ h

pub block_done : (new : BlockTree) (rest end : BlockTree) → rest ≡ empty → block_then new rest ≡ end → new ≡ end
block_done new rest end e h = sym (block_end new) ∙ ap (block_then new) (sym e) ∙ h
