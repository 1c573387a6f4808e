-- The pictures of the nodes that hold vectors, by those vectors' lists.
use Rattle.std.proofs.Common.{◌≡◌, ℕ, List, Option, Some, None, Vec, Global, refl, sym, ap, ◌∙◌}
use Rattle.yt_graph.specs.declared.expr.Expr.{Expr, Call, Row_of-Expr, end_of-Expr, more_of-Expr, items-the_row-Expr, items_hidden-the_row-Expr-0}
use Rattle.yt_graph.specs.declared.expr.Expr.TheBlock.{hidden-the_row-Expr-0}
use Rattle.yt_graph.specs.declared.stmt.Stmt.{Stmt, If, Repeat, Row_of-Stmt, end_of-Stmt, more_of-Stmt, items-the_row-Stmt, items_hidden-the_row-Stmt-0}
use Rattle.yt_graph.specs.declared.stmt.Stmt.TheBlock.{hidden-the_row-Stmt-0}
use Rattle.yt_graph.specs.Picture.{call, more_exprs, more, if_only, if_else, repeat, expr_tree, expr_row_tree, exprs_tree, stmt_tree, row_tree, block_tree}

expr_row_tree_is : {n : _} (row : Row_of-Expr n) → expr_row_tree row ≡ exprs_tree (items-the_row-Expr n row)
expr_row_tree_is end_of-Expr = refl
expr_row_tree_is (more_of-Expr e rest) = ap (more_exprs (expr_tree e)) (expr_row_tree_is rest)

-- the arguments inside a call are those of the vector
arguments : (v : Vec Expr Global) → expr_row_tree (hidden-the_row-Expr-0 v) ≡ exprs_tree v.items
arguments v = expr_row_tree_is (hidden-the_row-Expr-0 v) ∙ ap exprs_tree (items_hidden-the_row-Expr-0 v)

pub expr_tree-Call : (op code ticks : ℕ) (args : Vec Expr Global) → expr_tree (Call op code ticks args) ≡ call op code ticks (exprs_tree args.items)
expr_tree-Call op code ticks args = ap (call op code ticks) (arguments args)

row_tree_is : {n : _} (row : Row_of-Stmt n) → row_tree row ≡ block_tree (items-the_row-Stmt n row)
row_tree_is end_of-Stmt = refl
row_tree_is (more_of-Stmt s rest) = ap (more (stmt_tree s)) (row_tree_is rest)

-- the statements inside a statement are those of the vector
inside : (v : Vec Stmt Global) → row_tree (hidden-the_row-Stmt-0 v) ≡ block_tree v.items
inside v = row_tree_is (hidden-the_row-Stmt-0 v) ∙ ap block_tree (items_hidden-the_row-Stmt-0 v)

pub stmt_tree-If_only : (e : Expr) (first : Vec Stmt Global) → stmt_tree (If e first None) ≡ if_only (expr_tree e) (block_tree first.items)
stmt_tree-If_only e first = ap (if_only (expr_tree e)) (inside first)

pub stmt_tree-If_else : (e : Expr) (first second : Vec Stmt Global) → stmt_tree (If e first (Some second)) ≡ if_else (expr_tree e) (block_tree first.items) (block_tree second.items)
stmt_tree-If_else e first second =
    ap (λ b. if_else (expr_tree e) b (row_tree (hidden-the_row-Stmt-0 second))) (inside first)
    ∙ ap (if_else (expr_tree e) (block_tree first.items)) (inside second)

pub stmt_tree-Repeat : (e : Expr) (most : ℕ) (body : Vec Stmt Global) → stmt_tree (Repeat e most body) ≡ repeat (expr_tree e) most (block_tree body.items)
stmt_tree-Repeat e most body = ap (repeat (expr_tree e) most) (inside body)

-- the same, from what a match of a node tells
pub call_is : (e : Expr) (op code ticks : ℕ) (v : Vec Expr Global) (args : List Expr) → e ≡ Call op code ticks v → args ≡ v.items → expr_tree e ≡ call op code ticks (exprs_tree args)
call_is e op code ticks v args p q =
    ap expr_tree p ∙ expr_tree-Call op code ticks v ∙ ap (λ x. call op code ticks (exprs_tree x)) (sym q)

pub only_is : (s : Stmt) (e : Expr) (v : Vec Stmt Global) (o : Option (Vec Stmt Global)) (b : List Stmt) → s ≡ If e v o → o ≡ None → b ≡ v.items → stmt_tree s ≡ if_only (expr_tree e) (block_tree b)
only_is s e v o b p n q =
    ap stmt_tree (p ∙ ap (If e v) n) ∙ stmt_tree-If_only e v ∙ ap (λ x. if_only (expr_tree e) (block_tree x)) (sym q)

pub else_is : (s : Stmt) (e : Expr) (v w : Vec Stmt Global) (o : Option (Vec Stmt Global)) → s ≡ If e v o → o ≡ Some w → stmt_tree s ≡ if_else (expr_tree e) (block_tree v.items) (block_tree w.items)
else_is s e v w o p n = ap stmt_tree (p ∙ ap (If e v) n) ∙ stmt_tree-If_else e v w

pub repeat_is : (s : Stmt) (e : Expr) (most : ℕ) (v : Vec Stmt Global) (b : List Stmt) → s ≡ Repeat e most v → b ≡ v.items → stmt_tree s ≡ repeat (expr_tree e) most (block_tree b)
repeat_is s e most v b p q = ap stmt_tree p ∙ stmt_tree-Repeat e most v ∙ ap (λ x. repeat (expr_tree e) most (block_tree x)) (sym q)
