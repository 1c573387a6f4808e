-- The pictures of the syntax tree's nodes that hold vectors, by those vectors' lists.
use Rattle.std.proofs.Common.{◌≡◌, List, Option, Some, None, Vec, Global, refl, sym, ap, ◌∙◌}
use Rattle.yt_graph.specs.declared.ast.Word.{Word}
use Rattle.yt_graph.specs.declared.ast.Num.{Num}
use Rattle.yt_graph.specs.declared.ast_expr.AstExpr.{AstExpr, Call, Row_of-AstExpr, end_of-AstExpr, more_of-AstExpr, items-the_row-AstExpr, items_hidden-the_row-AstExpr-0}
use Rattle.yt_graph.specs.declared.ast_expr.AstExpr.TheBlock.{hidden-the_row-AstExpr-0}
use Rattle.yt_graph.specs.declared.ast_stmt.AstStmt.{AstStmt, If, Repeat, Row_of-AstStmt, end_of-AstStmt, more_of-AstStmt, items-the_row-AstStmt, items_hidden-the_row-AstStmt-0}
use Rattle.yt_graph.specs.declared.ast_stmt.AstStmt.TheBlock.{hidden-the_row-AstStmt-0}
use Rattle.yt_graph.specs.AstPicture.{call_of, more_values, more_stmts, when_only, when_else, turns, ast_expr_tree, ast_expr_row_tree, ast_exprs_tree, ast_stmt_tree, ast_row_tree, ast_block_tree}

ast_expr_row_tree_is : {n : _} (row : Row_of-AstExpr n) → ast_expr_row_tree row ≡ ast_exprs_tree (items-the_row-AstExpr n row)
ast_expr_row_tree_is end_of-AstExpr = refl
ast_expr_row_tree_is (more_of-AstExpr e rest) = ap (more_values (ast_expr_tree e)) (ast_expr_row_tree_is rest)

-- the arguments inside a call are those of the vector
arguments : (v : Vec AstExpr Global) → ast_expr_row_tree (hidden-the_row-AstExpr-0 v) ≡ ast_exprs_tree v.items
arguments v = ast_expr_row_tree_is (hidden-the_row-AstExpr-0 v) ∙ ap ast_exprs_tree (items_hidden-the_row-AstExpr-0 v)

pub ast_expr_tree-Call : (w : Word) (args : Vec AstExpr Global) → ast_expr_tree (Call w args) ≡ call_of w (ast_exprs_tree args.items)
ast_expr_tree-Call w args = ap (call_of w) (arguments args)

ast_row_tree_is : {n : _} (row : Row_of-AstStmt n) → ast_row_tree row ≡ ast_block_tree (items-the_row-AstStmt n row)
ast_row_tree_is end_of-AstStmt = refl
ast_row_tree_is (more_of-AstStmt s rest) = ap (more_stmts (ast_stmt_tree s)) (ast_row_tree_is rest)

-- the statements inside a statement are those of the vector
inside : (v : Vec AstStmt Global) → ast_row_tree (hidden-the_row-AstStmt-0 v) ≡ ast_block_tree v.items
inside v = ast_row_tree_is (hidden-the_row-AstStmt-0 v) ∙ ap ast_block_tree (items_hidden-the_row-AstStmt-0 v)

pub ast_stmt_tree-If_only : (e : AstExpr) (first : Vec AstStmt Global) → ast_stmt_tree (If e first None) ≡ when_only (ast_expr_tree e) (ast_block_tree first.items)
ast_stmt_tree-If_only e first = ap (when_only (ast_expr_tree e)) (inside first)

pub ast_stmt_tree-If_else : (e : AstExpr) (first second : Vec AstStmt Global) → ast_stmt_tree (If e first (Some second)) ≡ when_else (ast_expr_tree e) (ast_block_tree first.items) (ast_block_tree second.items)
ast_stmt_tree-If_else e first second =
    ap (λ b. when_else (ast_expr_tree e) b (ast_row_tree (hidden-the_row-AstStmt-0 second))) (inside first)
    ∙ ap (when_else (ast_expr_tree e) (ast_block_tree first.items)) (inside second)

pub ast_stmt_tree-Repeat : (e : AstExpr) (most : Num) (body : Vec AstStmt Global) → ast_stmt_tree (Repeat e most body) ≡ turns (ast_expr_tree e) most (ast_block_tree body.items)
ast_stmt_tree-Repeat e most body = ap (turns (ast_expr_tree e) most) (inside body)

-- the same, from what a match of a node tells
pub call_is : (e : AstExpr) (w : Word) (v : Vec AstExpr Global) (args : List AstExpr) → e ≡ Call w v → args ≡ v.items → ast_expr_tree e ≡ call_of w (ast_exprs_tree args)
call_is e w v args p q = ap ast_expr_tree p ∙ ast_expr_tree-Call w v ∙ ap (λ x. call_of w (ast_exprs_tree x)) (sym q)

pub only_is : (s : AstStmt) (e : AstExpr) (v : Vec AstStmt Global) (o : Option (Vec AstStmt Global)) (b : List AstStmt) → s ≡ If e v o → o ≡ None → b ≡ v.items → ast_stmt_tree s ≡ when_only (ast_expr_tree e) (ast_block_tree b)
only_is s e v o b p n q =
    ap ast_stmt_tree (p ∙ ap (If e v) n) ∙ ast_stmt_tree-If_only e v ∙ ap (λ x. when_only (ast_expr_tree e) (ast_block_tree x)) (sym q)

pub else_is : (s : AstStmt) (e : AstExpr) (v w : Vec AstStmt Global) (o : Option (Vec AstStmt Global)) → s ≡ If e v o → o ≡ Some w → ast_stmt_tree s ≡ when_else (ast_expr_tree e) (ast_block_tree v.items) (ast_block_tree w.items)
else_is s e v w o p n = ap ast_stmt_tree (p ∙ ap (If e v) n) ∙ ast_stmt_tree-If_else e v w

pub repeat_is : (s : AstStmt) (e : AstExpr) (most : Num) (v : Vec AstStmt Global) (b : List AstStmt) → s ≡ Repeat e most v → b ≡ v.items → ast_stmt_tree s ≡ turns (ast_expr_tree e) most (ast_block_tree b)
repeat_is s e most v b p q = ap ast_stmt_tree p ∙ ast_stmt_tree-Repeat e most v ∙ ap (λ x. turns (ast_expr_tree e) most (ast_block_tree x)) (sym q)
