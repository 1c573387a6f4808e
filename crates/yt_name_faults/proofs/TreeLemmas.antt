-- Slices of nodes of the syntax tree, cut at a place.
use Rattle.std.proofs.Common.{◌≡◌, ℕ, suc, ◌+◌, ◌<◌, List, [], ◌∷◌, length, drop, get_or, refl, sym, ap, ◌∙◌, add-one}
use Rattle.std.proofs.Math.Seq.{drop-cons}
use Rattle.yt_graph.specs.declared.ast_expr.AstExpr.{AstExpr}
use Rattle.yt_graph.specs.declared.ast_stmt.AstStmt.{AstStmt}
use Rattle.yt_graph.specs.AstPicture.{more_values, more_stmts, ast_expr_tree, ast_exprs_tree, ast_stmt_tree, ast_block_tree}
use Rattle.yt_name_faults.specs.Handlers.{values_count}

-- a list cut before one of its items
pub cut : {X : Type 0} (xs : List X) (i : ℕ) (x : X) → i < length xs → x ≡ get_or xs i x → drop i xs ≡ x ∷ drop (i + 1) xs
cut xs i x lt at = drop-cons xs i x lt ∙ ap (λ y. y ∷ drop (suc i) xs) (sym at) ∙ ap (λ n. x ∷ drop n xs) (sym (add-one i))

pub exprs_cut : (es : List AstExpr) (i : ℕ) (e : AstExpr) → i < length es → e ≡ get_or es i e → ast_exprs_tree (drop i es) ≡ more_values (ast_expr_tree e) (ast_exprs_tree (drop (i + 1) es))
exprs_cut es i e lt at = ap ast_exprs_tree (cut es i e lt at)

pub stmts_cut : (b : List AstStmt) (i : ℕ) (s : AstStmt) → i < length b → s ≡ get_or b i s → ast_block_tree (drop i b) ≡ more_stmts (ast_stmt_tree s) (ast_block_tree (drop (i + 1) b))
stmts_cut b i s lt at = ap ast_block_tree (cut b i s lt at)

-- as many values as expressions
pub values_count_is : (es : List AstExpr) → values_count (ast_exprs_tree es) ≡ length es
values_count_is [] = refl
values_count_is (e ∷ es) = ap suc (values_count_is es)
