-- One expression of a list.
use Rattle.std.proofs.Common.{◌≡◌, ℕ, zero, suc, ◌<◌, ◌≤◌, List, [], ◌∷◌, refl, sym, ap, subst, arith, length, get_or}
use Rattle.std.specs.Prelude.{ℤ, pos, slice_index_or}
use Rattle.yt_graph.specs.declared.expr.Expr.{Expr}
use Rattle.yt_graph.specs.Picture.{expr_tree, exprs_tree}
use Rattle.yt_graph.specs.Parts.{expr_weight, exprs_weight}
use Rattle.yt_graph.specs.Meaning.{expr_value, all_values}
use Rattle.yt_mean.specs.Inside.Within.{IsExprWithin, AreExprsWithin}

pub item_lighter : (es : List Expr) (n : ℕ) (e : Expr) → n < length es → e ≡ get_or es n e → expr_weight (expr_tree e) < exprs_weight (exprs_tree es)
item_lighter [] n e lt is = absurd (omega arith)
item_lighter (x ∷ es) zero e lt is = omega (arith, ap (λ y. expr_weight (expr_tree y)) is)
item_lighter (x ∷ es) (suc n) e lt is = omega (arith, item_lighter es n e (omega arith) is)

pub item_within : (locals vars : ℕ) (es : List Expr) (n : ℕ) (e : Expr) → n < length es → e ≡ get_or es n e → AreExprsWithin locals vars (exprs_tree es) → IsExprWithin locals vars (expr_tree e)
item_within locals vars [] n e lt is h = absurd (omega arith)
item_within locals vars (x ∷ es) zero e lt is h = subst (λ y. IsExprWithin locals vars (expr_tree y)) (sym is) h.0
item_within locals vars (x ∷ es) (suc n) e lt is h = item_within locals vars es n e (omega arith) is h.1

pub item_value : (locals vars : List ℤ) (es : List Expr) (n : ℕ) (e : Expr) → n < length es → e ≡ get_or es n e → expr_value (expr_tree e) locals vars ≡ slice_index_or (all_values (exprs_tree es) locals vars) n (pos 0)
item_value locals vars [] n e lt is = absurd (omega arith)
item_value locals vars (x ∷ es) zero e lt is = ap (λ y. expr_value (expr_tree y) locals vars) is
item_value locals vars (x ∷ es) (suc n) e lt is = item_value locals vars es n e (omega arith) is

pub no_value : (locals vars : List ℤ) (es : List Expr) (n : ℕ) → length es ≤ n → pos 0 ≡ slice_index_or (all_values (exprs_tree es) locals vars) n (pos 0)
no_value locals vars [] n le = refl
no_value locals vars (x ∷ es) zero le = absurd (omega arith)
no_value locals vars (x ∷ es) (suc n) le = no_value locals vars es n (omega arith)
