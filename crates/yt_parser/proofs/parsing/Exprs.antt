-- Reading expressions, step by step.
use Rattle.std.proofs.Common.{ℕ, zero, suc, ◌≡◌, ◌-◌, ◌≤◌, ◌<◌, max, nat_eq, nat_le, true, false, List, [], ◌∷◌, ◌++◌, map, None, Some, refl, ap, arith}
use Rattle.std.proofs.lemmas.Bool.Decides.{nat_tests}
use Rattle.yt_graph.specs.declared.expr.Op2.{Op2}
use Rattle.yt_graph.specs.declared.ast_expr.AstExpr.{AstExpr}
use Rattle.yt_graph.specs.AstPicture.{AstExprTree, two_sides, more_values, ast_expr_tree, ast_exprs_tree}
use Rattle.yt_graph.specs.AstWellFormed.{ast_expr_depth, ast_exprs_depth}
use Rattle.yt_parser.specs.declared.cursor.Stop.{Stop}
use Rattle.yt_parser.specs.declared.cursor.Stop.TheVariants.{Syntax, Memory}
use Rattle.yt_grammar.specs.Lexemes.{Tok}
use Rattle.yt_grammar.specs.Grammar.{right_rank}
use Rattle.yt_grammar.specs.Inside.Reading.{Reading, got, stuck, Reader, and_then, made, behind, op_at, chain, turns_at, exprs_of, rank_reader, expr_reader}
use Rattle.yt_parser.specs.Inside.Results.{IsStop}

-- an expression of some levels
pub expr_reader-levels : (levels rank : ℕ) (s : List Tok) → 0 < levels → expr_reader levels rank s ≡ rank_reader (expr_reader (levels - 1)) (levels - 1) rank s
unfolding expr_reader
expr_reader-levels zero rank s h = absurd (omega arith)
expr_reader-levels (suc room) rank s h =
    let e : suc room - 1 ≡ room = omega arith in
    rw e refl

-- a rank of operators
pub rank_reader-chain : (inner : ℕ → Reader AstExprTree) (room rank : ℕ) (s : List Tok) → 1 < rank → (rank ≡ 5 → ⊥) → rank_reader inner room rank s ≡ and_then (rank_reader inner room (rank - 1) s) (chain inner room rank (turns_at rank room))
rank_reader-chain inner room zero s h k = absurd (omega arith)
rank_reader-chain inner room (suc m) s h k =
    let e : suc m - 1 ≡ m = omega arith in
    let first : nat_eq m 0 ≡ false = grind (arith, nat_tests) in
    let fifth : nat_eq m 4 ≡ false = grind (arith, nat_tests) in
    rw (e, first, fifth) refl

then_made : {X Y Z : Type 0} (r : Reading X) (f : X → Y) (g : Y → Reader Z) → and_then r (λ x. g (f x)) ≡ and_then (made f r) g
then_made (got x rest) f g = refl
then_made (stuck rest) f g = refl

-- one operator and its right side
pub chain-link : (inner : ℕ → Reader AstExprTree) (room rank n m : ℕ) (left next : AstExprTree) (op : Op2) (s rest : List Tok) → n ≡ suc m → op_at rank s ≡ Some op → ast_expr_depth left ≤ room → made (two_sides op left) (inner (right_rank op) (behind s)) ≡ got next rest → chain inner room rank n left s ≡ chain inner room rank m next rest
chain-link inner room rank n m left next op s rest q o h r =
    let fits : nat_le (ast_expr_depth left) room ≡ true = grind (arith, nat_tests) in
    rw (q, o, fits, then_made (inner (right_rank op) (behind s)) (two_sides op left) (chain inner room rank m), r) refl

pub chain-stop : (inner : ℕ → Reader AstExprTree) (room rank n m : ℕ) (left : AstExprTree) (op : Op2) (s rest : List Tok) (e : Stop) → n ≡ suc m → op_at rank s ≡ Some op → ast_expr_depth left ≤ room → IsStop (made (two_sides op left) (inner (right_rank op) (behind s))) e rest → IsStop (chain inner room rank n left s) e rest
chain-stop inner room rank n m left op s rest Memory q o h r = record {}
chain-stop inner room rank n m left op s rest Syntax q o h r =
    let fits : nat_le (ast_expr_depth left) room ≡ true = grind (arith, nat_tests) in
    rw (q, o, fits, then_made (inner (right_rank op) (behind s)) (two_sides op left) (chain inner room rank m), r) refl

-- no operator of the rank comes next
pub chain-end : (inner : ℕ → Reader AstExprTree) (room rank n : ℕ) (left : AstExprTree) (s : List Tok) → op_at rank s ≡ None → chain inner room rank n left s ≡ got left s
chain-end inner room rank zero left s o = refl
chain-end inner room rank (suc n) left s o = rw o refl

-- there is no room for the left side
pub chain-full : (inner : ℕ → Reader AstExprTree) (room rank n : ℕ) (left : AstExprTree) (op : Op2) (s : List Tok) → op_at rank s ≡ Some op → room < ast_expr_depth left → chain inner room rank n left s ≡ got left s
chain-full inner room rank zero left op s o h = refl
chain-full inner room rank (suc n) left op s o h =
    let full : nat_le (ast_expr_depth left) room ≡ false = grind (arith, nat_tests) in
    rw (o, full) refl

-- the tree of a list of expressions, by their pictures
pub exprs_of-map : (es : List AstExpr) → exprs_of (map ast_expr_tree es) ≡ ast_exprs_tree es
exprs_of-map [] = refl
exprs_of-map (e ∷ es) = ap (more_values (ast_expr_tree e)) (exprs_of-map es)

-- one more expression
pub ast_exprs_depth-more : (es : List AstExpr) (e : AstExpr) → ast_exprs_depth (ast_exprs_tree (es ++ e ∷ [])) ≡ max (ast_exprs_depth (ast_exprs_tree es)) (ast_expr_depth (ast_expr_tree e))
ast_exprs_depth-more [] e = omega arith
ast_exprs_depth-more (f ∷ es) e = omega (arith, ast_exprs_depth-more es e)
