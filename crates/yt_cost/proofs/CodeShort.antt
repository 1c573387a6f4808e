-- The code of a handler is short: each level of blocks at most doubles what its greatest cost allows.
use Rattle.std.proofs.Common.{◌≡◌, ℕ, zero, suc, ◌+◌, ◌*◌, ◌^◌, ◌≤◌, ◌<◌, max, List, [], ◌∷◌, length, refl, arith}
use Rattle.std.proofs.Math.Nat.{mul-le-mul_left, mul-le-mul_right}
use Rattle.yt_graph.specs.declared.expr.Expr.{Expr}
use Rattle.yt_graph.specs.Picture.{ExprTree, num, local, var, neg, lnot, two, call, ExprsTree, no_exprs, more_exprs, StmtTree, set_local, set_var, send, if_only, if_else, repeat, BlockTree, empty, more, PortTree, GraphTree, exprs_tree}
use Rattle.yt_graph.specs.Meaning.{expr_ticks, all_ticks}
use Rattle.yt_graph.specs.Cost.{stmt_cost, block_cost}
use Rattle.yt_graph.specs.WellFormed.{exprs_count, stmt_depth, block_depth}
use Rattle.yt_cost.specs.CodeSizes.{expr_size, exprs_size, stmt_size, block_size}
use Rattle.yt_cost.specs.CodeFit.{IsHandlerFit}
use Rattle.yt_cost.proofs.CodeFits.{IsStmtFit, IsBlockFit, fits}
use Rattle.yt_cost.proofs.CodeGoes.{expr_size_is, exprs_size_is}

pub exprs_count_is : (es : List Expr) → exprs_count (exprs_tree es) ≡ length es
exprs_count_is [] = refl
exprs_count_is (e ∷ es) = omega (arith, exprs_count_is es)

some_size : (e : ExprTree) → 1 ≤ expr_size e
some_size (num n) = omega arith
some_size (local i) = omega arith
some_size (var i) = omega arith
some_size (neg e) = omega arith
some_size (lnot e) = omega arith
some_size (two op l r) = omega arith
some_size (call op code ticks args) = omega arith

pub exprs_count_le_size : (es : ExprsTree) → exprs_count es ≤ exprs_size es
exprs_count_le_size no_exprs = omega arith
exprs_count_le_size (more_exprs e es) = omega (arith, some_size e, exprs_count_le_size es)

-- 2 to the power of a depth
abbrev growth : ℕ → ℕ
growth zero = 1
growth (suc d) = growth d + growth d

some_growth : (d : ℕ) → 1 ≤ growth d
some_growth zero = omega arith
some_growth (suc d) = omega (arith, some_growth d)

no_less : (g t : ℕ) → 1 ≤ g → t ≤ g * t
no_less g t h = omega (arith, mul-le-mul_right t h)

-- a choice with one block, a choice with two, and a loop: t for the test, a and b for the blocks' sizes, c and d for their costs
only_short : (g t a c : ℕ) → 1 ≤ g → a ≤ g * c → t + 1 + a ≤ (g + g) * (t + 1 + c)
only_short g t a c h f = omega (arith, no_less g t h, f)

else_short : (g t a b c d m : ℕ) → 1 ≤ g → a ≤ g * c → b ≤ g * d → c + 1 ≤ m → d ≤ m → t + 1 + (a + 1) + b ≤ (g + g) * (t + 1 + m)
else_short g t a b c d m h f k first second =
    omega (arith, no_less g t h, f, k, mul-le-mul_left g first, mul-le-mul_left g second)

loop_short : (g t a c n : ℕ) → 1 ≤ g → a ≤ g * c → c + 1 ≤ n → t + 1 + (a + 1) ≤ (g + g) * (t + 1 + n)
loop_short g t a c n h f less = omega (arith, no_less g t h, f, mul-le-mul_left g less)

some_depth : (b : BlockTree) → 1 ≤ block_depth b
some_depth empty = omega arith
some_depth (more a rest) = omega arith

mutual
  stmt_short : (d lc vc : ℕ) (a : StmtTree) → IsStmtFit lc vc a → stmt_depth a ≤ d → stmt_size a ≤ growth d * stmt_cost a
  stmt_short d lc vc (set_local i e) f k =
      omega (arith, expr_size_is lc vc e f.1.1, no_less (growth d) (expr_ticks e) (some_growth d), some_growth d)
  stmt_short d lc vc (set_var i e) f k =
      omega (arith, expr_size_is lc vc e f.1.1, no_less (growth d) (expr_ticks e) (some_growth d), some_growth d)
  stmt_short d lc vc (send o es) f k =
      omega (arith, exprs_size_is lc vc es f.1, no_less (growth d) (all_ticks es) (some_growth d), some_growth d)
  stmt_short zero lc vc (if_only e first) f k = absurd (omega (arith, some_depth first, k))
  stmt_short (suc d) lc vc (if_only e first) f k =
      omega (arith, expr_size_is lc vc e f.0.1, only_short (growth d) (expr_ticks e) (block_size first) (block_cost first) (some_growth d) (block_short d lc vc first f.1 k))
  stmt_short zero lc vc (if_else e first second) f k = absurd (omega (arith, some_depth first, k))
  stmt_short (suc d) lc vc (if_else e first second) f k =
      let low1 : block_depth first ≤ suc d = omega (arith, k) in
      let low2 : block_depth second ≤ suc d = omega (arith, k) in
      let first_less : block_cost first + 1 ≤ max (block_cost first + 1) (block_cost second) = omega arith in
      let second_less : block_cost second ≤ max (block_cost first + 1) (block_cost second) = omega arith in
      omega (arith, expr_size_is lc vc e f.0.1, else_short (growth d) (expr_ticks e) (block_size first) (block_size second) (block_cost first) (block_cost second) (max (block_cost first + 1) (block_cost second)) (some_growth d) (block_short d lc vc first f.1 low1) (block_short d lc vc second f.2 low2) first_less second_less)
  stmt_short zero lc vc (repeat e most body) f k = absurd (omega (arith, some_depth body, k))
  stmt_short (suc d) lc vc (repeat e most body) f k =
      let turn = no_less most (block_cost body + 1) f.0 in
      omega (arith, expr_size_is lc vc e f.1.1, loop_short (growth d) (expr_ticks e) (block_size body) (block_cost body) (most * (block_cost body + 1)) (some_growth d) (block_short d lc vc body f.2 k) turn)

  block_short : (d lc vc : ℕ) (b : BlockTree) → IsBlockFit lc vc b → block_depth b ≤ suc d → block_size b ≤ growth d * block_cost b
  block_short d lc vc empty f k = omega arith
  block_short d lc vc (more a rest) f k =
      let low : stmt_depth a ≤ d = omega (arith, k) in
      let rest_low : block_depth rest ≤ suc d = omega (arith, k) in
      omega (arith, stmt_short d lc vc a f.0 low, block_short d lc vc rest f.1 rest_low)

pub short : (graph : GraphTree) (port : PortTree) → IsHandlerFit graph port → block_size port.body < 2 ^ 32
short graph port given =
    let fit = fits graph port given in
    omega (arith, block_short 7 port.locals (length graph.vars) port.body fit.body fit.depth, fit.cost)
