-- Ticks and sends stay within their greatest numbers.
use Rattle.std.proofs.Common.{◌≡◌, ℕ, zero, suc, ◌+◌, ◌*◌, ◌≤◌, max, List, [], ◌∷◌, ◌++◌, arith}
use Rattle.std.specs.Prelude.{ℤ, pos, negsuc, Bool, true, false}
use Rattle.std.proofs.Math.Nat.{mul-le-mul_right}
use Rattle.yt_graph.specs.declared.handled.SendItem.{SendItem}
use Rattle.yt_graph.specs.Picture.{StmtTree, set_local, set_var, send, if_only, if_else, repeat, BlockTree, empty, more}
use Rattle.yt_graph.specs.Meaning.{Run, expr_value, expr_ticks, all_values, spend, is_not_zero, choose, turns_of, turns, stmt_run, block_run, start}
use Rattle.yt_graph.specs.Cost.{stmt_cost, block_cost, one_if_same, stmt_sends, block_sends, sent_on, TicksWithinCost, SendsWithinGreatest}

pub turns_of-le : (z : ℤ) (most : ℕ) → turns_of z most ≤ most
turns_of-le (pos n) most = omega arith
turns_of-le (negsuc n) most = omega arith

-- what n turns take, where each takes at most c
turns_ticks : (n c : ℕ) (body : Run → Run) → ((s : Run) → (body s).ticks ≤ s.ticks + c) → (s : Run) → (turns n body s).ticks ≤ s.ticks + n * c
turns_ticks zero c body each s = omega arith
turns_ticks (suc n) c body each s = omega (arith, each s, turns_ticks n c body each (body s))

choose_ticks : (z : Bool) (a b : ℕ) (first second : Run → Run) → ((s : Run) → (first s).ticks ≤ s.ticks + a) → ((s : Run) → (second s).ticks ≤ s.ticks + b) → (s : Run) → (choose z first second s).ticks ≤ s.ticks + max a b
choose_ticks true a b first second f g s = omega (arith, f s)
choose_ticks false a b first second f g s = omega (arith, g s)

mutual
  pub stmt_ticks : (a : StmtTree) (s : Run) → (stmt_run a s).ticks ≤ s.ticks + stmt_cost a
  stmt_ticks (set_local i e) s = omega arith
  stmt_ticks (set_var i e) s = omega arith
  stmt_ticks (send o es) s = omega arith
  stmt_ticks (if_only e first) s =
      omega (arith, choose_ticks (is_not_zero (expr_value e s.locals s.vars)) (block_cost first) 0 (block_run first) (λ t. t) (block_ticks first) (λ t. omega arith) (spend (expr_ticks e + 1) s))
  stmt_ticks (if_else e first second) s =
      omega (arith, choose_ticks (is_not_zero (expr_value e s.locals s.vars)) (block_cost first + 1) (block_cost second) (λ t. spend 1 (block_run first t)) (block_run second) (λ t. omega (arith, block_ticks first t)) (block_ticks second) (spend (expr_ticks e + 1) s))
  stmt_ticks (repeat e most body) s =
      let n = turns_of (expr_value e s.locals s.vars) most in
      let c = block_cost body + 1 in
      let all = turns_ticks n c (λ t. spend 1 (block_run body t)) (λ t. omega (arith, block_ticks body t)) (spend (expr_ticks e + 1) s) in
      omega (arith, all, mul-le-mul_right c (turns_of-le (expr_value e s.locals s.vars) most))

  pub block_ticks : (b : BlockTree) (s : Run) → (block_run b s).ticks ≤ s.ticks + block_cost b
  block_ticks empty s = omega arith
  block_ticks (more a rest) s = omega (arith, stmt_ticks a s, block_ticks rest (stmt_run a s))

pub ticks_within : TicksWithinCost
ticks_within graph port msg vars = omega (arith, block_ticks port.body (start port.locals msg vars))

sent_on-append : (out : ℕ) (xs : List SendItem) (x : SendItem) → sent_on out (xs ++ x ∷ []) ≡ sent_on out xs + one_if_same out x.out
sent_on-append out [] x = omega arith
sent_on-append out (y ∷ xs) x = omega (arith, sent_on-append out xs x)

-- how many of a handler's sends so far were on an out
abbrev on : ℕ → Run → ℕ
on out s = sent_on out s.sends

turns_sends : (out n c : ℕ) (body : Run → Run) → ((s : Run) → on out (body s) ≤ on out s + c) → (s : Run) → on out (turns n body s) ≤ on out s + n * c
turns_sends out zero c body each s = omega arith
turns_sends out (suc n) c body each s = omega (arith, each s, turns_sends out n c body each (body s))

choose_sends : (out : ℕ) (z : Bool) (a b : ℕ) (first second : Run → Run) → ((s : Run) → on out (first s) ≤ on out s + a) → ((s : Run) → on out (second s) ≤ on out s + b) → (s : Run) → on out (choose z first second s) ≤ on out s + max a b
choose_sends out true a b first second f g s = omega (arith, f s)
choose_sends out false a b first second f g s = omega (arith, g s)

mutual
  pub stmt_on : (out : ℕ) (a : StmtTree) (s : Run) → on out (stmt_run a s) ≤ on out s + stmt_sends out a
  stmt_on out (set_local i e) s = omega arith
  stmt_on out (set_var i e) s = omega arith
  stmt_on out (send o es) s = omega (arith, sent_on-append out s.sends (record { out = o; values = all_values es s.locals s.vars }))
  stmt_on out (if_only e first) s =
      omega (arith, choose_sends out (is_not_zero (expr_value e s.locals s.vars)) (block_sends out first) 0 (block_run first) (λ t. t) (block_on out first) (λ t. omega arith) (spend (expr_ticks e + 1) s))
  stmt_on out (if_else e first second) s =
      choose_sends out (is_not_zero (expr_value e s.locals s.vars)) (block_sends out first) (block_sends out second) (λ t. spend 1 (block_run first t)) (block_run second) (block_on out first) (block_on out second) (spend (expr_ticks e + 1) s)
  stmt_on out (repeat e most body) s =
      let n = turns_of (expr_value e s.locals s.vars) most in
      let all = turns_sends out n (block_sends out body) (λ t. spend 1 (block_run body t)) (block_on out body) (spend (expr_ticks e + 1) s) in
      omega (arith, all, mul-le-mul_right (block_sends out body) (turns_of-le (expr_value e s.locals s.vars) most))

  pub block_on : (out : ℕ) (b : BlockTree) (s : Run) → on out (block_run b s) ≤ on out s + block_sends out b
  block_on out empty s = omega arith
  block_on out (more a rest) s = omega (arith, stmt_on out a s, block_on out rest (stmt_run a s))

pub sends_within : SendsWithinGreatest
sends_within graph port out msg vars = omega (arith, block_on out port.body (start port.locals msg vars))
