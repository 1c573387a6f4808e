-- What a handler means: by recursion on its picture, with no instructions, stack or jumps.
use Rattle.std.specs.Prelude.{ℕ, zero, suc, ◌+◌, ◌-◌, min, Bool, true, false, not, ◌&&◌, ◌||◌, if◌then◌else◌, ℤ, pos, negsuc, neg_ℤ, ◌+ℤ◌, ◌-ℤ◌, ◌*ℤ◌, int_lt, int_le, int_div, int_rem, List, [], ◌∷◌, ◌++◌, length, replicate, slice_index_or, slice_set}
use Rattle.std.specs.Int.{w64, int_wrap, int_min, int_max, int_signum}
use Rattle.std.specs.Ordering.{int_eq}
use Rattle.yt_graph.specs.declared.expr.Op2.{Op2}
use Rattle.yt_graph.specs.declared.expr.Op2.TheVariants.{Or, And, Lt, Le, Gt, Ge, Eq, Ne, Add, Sub, Mul, Div, Rem}
use Rattle.yt_graph.specs.declared.handled.SendItem.{SendItem}
use Rattle.yt_graph.specs.declared.handled.Write.{Write}
use Rattle.yt_graph.specs.Picture.{ExprTree, num, local, var, neg, lnot, two, call, ExprsTree, no_exprs, more_exprs, StmtTree, set_local, set_var, send, if_only, if_else, repeat, BlockTree, empty, more, PortTree, GraphTree}

-- what a condition makes of a number: it holds where the number isn't 0
abbrev pub is_not_zero : ℤ → Bool
is_not_zero (pos zero) = false
is_not_zero (pos (suc n)) = true
is_not_zero (negsuc n) = true

-- the number of a condition
abbrev pub truth : Bool → ℤ
truth true = pos 1
truth false = pos 0

-- the number with the other sign, which wraps
abbrev pub neg_value : ℤ → ℤ
neg_value x = int_wrap w64 (neg_ℤ x)

-- 1 for 0, else 0
abbrev pub not_value : ℤ → ℤ
not_value x = truth (not (is_not_zero x))

-- a quotient is rounded to zero, a remainder has the sign of the left side, and both are 0 where the right side is 0
abbrev pub two_value : Op2 → ℤ → ℤ → ℤ
two_value Or x y = truth (is_not_zero x || is_not_zero y)
two_value And x y = truth (is_not_zero x && is_not_zero y)
two_value Lt x y = truth (int_lt x y)
two_value Le x y = truth (int_le x y)
two_value Gt x y = truth (int_lt y x)
two_value Ge x y = truth (int_le y x)
two_value Eq x y = truth (int_eq x y)
two_value Ne x y = truth (not (int_eq x y))
two_value Add x y = int_wrap w64 (x +ℤ y)
two_value Sub x y = int_wrap w64 (x -ℤ y)
two_value Mul x y = int_wrap w64 (x *ℤ y)
two_value Div x y = if is_not_zero y then int_wrap w64 (int_div x y) else pos 0
two_value Rem x y = if is_not_zero y then int_rem x y else pos 0

-- the value of the operator with this code: the lesser, the greater, their gap, the size, the sign
abbrev pub op_value : ℕ → ℤ → ℤ → ℤ
op_value (suc zero) x y = int_min x y
op_value (suc (suc zero)) x y = int_max x y
op_value (suc (suc (suc zero))) x y = int_wrap w64 (int_max x y -ℤ int_min x y)
op_value (suc (suc (suc (suc zero)))) x y = if int_lt x (pos 0) then neg_value x else x
op_value (suc (suc (suc (suc (suc zero))))) x y = int_signum x
op_value _ x y = pos 0

-- a handler on its way: its locals, the variables, the ticks that it has taken, and what it has sent and written
pub record Run : Type 0 where
  pub locals : List ℤ
  pub vars : List ℤ
  pub ticks : ℕ
  pub sends : List SendItem
  pub writes : List Write

-- the value of an operator's call on these arguments: with one argument the second is 0
abbrev pub call_value : ℕ → List ℤ → ℤ
call_value code args = op_value code (slice_index_or args 0 (pos 0)) (slice_index_or args 1 (pos 0))

-- the values of expressions under these locals and variables
abbrev mutual
  pub expr_value : ExprTree → List ℤ → List ℤ → ℤ
  expr_value (num n) locals vars = n
  expr_value (local i) locals vars = slice_index_or locals i (pos 0)
  expr_value (var i) locals vars = slice_index_or vars i (pos 0)
  expr_value (neg e) locals vars = neg_value (expr_value e locals vars)
  expr_value (lnot e) locals vars = not_value (expr_value e locals vars)
  expr_value (two op l r) locals vars = two_value op (expr_value l locals vars) (expr_value r locals vars)
  expr_value (call op code ticks args) locals vars = call_value code (all_values args locals vars)

  pub all_values : ExprsTree → List ℤ → List ℤ → List ℤ
  all_values no_exprs locals vars = []
  all_values (more_exprs e rest) locals vars = expr_value e locals vars ∷ all_values rest locals vars

-- all parts are always evaluated, so the ticks hang on the tree alone
abbrev mutual
  pub expr_ticks : ExprTree → ℕ
  expr_ticks (num n) = 1
  expr_ticks (local i) = 1
  expr_ticks (var i) = 1
  expr_ticks (neg e) = expr_ticks e + 1
  expr_ticks (lnot e) = expr_ticks e + 1
  expr_ticks (two op l r) = expr_ticks l + expr_ticks r + 1
  expr_ticks (call op code ticks args) = all_ticks args + ticks

  pub all_ticks : ExprsTree → ℕ
  all_ticks no_exprs = 0
  all_ticks (more_exprs e rest) = expr_ticks e + all_ticks rest

-- n ticks in which nothing else happens
abbrev pub spend : ℕ → Run → Run
spend n s = record s { ticks = s.ticks + n }

-- a local has a new value
abbrev pub store_local : ℕ → ℤ → Run → Run
store_local i x s = record s { locals = slice_set s.locals i x }

-- a variable has a new value: the write happens in the tick that comes next
abbrev pub store_var : ℕ → ℤ → Run → Run
store_var i x s = record s { vars = slice_set s.vars i x; writes = s.writes ++ (record { offset = s.ticks; variable = i; value = x }) ∷ [] }

-- one message more
abbrev pub send_on : ℕ → List ℤ → Run → Run
send_on o xs s = record s { sends = s.sends ++ (record { out = o; values = xs }) ∷ [] }

-- one of two ways on
abbrev pub choose : Bool → (Run → Run) → (Run → Run) → Run → Run
choose true first second s = first s
choose false first second s = second s

-- a count of turns: none where it is negative, and at most the greatest number
abbrev pub turns_of : ℤ → ℕ → ℕ
turns_of (pos n) most = min n most
turns_of (negsuc n) most = 0

-- n turns of a loop's body
abbrev pub turns : ℕ → (Run → Run) → Run → Run
turns zero body s = s
turns (suc n) body s = turns n body (body s)

-- a statement's and a block's run, by what ran before
abbrev mutual
  pub stmt_run : StmtTree → Run → Run
  stmt_run (set_local i e) s = spend 1 (store_local i (expr_value e s.locals s.vars) (spend (expr_ticks e) s))
  stmt_run (set_var i e) s = spend 1 (store_var i (expr_value e s.locals s.vars) (spend (expr_ticks e) s))
  stmt_run (send o es) s = spend 1 (send_on o (all_values es s.locals s.vars) (spend (all_ticks es) s))
  stmt_run (if_only e first) s = choose (is_not_zero (expr_value e s.locals s.vars)) (block_run first) (λ t. t) (spend (expr_ticks e + 1) s)
  stmt_run (if_else e first second) s =
      choose (is_not_zero (expr_value e s.locals s.vars)) (λ t. spend 1 (block_run first t)) (block_run second) (spend (expr_ticks e + 1) s)
  stmt_run (repeat e most body) s =
      turns (turns_of (expr_value e s.locals s.vars) most) (λ t. spend 1 (block_run body t)) (spend (expr_ticks e + 1) s)

  pub block_run : BlockTree → Run → Run
  block_run empty s = s
  block_run (more a rest) s = block_run rest (stmt_run a s)

-- the start of a handler: its parameters hold the message, and its other locals 0
abbrev pub start : ℕ → List ℤ → List ℤ → Run
start locals msg vars =
    record { locals = msg ++ replicate (locals - length msg) (pos 0); vars = vars; ticks = 0; sends = []; writes = [] }

-- the whole handler: its block, and one tick for its end
abbrev pub handler_run : BlockTree → ℕ → List ℤ → List ℤ → Run
handler_run body locals msg vars = spend 1 (block_run body (start locals msg vars))

-- what the handling of a message leaves: the variables, the messages sent, the ticks taken, and the writes of variables in order
pub record Handling : Type 0 where
  pub vars : List ℤ
  pub sends : List SendItem
  pub ticks : ℕ
  pub writes : List Write

-- what a run leaves
abbrev pub handling_of : Run → Handling
handling_of s = record { vars = s.vars; sends = s.sends; ticks = s.ticks; writes = s.writes }

-- a graph's port's handling of a message, which begins with these variables
abbrev pub handling : GraphTree → PortTree → List ℤ → List ℤ → Handling
handling graph port msg vars = handling_of (handler_run port.body port.locals msg vars)
