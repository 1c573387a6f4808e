-- The instructions of a tree. A jump names a place, so a statement's instructions hang on where they stand.
use Rattle.std.specs.Prelude.{ℕ, ◌+◌, List, [], ◌∷◌, ◌++◌, length}
use Rattle.yt_graph.specs.Picture.{ExprTree, num, local, var, neg, lnot, two, call, ExprsTree, no_exprs, more_exprs, StmtTree, set_local, set_var, send, if_only, if_else, repeat, BlockTree, empty, more, PortTree, GraphTree}
use Rattle.yt_code.specs.declared.instr.Instr.{Instr}
use Rattle.yt_code.specs.declared.instr.Instr.TheVariants.{Push, Local, Var, SetLocal, SetVar, Neg, Not, Two, Call, Send, JumpZero, Jump, Loop, Again, End}
use Rattle.yt_code.specs.Valid.{Program}
use Rattle.yt_graph.specs.WellFormed.{exprs_count}
use Rattle.yt_cost.specs.CodeSizes.{expr_size, stmt_size, block_size}

abbrev mutual
  -- an expression's instructions put its value on the stack
  pub expr_code : ExprTree → List Instr
  expr_code (num n) = Push n ∷ []
  expr_code (local i) = Local i ∷ []
  expr_code (var i) = Var i ∷ []
  expr_code (neg e) = expr_code e ++ Neg ∷ []
  expr_code (lnot e) = expr_code e ++ Not ∷ []
  expr_code (two op l r) = expr_code l ++ (expr_code r ++ Two op ∷ [])
  expr_code (call op code ticks args) = exprs_code args ++ Call op (exprs_count args) ticks code ∷ []

  pub exprs_code : ExprsTree → List Instr
  exprs_code no_exprs = []
  exprs_code (more_exprs e rest) = expr_code e ++ exprs_code rest

-- an `if` without `else` at place p: its test of size t, and its block of size a
abbrev pub only_code : ℕ → ℕ → List Instr → ℕ → List Instr → List Instr
only_code p t test a first = test ++ (JumpZero (p + (t + 1 + a)) ∷ first)

-- an `if` with `else` at place p: its test of size t, and its blocks of sizes a and b
abbrev pub else_code : ℕ → ℕ → List Instr → ℕ → List Instr → ℕ → List Instr → List Instr
else_code p t test a first b second =
    test ++ (JumpZero (p + (t + 1 + (a + 1))) ∷ (first ++ (Jump (p + (t + 1 + (a + 1) + b)) ∷ second)))

-- a loop at place p, of at most so many turns: its count of size t, and its block of size a
abbrev pub loop_code : ℕ → ℕ → ℕ → List Instr → ℕ → List Instr → List Instr
loop_code most p t count a body = count ++ (Loop most (p + (t + 1 + (a + 1))) ∷ (body ++ Again (p + (t + 1)) ∷ []))

abbrev mutual
  -- a statement's instructions where the first stands at place p
  pub stmt_code : StmtTree → ℕ → List Instr
  stmt_code (set_local i e) p = expr_code e ++ SetLocal i ∷ []
  stmt_code (set_var i e) p = expr_code e ++ SetVar i ∷ []
  stmt_code (send o es) p = exprs_code es ++ Send o (exprs_count es) ∷ []
  stmt_code (if_only e first) p =
      only_code p (expr_size e) (expr_code e) (block_size first) (block_code first (p + (expr_size e + 1)))
  stmt_code (if_else e first second) p =
      else_code p (expr_size e) (expr_code e) (block_size first) (block_code first (p + (expr_size e + 1))) (block_size second) (block_code second (p + (expr_size e + 1 + (block_size first + 1))))
  stmt_code (repeat e most body) p =
      loop_code most p (expr_size e) (expr_code e) (block_size body) (block_code body (p + (expr_size e + 1)))

  pub block_code : BlockTree → ℕ → List Instr
  block_code empty p = []
  block_code (more a rest) p = stmt_code a p ++ block_code rest (p + stmt_size a)

-- a handler's instructions: its block, and its end
abbrev pub handler_code : BlockTree → List Instr
handler_code body = block_code body 0 ++ End ∷ []

-- the code of the handler of a graph's port
abbrev pub port_code : GraphTree → PortTree → Program
port_code graph port =
    record { instrs = handler_code port.body; params = port.params; locals = port.locals; vars = length graph.vars }
