-- The handlers that can be compiled, and that their code is valid.
use Rattle.std.specs.Prelude.{◌≡◌, ◌≤◌, Bool, true, false, ◌||◌}
use Rattle.std.specs.List.{All}
use Rattle.yt_graph.specs.Picture.{ExprTree, num, local, var, neg, lnot, two, call, ExprsTree, no_exprs, more_exprs, StmtTree, set_local, set_var, send, if_only, if_else, repeat, BlockTree, empty, more, PortTree, GraphTree}
use Rattle.yt_graph.specs.WellFormed.{IsFinePort}
use Rattle.yt_graph.specs.Cost.{greatest_cost}
use Rattle.yt_graph.specs.Limits.{most_cost}
use Rattle.yt_code.specs.Valid.{IsValidCode}
use Rattle.yt_cost.specs.Code.{port_code}

-- whether an expression calls an operator
abbrev pub expr_calls : ExprTree → Bool
expr_calls (num n) = false
expr_calls (local i) = false
expr_calls (var i) = false
expr_calls (neg e) = expr_calls e
expr_calls (lnot e) = expr_calls e
expr_calls (two op l r) = expr_calls l || expr_calls r
expr_calls (call op code ticks args) = true

abbrev pub exprs_call : ExprsTree → Bool
exprs_call no_exprs = false
exprs_call (more_exprs e rest) = expr_calls e || exprs_call rest

abbrev mutual
  -- whether a statement or a block calls one
  pub stmt_calls : StmtTree → Bool
  stmt_calls (set_local i e) = expr_calls e
  stmt_calls (set_var i e) = expr_calls e
  stmt_calls (send o es) = exprs_call es
  stmt_calls (if_only e first) = expr_calls e || block_calls first
  stmt_calls (if_else e first second) = expr_calls e || (block_calls first || block_calls second)
  stmt_calls (repeat e most body) = expr_calls e || block_calls body

  pub block_calls : BlockTree → Bool
  block_calls empty = false
  block_calls (more a rest) = stmt_calls a || block_calls rest

-- no handler of the graph calls an operator
abbrev pub HasNoCalls : GraphTree → Type 0
HasNoCalls graph = All (λ p. block_calls p.body ≡ false) graph.ports

-- the handler is that of a well-formed port of the graph, calls no operator, and takes no more ticks than it may
pub record IsHandlerFit (graph : GraphTree) (port : PortTree) : Type 0 where
  pub well_formed : IsFinePort graph port
  pub no_calls : block_calls port.body ≡ false
  pub cost : greatest_cost port ≤ most_cost

-- the code of such a handler is valid, so a machine is never stuck in it
abbrev pub CompiledIsValid : Type 0
CompiledIsValid = (graph : GraphTree) (port : PortTree) → IsHandlerFit graph port → IsValidCode (port_code graph port)
