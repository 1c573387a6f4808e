-- The places of a handler are places of its locals and of the variables.
use Rattle.std.specs.Prelude.{ℕ, ◌<◌, ◌≤◌}
use Rattle.yt_graph.specs.Picture.{ExprTree, num, local, var, neg, lnot, two, call, ExprsTree, no_exprs, more_exprs, StmtTree, set_local, set_var, send, if_only, if_else, repeat, BlockTree, empty, more, PortTree}

abbrev mutual
  -- an expression's places are within so many locals and variables
  pub IsExprWithin : (locals vars : ℕ) → ExprTree → Type 0
  IsExprWithin locals vars (num n) = Unit {0}
  IsExprWithin locals vars (local i) = i < locals
  IsExprWithin locals vars (var i) = i < vars
  IsExprWithin locals vars (neg e) = IsExprWithin locals vars e
  IsExprWithin locals vars (lnot e) = IsExprWithin locals vars e
  IsExprWithin locals vars (two op l r) = IsExprWithin locals vars l × IsExprWithin locals vars r
  IsExprWithin locals vars (call op code ticks args) = AreExprsWithin locals vars args

  pub AreExprsWithin : (locals vars : ℕ) → ExprsTree → Type 0
  AreExprsWithin locals vars no_exprs = Unit {0}
  AreExprsWithin locals vars (more_exprs e rest) = IsExprWithin locals vars e × AreExprsWithin locals vars rest

abbrev mutual
  -- the places of a statement and of a block
  pub IsStmtWithin : (locals vars : ℕ) → StmtTree → Type 0
  IsStmtWithin locals vars (set_local i e) = (i < locals) × IsExprWithin locals vars e
  IsStmtWithin locals vars (set_var i e) = (i < vars) × IsExprWithin locals vars e
  IsStmtWithin locals vars (send o es) = AreExprsWithin locals vars es
  IsStmtWithin locals vars (if_only e first) = IsExprWithin locals vars e × IsBlockWithin locals vars first
  IsStmtWithin locals vars (if_else e first second) = IsExprWithin locals vars e × IsBlockWithin locals vars first × IsBlockWithin locals vars second
  IsStmtWithin locals vars (repeat e most body) = IsExprWithin locals vars e × IsBlockWithin locals vars body

  pub IsBlockWithin : (locals vars : ℕ) → BlockTree → Type 0
  IsBlockWithin locals vars empty = Unit {0}
  IsBlockWithin locals vars (more a rest) = IsStmtWithin locals vars a × IsBlockWithin locals vars rest

-- a port's handler has a local for each number of a message, and names only locals and variables that are there
pub record IsHandlerWithin (vars : ℕ) (port : PortTree) : Type 0 where
  pub params : port.params ≤ port.locals
  pub places : IsBlockWithin port.locals vars port.body
