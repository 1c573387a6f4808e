-- How many instructions a tree has.
use Rattle.std.specs.Prelude.{ℕ, ◌+◌}
use Rattle.yt_graph.specs.Picture.{ExprTree, num, local, var, neg, lnot, two, call, ExprsTree, no_exprs, more_exprs, StmtTree, set_local, set_var, send, if_only, if_else, repeat, BlockTree, empty, more}

abbrev mutual
  -- one instruction for each form
  pub expr_size : ExprTree → ℕ
  expr_size (num n) = 1
  expr_size (local i) = 1
  expr_size (var i) = 1
  expr_size (neg e) = expr_size e + 1
  expr_size (lnot e) = expr_size e + 1
  expr_size (two op l r) = expr_size l + expr_size r + 1
  expr_size (call op code ticks args) = exprs_size args + 1

  pub exprs_size : ExprsTree → ℕ
  exprs_size no_exprs = 0
  exprs_size (more_exprs e rest) = expr_size e + exprs_size rest

abbrev mutual
  -- one instruction beside those of the parts, and one more to leave a first block or to end a turn
  pub stmt_size : StmtTree → ℕ
  stmt_size (set_local i e) = expr_size e + 1
  stmt_size (set_var i e) = expr_size e + 1
  stmt_size (send o es) = exprs_size es + 1
  stmt_size (if_only e first) = expr_size e + 1 + block_size first
  stmt_size (if_else e first second) = expr_size e + 1 + (block_size first + 1) + block_size second
  stmt_size (repeat e most body) = expr_size e + 1 + (block_size body + 1)

  pub block_size : BlockTree → ℕ
  block_size empty = 0
  block_size (more a rest) = stmt_size a + block_size rest
