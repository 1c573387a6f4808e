-- The picture of a node that is given by its parts, and a weight by which recursions on pictures go down.
use Rattle.std.specs.Prelude.{ℕ, ◌+◌}
use Rattle.yt_graph.specs.declared.parts as declared
use Rattle.yt_graph.specs.declared.parts.Parts.TheVariants.{SetLocal, SetVar, Send, Only, Else, Repeat}
use Rattle.yt_graph.specs.declared.parts.ExprParts.TheVariants.{Num, Local, Var, Neg, Not, Two, Call}
use Rattle.yt_graph.specs.Picture.{ExprTree, num, local, var, neg, lnot, two, call, ExprsTree, no_exprs, more_exprs, StmtTree, set_local, set_var, send, if_only, if_else, repeat, BlockTree, empty, more, expr_tree, exprs_tree, block_tree}

-- the picture of an expression that is opened
abbrev pub expr_parts_tree : declared.ExprParts.ExprParts → ExprTree
expr_parts_tree (Num n) = num n
expr_parts_tree (Local i) = local i
expr_parts_tree (Var i) = var i
expr_parts_tree (Neg e) = neg (expr_tree e.now)
expr_parts_tree (Not e) = lnot (expr_tree e.now)
expr_parts_tree (Two op l r) = two op (expr_tree l.now) (expr_tree r.now)
expr_parts_tree (Call op code ticks args) = call op code ticks (exprs_tree args.now)

-- the picture of a statement that is opened
abbrev pub parts_tree : declared.Parts.Parts → StmtTree
parts_tree (SetLocal i e) = set_local i (expr_tree e.now)
parts_tree (SetVar i e) = set_var i (expr_tree e.now)
parts_tree (Send o es) = send o (exprs_tree es.now)
parts_tree (Only e first) = if_only (expr_tree e.now) (block_tree first.now)
parts_tree (Else e first second) = if_else (expr_tree e.now) (block_tree first.now) (block_tree second.now)
parts_tree (Repeat e most body) = repeat (expr_tree e.now) most (block_tree body.now)

-- an expression weighs more than each of its parts
abbrev mutual
  pub expr_weight : ExprTree → ℕ
  expr_weight (num n) = 1
  expr_weight (local i) = 1
  expr_weight (var i) = 1
  expr_weight (neg e) = 1 + expr_weight e
  expr_weight (lnot e) = 1 + expr_weight e
  expr_weight (two op l r) = 1 + expr_weight l + expr_weight r
  expr_weight (call op code ticks args) = 1 + exprs_weight args

  pub exprs_weight : ExprsTree → ℕ
  exprs_weight no_exprs = 0
  exprs_weight (more_exprs e rest) = 1 + expr_weight e + exprs_weight rest

-- a statement weighs more than each of its blocks, and a block more than each of its statements
abbrev mutual
  pub stmt_weight : StmtTree → ℕ
  stmt_weight (set_local i e) = 1
  stmt_weight (set_var i e) = 1
  stmt_weight (send o es) = 1
  stmt_weight (if_only e first) = 1 + block_weight first
  stmt_weight (if_else e first second) = 1 + block_weight first + block_weight second
  stmt_weight (repeat e most body) = 1 + block_weight body

  pub block_weight : BlockTree → ℕ
  block_weight empty = 0
  block_weight (more a rest) = 1 + stmt_weight a + block_weight rest
