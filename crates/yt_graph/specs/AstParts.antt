-- The picture of a node of the syntax tree that is given by its parts, and a weight by which recursions on pictures go down.
use Rattle.std.specs.Prelude.{ℕ, ◌+◌}
use Rattle.yt_graph.specs.declared.ast_parts as declared
use Rattle.yt_graph.specs.declared.ast_parts.AstParts.TheVariants.{Let, Set, Send, Only, Else, Repeat}
use Rattle.yt_graph.specs.declared.ast_parts.AstExprParts.TheVariants.{Num, Name, Neg, Not, Two, Paren, Call}
use Rattle.yt_graph.specs.AstPicture.{AstExprTree, number, name, minus, negation, two_sides, paren, call_of, AstExprsTree, no_values, more_values, AstStmtTree, let_local, assign, send_on, when_only, when_else, turns, AstBlockTree, no_stmts, more_stmts, ast_expr_tree, ast_exprs_tree, ast_block_tree}

-- the picture of an expression that is opened
abbrev pub ast_expr_parts_tree : declared.AstExprParts.AstExprParts → AstExprTree
ast_expr_parts_tree (Num n) = number n
ast_expr_parts_tree (Name w) = name w.now
ast_expr_parts_tree (Neg e) = minus (ast_expr_tree e.now)
ast_expr_parts_tree (Not e) = negation (ast_expr_tree e.now)
ast_expr_parts_tree (Two op l r) = two_sides op (ast_expr_tree l.now) (ast_expr_tree r.now)
ast_expr_parts_tree (Paren e) = paren (ast_expr_tree e.now)
ast_expr_parts_tree (Call w args) = call_of w.now (ast_exprs_tree args.now)

-- the picture of a statement that is opened
abbrev pub ast_parts_tree : declared.AstParts.AstParts → AstStmtTree
ast_parts_tree (Let w e) = let_local w.now (ast_expr_tree e.now)
ast_parts_tree (Set w e) = assign w.now (ast_expr_tree e.now)
ast_parts_tree (Send w es) = send_on w.now (ast_exprs_tree es.now)
ast_parts_tree (Only e first) = when_only (ast_expr_tree e.now) (ast_block_tree first.now)
ast_parts_tree (Else e first second) = when_else (ast_expr_tree e.now) (ast_block_tree first.now) (ast_block_tree second.now)
ast_parts_tree (Repeat e most body) = turns (ast_expr_tree e.now) most (ast_block_tree body.now)

-- an expression weighs more than each of its parts
abbrev mutual
  pub ast_expr_weight : AstExprTree → ℕ
  ast_expr_weight (number n) = 1
  ast_expr_weight (name w) = 1
  ast_expr_weight (minus e) = 1 + ast_expr_weight e
  ast_expr_weight (negation e) = 1 + ast_expr_weight e
  ast_expr_weight (two_sides op l r) = 1 + ast_expr_weight l + ast_expr_weight r
  ast_expr_weight (paren e) = 1 + ast_expr_weight e
  ast_expr_weight (call_of w args) = 1 + ast_exprs_weight args

  pub ast_exprs_weight : AstExprsTree → ℕ
  ast_exprs_weight no_values = 0
  ast_exprs_weight (more_values e rest) = 1 + ast_expr_weight e + ast_exprs_weight rest

-- a statement weighs more than each of its blocks, and a block more than each of its statements
abbrev mutual
  pub ast_stmt_weight : AstStmtTree → ℕ
  ast_stmt_weight (let_local w e) = 1
  ast_stmt_weight (assign w e) = 1
  ast_stmt_weight (send_on w es) = 1
  ast_stmt_weight (when_only e first) = 1 + ast_block_weight first
  ast_stmt_weight (when_else e first second) = 1 + ast_block_weight first + ast_block_weight second
  ast_stmt_weight (turns e most body) = 1 + ast_block_weight body

  pub ast_block_weight : AstBlockTree → ℕ
  ast_block_weight no_stmts = 0
  ast_block_weight (more_stmts s rest) = 1 + ast_stmt_weight s + ast_block_weight rest
