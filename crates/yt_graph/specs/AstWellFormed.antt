-- What each syntax tree of a text has, as far as the resolved graph rests on it: names that are words, numbers without a sign, and no depth past its limit.
use Rattle.std.specs.Prelude.{◌≤◌, ℕ, ◌+◌, max, ℤ, pos, negsuc, Option, None, Some, List, IsTrue}
use Rattle.std.specs.List.{All}
use Rattle.yt_graph.specs.declared.ast.Word.{Word}
use Rattle.yt_graph.specs.declared.ast.Num.{Num}
use Rattle.yt_graph.specs.declared.ast.Path.{Path}
use Rattle.yt_graph.specs.declared.ast.Source as source
use Rattle.yt_graph.specs.declared.ast.Source.{Source}
use Rattle.yt_graph.specs.declared.ast.OutDecl.{OutDecl}
use Rattle.yt_graph.specs.AstPicture.{AstExprTree, number, name, minus, negation, two_sides, paren, call_of, AstExprsTree, no_values, more_values, AstStmtTree, let_local, assign, send_on, when_only, when_else, turns, AstBlockTree, no_stmts, more_stmts, PortDeclTree, ItemTree, input, output, resource, process}
use Rattle.yt_graph.specs.Limits.{most_expr_depth, most_block_depth}
use Rattle.yt_graph.specs.Names.{is_name}

-- a word that may name something
abbrev pub IsName : Word → Type 0
IsName w = IsTrue (is_name w.text)

-- a number that is written has no sign
abbrev pub IsWrittenNumber : ℤ → Type 0
IsWrittenNumber (pos n) = Unit {0}
IsWrittenNumber (negsuc n) = ⊥

-- the depth of an expression: 1 for a number or a name, else 1 more than its greatest part
abbrev mutual
  pub ast_expr_depth : AstExprTree → ℕ
  ast_expr_depth (number n) = 1
  ast_expr_depth (name w) = 1
  ast_expr_depth (minus e) = 1 + ast_expr_depth e
  ast_expr_depth (negation e) = 1 + ast_expr_depth e
  ast_expr_depth (two_sides op l r) = 1 + max (ast_expr_depth l) (ast_expr_depth r)
  ast_expr_depth (paren e) = 1 + ast_expr_depth e
  ast_expr_depth (call_of w args) = 1 + ast_exprs_depth args

  pub ast_exprs_depth : AstExprsTree → ℕ
  ast_exprs_depth no_values = 0
  ast_exprs_depth (more_values e rest) = max (ast_expr_depth e) (ast_exprs_depth rest)

-- a call has an argument or more
abbrev pub HasOne : AstExprsTree → Type 0
HasOne no_values = ⊥
HasOne (more_values e rest) = Unit {0}

abbrev mutual
  pub IsWritableExpr : AstExprTree → Type 0
  IsWritableExpr (number n) = IsWrittenNumber n
  IsWritableExpr (name w) = IsName w
  IsWritableExpr (minus e) = IsWritableExpr e
  IsWritableExpr (negation e) = IsWritableExpr e
  IsWritableExpr (two_sides op l r) = IsWritableExpr l × IsWritableExpr r
  IsWritableExpr (paren e) = IsWritableExpr e
  IsWritableExpr (call_of w args) = IsName w × HasOne args × AreWritableExprs args

  pub AreWritableExprs : AstExprsTree → Type 0
  AreWritableExprs no_values = Unit {0}
  AreWritableExprs (more_values e rest) = IsWritableExpr e × AreWritableExprs rest

-- an expression that is no deeper than 32
abbrev pub IsWritableValue : AstExprTree → Type 0
IsWritableValue e = (ast_expr_depth e ≤ most_expr_depth) × IsWritableExpr e

-- how many blocks stand in each other inside a statement or a block
abbrev mutual
  pub ast_stmt_depth : AstStmtTree → ℕ
  ast_stmt_depth (let_local w e) = 0
  ast_stmt_depth (assign w e) = 0
  ast_stmt_depth (send_on w es) = 0
  ast_stmt_depth (when_only e first) = 1 + ast_block_depth first
  ast_stmt_depth (when_else e first second) = 1 + max (ast_block_depth first) (ast_block_depth second)
  ast_stmt_depth (turns e most body) = 1 + ast_block_depth body

  pub ast_block_depth : AstBlockTree → ℕ
  ast_block_depth no_stmts = 0
  ast_block_depth (more_stmts s rest) = max (ast_stmt_depth s) (ast_block_depth rest)

abbrev mutual
  pub IsWritableStmt : AstStmtTree → Type 0
  IsWritableStmt (let_local w e) = IsName w × IsWritableValue e
  IsWritableStmt (assign w e) = IsName w × IsWritableValue e
  IsWritableStmt (send_on w es) = IsName w × (ast_exprs_depth es ≤ most_expr_depth) × AreWritableExprs es
  IsWritableStmt (when_only e first) = IsWritableValue e × IsWritableBlock first
  IsWritableStmt (when_else e first second) = IsWritableValue e × IsWritableBlock first × IsWritableBlock second
  IsWritableStmt (turns e most body) = IsWritableValue e × IsWrittenNumber most.value × IsWritableBlock body

  pub IsWritableBlock : AstBlockTree → Type 0
  IsWritableBlock no_stmts = Unit {0}
  IsWritableBlock (more_stmts s rest) = IsWritableStmt s × IsWritableBlock rest

abbrev pub IsWritablePath : Path → Type 0
IsWritablePath path = IsName path.process × IsName path.port × IsName path.out

abbrev pub IsWritableSource : Source → Type 0
IsWritableSource (source.TheVariants.Input w) = IsName w
IsWritableSource (source.TheVariants.Out path) = IsWritablePath path

abbrev pub IsWritableEvery : Option Num → Type 0
IsWritableEvery None = Unit {0}
IsWritableEvery (Some n) = IsWrittenNumber n.value

abbrev pub IsWritableOut : OutDecl → Type 0
IsWritableOut o = IsName o.name × IsWrittenNumber o.width.value × IsWritableEvery o.every

abbrev pub IsWritablePort : PortDeclTree → Type 0
IsWritablePort p = IsName p.name × IsWritableSource p.source × All IsName p.params × All IsWritableOut p.outs × (1 + ast_block_depth p.body ≤ most_block_depth) × IsWritableBlock p.body

abbrev pub IsWritableInside : Option Word → Type 0
IsWritableInside None = Unit {0}
IsWritableInside (Some w) = IsName w

abbrev pub IsWritableItem : ItemTree → Type 0
IsWritableItem (input i) = IsName i.name × IsWrittenNumber i.width.value × IsWrittenNumber i.period.value
IsWritableItem (output o) = IsName o.name × IsWritablePath o.path
IsWritableItem (resource r) = IsName r.name
IsWritableItem (process p) = IsName p.name × IsWritableInside p.inside × All (λ v. IsName v.name) p.vars × All IsWritablePort p.ports

-- a tree of such parts
abbrev pub IsWritable : List ItemTree → Type 0
IsWritable items = All IsWritableItem items
