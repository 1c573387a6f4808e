-- The picture of a syntax tree: no boxes, no pointers, and lists in place of vectors. Two trees are the same where their pictures are equal.
use Rattle.std.specs.Prelude.{ℤ, List, [], ◌∷◌, map, Option}
use Rattle.yt_graph.specs.declared.expr.Op2.{Op2}
use Rattle.yt_graph.specs.declared.ast.Word.{Word}
use Rattle.yt_graph.specs.declared.ast.Num.{Num}
use Rattle.yt_graph.specs.declared.ast.Path.{Path}
use Rattle.yt_graph.specs.declared.ast.Source.{Source}
use Rattle.yt_graph.specs.declared.ast.VarDecl.{VarDecl}
use Rattle.yt_graph.specs.declared.ast.OutDecl.{OutDecl}
use Rattle.yt_graph.specs.declared.ast.PortDecl.{PortDecl}
use Rattle.yt_graph.specs.declared.ast.Item as declared_item
use Rattle.yt_graph.specs.declared.ast.Item.TheVariants.{Input, Output, Resource, Process}
use Rattle.yt_graph.specs.declared.ast.Ast as declared_ast
use Rattle.yt_graph.specs.declared.ast_expr.AstExpr as declared_expr
use Rattle.yt_graph.specs.declared.ast_expr.AstExpr.{AstExpr, Name, Neg', Not', Two', Paren', Call', Row_of-AstExpr, end_of-AstExpr, more_of-AstExpr}
use Rattle.yt_graph.specs.declared.ast_stmt.AstStmt.{AstStmt, Let, Set, Send, If', Repeat', Row_of-AstStmt, end_of-AstStmt, more_of-AstStmt, Held-AstStmt-If-2, None', Some'}

mutual
  -- an expression as it is written: numbers without places, words with theirs
  pub data AstExprTree : Type 0 where
    number : ℤ → AstExprTree
    name : Word → AstExprTree
    minus : AstExprTree → AstExprTree
    negation : AstExprTree → AstExprTree
    two_sides : Op2 → AstExprTree → AstExprTree → AstExprTree
    paren : AstExprTree → AstExprTree
    call_of : Word → AstExprsTree → AstExprTree

  -- expressions in order: a type that holds itself can't do so inside `List`
  pub data AstExprsTree : Type 0 where
    no_values : AstExprsTree
    more_values : AstExprTree → AstExprsTree → AstExprsTree

mutual
  -- a statement as it is written
  pub data AstStmtTree : Type 0 where
    let_local : Word → AstExprTree → AstStmtTree
    assign : Word → AstExprTree → AstStmtTree
    send_on : Word → AstExprsTree → AstStmtTree
    when_only : AstExprTree → AstBlockTree → AstStmtTree
    when_else : AstExprTree → AstBlockTree → AstBlockTree → AstStmtTree
    turns : AstExprTree → Num → AstBlockTree → AstStmtTree

  -- statements in order
  pub data AstBlockTree : Type 0 where
    no_stmts : AstBlockTree
    more_stmts : AstStmtTree → AstBlockTree → AstBlockTree

abbrev mutual
  -- the picture of an expression
  pub ast_expr_tree : AstExpr → AstExprTree
  ast_expr_tree (declared_expr.Num n) = number n
  ast_expr_tree (Name w) = name w
  ast_expr_tree (Neg' p e) = minus (ast_expr_tree e)
  ast_expr_tree (Not' p e) = negation (ast_expr_tree e)
  ast_expr_tree (Two' op p l q r) = two_sides op (ast_expr_tree l) (ast_expr_tree r)
  ast_expr_tree (Paren' p e) = paren (ast_expr_tree e)
  ast_expr_tree (Call' w shape args) = call_of w (ast_expr_row_tree args)

  -- the picture of a call's arguments, as the call holds them
  pub ast_expr_row_tree : {n : _} → Row_of-AstExpr n → AstExprsTree
  ast_expr_row_tree end_of-AstExpr = no_values
  ast_expr_row_tree (more_of-AstExpr e rest) = more_values (ast_expr_tree e) (ast_expr_row_tree rest)

-- the picture of a vector's expressions, by its list
abbrev pub ast_exprs_tree : List AstExpr → AstExprsTree
ast_exprs_tree [] = no_values
ast_exprs_tree (e ∷ rest) = more_values (ast_expr_tree e) (ast_exprs_tree rest)

abbrev mutual
  -- the picture of a statement
  pub ast_stmt_tree : AstStmt → AstStmtTree
  ast_stmt_tree (Let w e) = let_local w (ast_expr_tree e)
  ast_stmt_tree (Set w e) = assign w (ast_expr_tree e)
  ast_stmt_tree (Send w es) = send_on w (ast_exprs_tree es.items)
  ast_stmt_tree (If' e shape first second) = ast_choice_tree (ast_expr_tree e) (ast_row_tree first) second
  ast_stmt_tree (Repeat' e most shape body) = turns (ast_expr_tree e) most (ast_row_tree body)

  -- the picture of an `if`, whose second block may be absent
  pub ast_choice_tree : AstExprTree → AstBlockTree → Held-AstStmt-If-2 → AstStmtTree
  ast_choice_tree e first None' = when_only e first
  ast_choice_tree e first (Some' shape second) = when_else e first (ast_row_tree second)

  -- the picture of a block, as the statement around it holds it
  pub ast_row_tree : {n : _} → Row_of-AstStmt n → AstBlockTree
  ast_row_tree end_of-AstStmt = no_stmts
  ast_row_tree (more_of-AstStmt s rest) = more_stmts (ast_stmt_tree s) (ast_row_tree rest)

-- the picture of a vector's statements, by its list
abbrev pub ast_block_tree : List AstStmt → AstBlockTree
ast_block_tree [] = no_stmts
ast_block_tree (s ∷ rest) = more_stmts (ast_stmt_tree s) (ast_block_tree rest)

-- a port as it is written
pub record PortDeclTree : Type 0 where
  pub name : Word
  pub source : Source
  pub params : List Word
  pub outs : List OutDecl
  pub body : AstBlockTree

-- an input as it is written
pub record InputTree : Type 0 where
  pub name : Word
  pub width : Num
  pub period : Num

-- an output as it is written
pub record OutputTree : Type 0 where
  pub name : Word
  pub path : Path

-- a resource as it is written
pub record ResourceTree : Type 0 where
  pub name : Word

-- a process as it is written: the resource that it is in, where one is written, its variables and its ports
pub record ProcessTree : Type 0 where
  pub name : Word
  pub inside : Option Word
  pub vars : List VarDecl
  pub ports : List PortDeclTree

-- a part of a graph as it is written
pub data ItemTree : Type 0 where
  input : InputTree → ItemTree
  output : OutputTree → ItemTree
  resource : ResourceTree → ItemTree
  process : ProcessTree → ItemTree

-- the picture of a port
abbrev pub port_decl_tree : PortDecl → PortDeclTree
port_decl_tree p = record { name = p.name; source = p.source; params = p.params; outs = p.outs; body = ast_block_tree p.body.items }

-- the picture of a part of a graph
abbrev pub item_tree : declared_item.Item → ItemTree
item_tree (Input w width period) = input (record { name = w; width = width; period = period })
item_tree (Output w path) = output (record { name = w; path = path })
item_tree (Resource w) = resource (record { name = w })
item_tree (Process w inside vars ports) = process (record { name = w; inside = inside; vars = vars; ports = map port_decl_tree ports })

-- the picture of a syntax tree
abbrev pub ast_tree : declared_ast.Ast → List ItemTree
ast_tree a = map item_tree a.items
