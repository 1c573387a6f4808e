-- The picture of a graph: no boxes, no pointers, and lists in place of vectors. Two graphs are the same where their pictures are equal.
use Rattle.std.specs.Prelude.{ℕ, ℤ, List, [], ◌∷◌, map}
use Rattle.yt_graph.specs.declared.expr.Op2.{Op2}
use Rattle.yt_graph.specs.declared.expr.Expr.{Expr, Num, Local, Var, Neg', Not', Two', Call', Row_of-Expr, end_of-Expr, more_of-Expr}
use Rattle.yt_graph.specs.declared.stmt.Stmt.{Stmt, SetLocal, SetVar, Send, If', Repeat', Row_of-Stmt, end_of-Stmt, more_of-Stmt, Held-Stmt-If-2, None', Some'}
use Rattle.yt_graph.specs.declared.port.Feed.{Feed}
use Rattle.yt_graph.specs.declared.port.OutHead.{OutHead}
use Rattle.yt_graph.specs.declared.port.Port.{Port}
use Rattle.yt_graph.specs.declared.graph as declared

mutual
  -- an expression: locals and variables by their places from 0, an operator's call by its number, its code and its ticks
  pub data ExprTree : Type 0 where
    num : ℤ → ExprTree
    local : ℕ → ExprTree
    var : ℕ → ExprTree
    neg : ExprTree → ExprTree
    lnot : ExprTree → ExprTree
    two : Op2 → ExprTree → ExprTree → ExprTree
    call : (op code ticks : ℕ) → ExprsTree → ExprTree

  -- expressions in order: a type that holds itself can't do so inside `List`
  pub data ExprsTree : Type 0 where
    no_exprs : ExprsTree
    more_exprs : ExprTree → ExprsTree → ExprsTree

mutual
  -- a statement: locals and variables by their places from 0, outs by their numbers from 1
  pub data StmtTree : Type 0 where
    set_local : ℕ → ExprTree → StmtTree
    set_var : ℕ → ExprTree → StmtTree
    send : ℕ → ExprsTree → StmtTree
    if_only : ExprTree → BlockTree → StmtTree
    if_else : ExprTree → BlockTree → BlockTree → StmtTree
    repeat : ExprTree → ℕ → BlockTree → StmtTree

  -- statements in order
  pub data BlockTree : Type 0 where
    empty : BlockTree
    more : StmtTree → BlockTree → BlockTree

abbrev mutual
  -- the picture of an expression
  pub expr_tree : Expr → ExprTree
  expr_tree (Num n) = num n
  expr_tree (Local i) = local i
  expr_tree (Var i) = var i
  expr_tree (Neg' p e) = neg (expr_tree e)
  expr_tree (Not' p e) = lnot (expr_tree e)
  expr_tree (Two' op p l q r) = two op (expr_tree l) (expr_tree r)
  expr_tree (Call' op code ticks shape args) = call op code ticks (expr_row_tree args)

  -- the picture of a call's arguments, as the call holds them
  pub expr_row_tree : {n : _} → Row_of-Expr n → ExprsTree
  expr_row_tree end_of-Expr = no_exprs
  expr_row_tree (more_of-Expr e rest) = more_exprs (expr_tree e) (expr_row_tree rest)

-- the picture of a vector's expressions, by its list
abbrev pub exprs_tree : List Expr → ExprsTree
exprs_tree [] = no_exprs
exprs_tree (e ∷ rest) = more_exprs (expr_tree e) (exprs_tree rest)

abbrev mutual
  -- the picture of a statement
  pub stmt_tree : Stmt → StmtTree
  stmt_tree (SetLocal i e) = set_local i (expr_tree e)
  stmt_tree (SetVar i e) = set_var i (expr_tree e)
  stmt_tree (Send o es) = send o (exprs_tree es.items)
  stmt_tree (If' e shape first second) = choice_tree (expr_tree e) (row_tree first) second
  stmt_tree (Repeat' e max shape body) = repeat (expr_tree e) max (row_tree body)

  -- the picture of an `if`, whose second block may be absent
  pub choice_tree : ExprTree → BlockTree → Held-Stmt-If-2 → StmtTree
  choice_tree e first None' = if_only e first
  choice_tree e first (Some' shape second) = if_else e first (row_tree second)

  -- the picture of a block, as the statement around it holds it
  pub row_tree : {n : _} → Row_of-Stmt n → BlockTree
  row_tree end_of-Stmt = empty
  row_tree (more_of-Stmt s rest) = more (stmt_tree s) (row_tree rest)

-- the picture of a vector's statements, by its list
abbrev pub block_tree : List Stmt → BlockTree
block_tree [] = empty
block_tree (s ∷ rest) = more (stmt_tree s) (block_tree rest)

-- a port: its outs are numbered from 1, its resource too, with 0 for none
pub record PortTree : Type 0 where
  pub process : List ℕ
  pub name : List ℕ
  pub feed : Feed
  pub group : ℕ
  pub params : ℕ
  pub locals : ℕ
  pub outs : List OutHead
  pub body : BlockTree

-- a graph: variables have places from 0, all others are numbered from 1
pub record GraphTree : Type 0 where
  pub inputs : List declared.Input.Input
  pub outputs : List declared.Output.Output
  pub groups : List (List ℕ)
  pub vars : List declared.Var.Var
  pub ports : List PortTree

-- the picture of a port
abbrev pub port_tree : Port → PortTree
port_tree p =
    record { process = p.process; name = p.name; feed = p.feed; group = p.group; params = p.params; locals = p.locals; outs = p.outs; body = block_tree p.body.items }

-- the picture of a graph
abbrev pub graph_tree : declared.Graph.Graph → GraphTree
graph_tree g =
    record { inputs = g.inputs; outputs = g.outputs; groups = g.groups; vars = g.vars; ports = map port_tree g.ports }
