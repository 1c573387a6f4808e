-- Whether an operator is called somewhere in a graph.
use Rattle.std.specs.Prelude.{Bool, true, false, ◌||◌, List}
use Rattle.std.specs.List.{list_any}
use Rattle.yt_graph.specs.AstPicture.{AstExprTree, number, name, minus, negation, two_sides, paren, call_of, AstExprsTree, no_values, more_values, AstStmtTree, let_local, assign, send_on, when_only, when_else, turns, AstBlockTree, no_stmts, more_stmts, PortDeclTree, ItemTree, input, output, resource, process}

-- an expression holds a call
abbrev pub expr_calls : AstExprTree → Bool
expr_calls (number n) = false
expr_calls (name w) = false
expr_calls (minus e) = expr_calls e
expr_calls (negation e) = expr_calls e
expr_calls (two_sides op l r) = expr_calls l || expr_calls r
expr_calls (paren e) = expr_calls e
expr_calls (call_of w args) = true

abbrev pub exprs_call : AstExprsTree → Bool
exprs_call no_values = false
exprs_call (more_values e rest) = expr_calls e || exprs_call rest

abbrev mutual
  -- a statement holds a call
  pub stmt_calls : AstStmtTree → Bool
  stmt_calls (let_local w e) = expr_calls e
  stmt_calls (assign w e) = expr_calls e
  stmt_calls (send_on w es) = exprs_call es
  stmt_calls (when_only e first) = expr_calls e || block_calls first
  stmt_calls (when_else e first second) = expr_calls e || (block_calls first || block_calls second)
  stmt_calls (turns e most body) = expr_calls e || block_calls body

  pub block_calls : AstBlockTree → Bool
  block_calls no_stmts = false
  block_calls (more_stmts s rest) = stmt_calls s || block_calls rest

-- a handler of one of the ports holds a call
abbrev pub ports_call : List PortDeclTree → Bool
ports_call ports = list_any (λ p. block_calls p.body) ports

-- a handler of a part holds a call
abbrev pub item_calls : ItemTree → Bool
item_calls (input i) = false
item_calls (output o) = false
item_calls (resource r) = false
item_calls (process p) = ports_call p.ports

-- a handler of the graph holds a call
abbrev pub has_call : List ItemTree → Bool
has_call items = list_any item_calls items
