-- Trees that can be written: names that are words, numbers from 0 on, sides that bind tightly enough, and no depth past its limit.
use Rattle.std.specs.Prelude.{ℕ, ◌-◌, ◌^◌, nat_le, nat_lt, ◌&&◌, Bool, true, false, ℤ, pos, negsuc, suc, List, Option, None, Some}
use Rattle.std.specs.List.{list_all}
use Rattle.yt_graph.specs.declared.ast.Word.{Word}
use Rattle.yt_graph.specs.declared.ast.Num.{Num}
use Rattle.yt_graph.specs.declared.ast.Path.{Path}
use Rattle.yt_graph.specs.declared.ast.Source.{Source}
use Rattle.yt_graph.specs.declared.ast.Source.TheVariants.{Input, Out}
use Rattle.yt_graph.specs.declared.ast.VarDecl.{VarDecl}
use Rattle.yt_graph.specs.declared.ast.OutDecl.{OutDecl}
use Rattle.yt_graph.specs.AstPicture.{AstExprTree, number, name, minus, negation, two_sides, paren, call_of, AstExprsTree, no_values, more_values, AstStmtTree, let_local, assign, send_on, when_only, when_else, turns, AstBlockTree, no_stmts, more_stmts, PortDeclTree, ItemTree, input, output, resource, process}
use Rattle.yt_graph.specs.Limits.{most_expr_depth, most_block_depth}
use Rattle.yt_graph.specs.Names.{is_name}
use Rattle.yt_grammar.specs.Grammar.{rank_of, left_rank, right_rank}

-- a number of the text
abbrev pub is_count : ℤ → Bool
is_count (pos n) = nat_lt n (2 ^ 63)
is_count (negsuc n) = false

-- a start value: such a number, or one behind `-`
abbrev pub is_start : ℤ → Bool
is_start (pos n) = nat_lt n (2 ^ 63)
is_start (negsuc n) = nat_lt (suc n) (2 ^ 63)

abbrev mutual
  -- an expression of at most so much depth
  pub is_expr : ℕ → AstExprTree → Bool
  is_expr room (number n) = nat_lt 0 room && is_count n
  is_expr room (name w) = nat_lt 0 room && is_name w.text
  is_expr room (minus e) = nat_lt 0 room && (nat_le (rank_of e) 1 && is_expr (room - 1) e)
  is_expr room (negation e) = nat_lt 0 room && (nat_le (rank_of e) 5 && is_expr (room - 1) e)
  is_expr room (two_sides op l r) =
      nat_lt 0 room && ((nat_le (rank_of l) (left_rank op) && is_expr (room - 1) l) && (nat_le (rank_of r) (right_rank op) && is_expr (room - 1) r))
  is_expr room (paren e) = nat_lt 0 room && is_expr (room - 1) e
  is_expr room (call_of w args) = nat_lt 0 room && (is_name w.text && are_args (room - 1) args)

  -- one argument or more
  pub are_args : ℕ → AstExprsTree → Bool
  are_args room no_values = false
  are_args room (more_values e rest) = is_expr room e && are_exprs room rest

  -- expressions, which may be none
  pub are_exprs : ℕ → AstExprsTree → Bool
  are_exprs room no_values = true
  are_exprs room (more_values e rest) = is_expr room e && are_exprs room rest

abbrev mutual
  -- a statement in which at most so many blocks stand in each other
  pub is_stmt : ℕ → AstStmtTree → Bool
  is_stmt room (let_local w e) = is_name w.text && is_expr most_expr_depth e
  is_stmt room (assign w e) = is_name w.text && is_expr most_expr_depth e
  is_stmt room (send_on w es) = is_name w.text && are_exprs most_expr_depth es
  is_stmt room (when_only e first) = is_expr most_expr_depth e && (nat_lt 0 room && are_stmts (room - 1) first)
  is_stmt room (when_else e first second) = is_expr most_expr_depth e && (nat_lt 0 room && (are_stmts (room - 1) first && are_stmts (room - 1) second))
  is_stmt room (turns e most body) = is_expr most_expr_depth e && (is_count most.value && (nat_lt 0 room && are_stmts (room - 1) body))

  -- statements one after another
  pub are_stmts : ℕ → AstBlockTree → Bool
  are_stmts room no_stmts = true
  are_stmts room (more_stmts s rest) = is_stmt room s && are_stmts room rest

-- what names an out from anywhere
abbrev pub is_path : Path → Bool
is_path p = is_name p.process.text && (is_name p.port.text && is_name p.out.text)

-- what a port gets its messages from
abbrev pub is_source : Source → Bool
is_source (Input w) = is_name w.text
is_source (Out p) = is_path p

-- every how many jobs messages pass, where it is written
abbrev pub is_every : Option Num → Bool
is_every None = true
is_every (Some m) = is_count m.value

-- an out
abbrev pub is_out : OutDecl → Bool
is_out o = is_name o.name.text && (is_count o.width.value && is_every o.every)

-- a variable
abbrev pub is_var : VarDecl → Bool
is_var v = is_name v.name.text && is_start v.start

-- a parameter
abbrev pub is_param : Word → Bool
is_param w = is_name w.text

-- a port, whose block is the first of those that stand in each other
abbrev pub is_port : PortDeclTree → Bool
is_port p = is_name p.name.text && (is_source p.source && (list_all is_param p.params && (list_all is_out p.outs && are_stmts (most_block_depth - 1) p.body)))

-- the resource that a process is in, where it is written
abbrev pub is_inside : Option Word → Bool
is_inside None = true
is_inside (Some w) = is_name w.text

-- a part of a graph
abbrev pub is_item : ItemTree → Bool
is_item (input i) = is_name i.name.text && (is_count i.width.value && is_count i.period.value)
is_item (output o) = is_name o.name.text && is_path o.path
is_item (resource r) = is_name r.name.text
is_item (process p) = is_name p.name.text && (is_inside p.inside && (list_all is_var p.vars && list_all is_port p.ports))

-- the tree can be written
abbrev pub is_writable : List ItemTree → Bool
is_writable items = list_all is_item items
