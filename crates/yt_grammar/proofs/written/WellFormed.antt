-- A tree that can be written is as the resolved graph rests on it.
use Rattle.std.proofs.Common.{ℕ, ◌-◌, ◌≡◌, ◌≤◌, List, [], ◌∷◌, Bool, true, ℤ, pos, negsuc, Option, None, Some, arith}
use Rattle.std.proofs.lemmas.List.Elements.{All-nil, All-cons}
use Rattle.std.specs.List.{list_all, All}
use Rattle.yt_graph.specs.declared.ast.Word.{Word}
use Rattle.yt_graph.specs.declared.ast.Path.{Path}
use Rattle.yt_graph.specs.declared.ast.Num.{Num}
use Rattle.yt_graph.specs.declared.ast.Source.{Source}
use Rattle.yt_graph.specs.declared.ast.Source.TheVariants.{Input, Out}
use Rattle.yt_graph.specs.declared.ast.VarDecl.{VarDecl}
use Rattle.yt_graph.specs.declared.ast.OutDecl.{OutDecl}
use Rattle.yt_graph.specs.AstPicture.{AstExprTree, number, name, minus, negation, two_sides, paren, call_of, AstExprsTree, no_values, more_values, AstStmtTree, let_local, assign, send_on, when_only, when_else, turns, AstBlockTree, no_stmts, more_stmts, PortDeclTree, ItemTree, input, output, resource, process}
use Rattle.yt_graph.specs.AstWellFormed.{IsName, IsWrittenNumber, ast_block_depth, HasOne, IsWritableExpr, AreWritableExprs, IsWritableValue, IsWritableStmt, IsWritableBlock, IsWritablePath, IsWritableSource, IsWritableEvery, IsWritableOut, IsWritablePort, IsWritableInside, IsWritableItem, IsWritable}
use Rattle.yt_grammar.specs.Grammar.{SpelledIsWritable}
use Rattle.yt_grammar.specs.Writable.{is_count, is_expr, are_args, are_exprs, is_stmt, are_stmts, is_path, is_source, is_every, is_out, is_var, is_param, is_port, is_inside, is_item, is_writable}
use Rattle.yt_grammar.proofs.written.Tests.{both}
use Rattle.yt_grammar.proofs.written.Depths.{expr_within, exprs_within, stmts_within}
use Rattle.yt_grammar.proofs.written.Spelled.{spelled_writable}

-- what each element of a list passes
all_from : {X : Type 0} (P : X → Type 0) (test : X → Bool) → ((x : X) → test x ≡ true → P x) → (xs : List X) → list_all test xs ≡ true → All P xs
all_from P test one [] h = All-nil P
all_from P test one (x ∷ xs) h =
    let a = both (test x) (list_all test xs) h in
    All-cons P x xs (one x a.0) (all_from P test one xs a.1)

count_formed : (n : ℤ) → is_count n ≡ true → IsWrittenNumber n
count_formed (pos n) h = tt
count_formed (negsuc n) h = absurd cc

mutual
  expr_formed : (room : ℕ) (e : AstExprTree) → is_expr room e ≡ true → IsWritableExpr e
  expr_formed room (number n) h = count_formed n (both _ _ h).1
  expr_formed room (name w) h = (both _ _ h).1
  expr_formed room (minus e) h = expr_formed (room - 1) e (both _ _ (both _ _ h).1).1
  expr_formed room (negation e) h = expr_formed (room - 1) e (both _ _ (both _ _ h).1).1
  expr_formed room (two_sides op l r) h =
      let a = both _ _ (both _ _ h).1 in
      (expr_formed (room - 1) l (both _ _ a.0).1, expr_formed (room - 1) r (both _ _ a.1).1)
  expr_formed room (paren e) h = expr_formed (room - 1) e (both _ _ h).1
  expr_formed room (call_of w args) h =
      let a = both _ _ (both _ _ h).1 in
      let b = args_formed (room - 1) args a.1 in
      (a.0, b.0, b.1)

  args_formed : (room : ℕ) (es : AstExprsTree) → are_args room es ≡ true → HasOne es × AreWritableExprs es
  args_formed room no_values h = absurd cc
  args_formed room (more_values e rest) h =
      let a = both _ _ h in
      (tt, (expr_formed room e a.0, exprs_formed room rest a.1))

  exprs_formed : (room : ℕ) (es : AstExprsTree) → are_exprs room es ≡ true → AreWritableExprs es
  exprs_formed room no_values h = tt
  exprs_formed room (more_values e rest) h =
      let a = both _ _ h in
      (expr_formed room e a.0, exprs_formed room rest a.1)

value_formed : (e : AstExprTree) → is_expr 32 e ≡ true → IsWritableValue e
value_formed e h = (expr_within 32 e h, expr_formed 32 e h)

mutual
  stmt_formed : (room : ℕ) (s : AstStmtTree) → is_stmt room s ≡ true → IsWritableStmt s
  stmt_formed room (let_local w e) h =
      let a = both _ _ h in
      (a.0, value_formed e a.1)
  stmt_formed room (assign w e) h =
      let a = both _ _ h in
      (a.0, value_formed e a.1)
  stmt_formed room (send_on w es) h =
      let a = both _ _ h in
      (a.0, exprs_within 32 es a.1, exprs_formed 32 es a.1)
  stmt_formed room (when_only e first) h =
      let a = both _ _ h in
      (value_formed e a.0, block_formed (room - 1) first (both _ _ a.1).1)
  stmt_formed room (when_else e first second) h =
      let a = both _ _ h in
      let b = both _ _ (both _ _ a.1).1 in
      (value_formed e a.0, block_formed (room - 1) first b.0, block_formed (room - 1) second b.1)
  stmt_formed room (turns e most body) h =
      let a = both _ _ h in
      let b = both _ _ a.1 in
      (value_formed e a.0, count_formed most.value b.0, block_formed (room - 1) body (both _ _ b.1).1)

  block_formed : (room : ℕ) (b : AstBlockTree) → are_stmts room b ≡ true → IsWritableBlock b
  block_formed room no_stmts h = tt
  block_formed room (more_stmts s rest) h =
      let a = both _ _ h in
      (stmt_formed room s a.0, block_formed room rest a.1)

path_formed : (p : Path) → is_path p ≡ true → IsWritablePath p
path_formed p h =
    let a = both _ _ h in
    let b = both _ _ a.1 in
    (a.0, b.0, b.1)

source_formed : (s : Source) → is_source s ≡ true → IsWritableSource s
source_formed (Input w) h = h
source_formed (Out p) h = path_formed p h

every_formed : (m : Option Num) → is_every m ≡ true → IsWritableEvery m
every_formed None h = tt
every_formed (Some m) h = count_formed m.value h

out_formed : (o : OutDecl) → is_out o ≡ true → IsWritableOut o
out_formed o h =
    let a = both _ _ h in
    let b = both _ _ a.1 in
    (a.0, count_formed o.width.value b.0, every_formed o.every b.1)

var_formed : (v : VarDecl) → is_var v ≡ true → IsName v.name
var_formed v h = (both _ _ h).0

port_formed : (p : PortDeclTree) → is_port p ≡ true → IsWritablePort p
port_formed p h =
    let a = both _ _ h in
    let b = both _ _ a.1 in
    let c = both _ _ b.1 in
    let d = both _ _ c.1 in
    let depth : ast_block_depth p.body ≤ 7 = stmts_within 7 p.body d.1 in
    (a.0, source_formed p.source b.0, all_from IsName is_param (λ w k. k) p.params c.0, all_from IsWritableOut is_out out_formed p.outs d.0, omega arith, block_formed 7 p.body d.1)

inside_formed : (w : Option Word) → is_inside w ≡ true → IsWritableInside w
inside_formed None h = tt
inside_formed (Some w) h = h

item_formed : (i : ItemTree) → is_item i ≡ true → IsWritableItem i
item_formed (input i) h =
    let a = both _ _ h in
    let b = both _ _ a.1 in
    (a.0, count_formed i.width.value b.0, count_formed i.period.value b.1)
item_formed (output o) h =
    let a = both _ _ h in
    (a.0, path_formed o.path a.1)
item_formed (resource r) h = h
item_formed (process p) h =
    let a = both _ _ h in
    let b = both _ _ a.1 in
    let c = both _ _ b.1 in
    (a.0, inside_formed p.inside b.0, all_from (λ (v : VarDecl). IsName v.name) is_var var_formed p.vars c.0, all_from IsWritablePort is_port port_formed p.ports c.1)

pub writable_formed : (items : List ItemTree) → is_writable items ≡ true → IsWritable items
writable_formed items h = all_from IsWritableItem is_item item_formed items h

pub spelled_is_writable : SpelledIsWritable
spelled_is_writable toks items h = writable_formed items (spelled_writable items toks h)
