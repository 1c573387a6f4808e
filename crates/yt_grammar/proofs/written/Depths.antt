-- The blocks of a tree that can be written don't stand too deep in each other.
use Rattle.std.proofs.Common.{ℕ, ◌-◌, ◌≡◌, ◌≤◌, ◌<◌, true, ◌&&◌, arith}
use Rattle.std.proofs.lemmas.Bool.Decides.{nat_tests}
use Rattle.std.specs.Prelude.{nat_lt, nat_le}
use Rattle.std.specs.List.{list_all}
use Rattle.yt_graph.specs.AstPicture.{AstExprTree, number, name, minus, negation, two_sides, paren, call_of, AstExprsTree, no_values, more_values, AstStmtTree, let_local, assign, send_on, when_only, when_else, turns, AstBlockTree, no_stmts, more_stmts, PortDeclTree}
use Rattle.yt_graph.specs.AstWellFormed.{ast_expr_depth, ast_exprs_depth, ast_stmt_depth, ast_block_depth}
use Rattle.yt_grammar.specs.Grammar.{rank_of, left_rank, right_rank}
use Rattle.yt_graph.specs.Names.{is_name}
use Rattle.yt_grammar.specs.Writable.{is_count, is_expr, are_args, are_exprs, is_source, is_param, is_out, is_stmt, are_stmts, is_port}
use Rattle.yt_grammar.proofs.written.Tests.{both}

pub less : (m n : ℕ) → nat_lt m n ≡ true → m < n
less m n h = grind (arith, nat_tests)

mutual
  pub expr_within : (room : ℕ) (e : AstExprTree) → is_expr room e ≡ true → ast_expr_depth e ≤ room
  expr_within room (number n) h = less 0 room (both (nat_lt 0 room) (is_count n) h).0
  expr_within room (name w) h = less 0 room (both (nat_lt 0 room) (is_name w.text) h).0
  expr_within room (minus e) h =
      let a = both (nat_lt 0 room) (nat_le (rank_of e) 1 && is_expr (room - 1) e) h in
      let b = both (nat_le (rank_of e) 1) (is_expr (room - 1) e) a.1 in
      omega (arith, less 0 room a.0, expr_within (room - 1) e b.1)
  expr_within room (negation e) h =
      let a = both (nat_lt 0 room) (nat_le (rank_of e) 5 && is_expr (room - 1) e) h in
      let b = both (nat_le (rank_of e) 5) (is_expr (room - 1) e) a.1 in
      omega (arith, less 0 room a.0, expr_within (room - 1) e b.1)
  expr_within room (two_sides op l r) h =
      let a = both (nat_lt 0 room) ((nat_le (rank_of l) (left_rank op) && is_expr (room - 1) l) && (nat_le (rank_of r) (right_rank op) && is_expr (room - 1) r)) h in
      let b = both (nat_le (rank_of l) (left_rank op) && is_expr (room - 1) l) (nat_le (rank_of r) (right_rank op) && is_expr (room - 1) r) a.1 in
      let c = both (nat_le (rank_of l) (left_rank op)) (is_expr (room - 1) l) b.0 in
      let d = both (nat_le (rank_of r) (right_rank op)) (is_expr (room - 1) r) b.1 in
      omega (arith, less 0 room a.0, expr_within (room - 1) l c.1, expr_within (room - 1) r d.1)
  expr_within room (paren e) h =
      let a = both (nat_lt 0 room) (is_expr (room - 1) e) h in
      omega (arith, less 0 room a.0, expr_within (room - 1) e a.1)
  expr_within room (call_of w args) h =
      let a = both (nat_lt 0 room) (is_name w.text && are_args (room - 1) args) h in
      let b = both (is_name w.text) (are_args (room - 1) args) a.1 in
      omega (arith, less 0 room a.0, args_within (room - 1) args b.1)

  args_within : (room : ℕ) (es : AstExprsTree) → are_args room es ≡ true → ast_exprs_depth es ≤ room
  args_within room no_values h = omega arith
  args_within room (more_values e rest) h =
      let a = both (is_expr room e) (are_exprs room rest) h in
      omega (arith, expr_within room e a.0, exprs_within room rest a.1)

  pub exprs_within : (room : ℕ) (es : AstExprsTree) → are_exprs room es ≡ true → ast_exprs_depth es ≤ room
  exprs_within room no_values h = omega arith
  exprs_within room (more_values e rest) h =
      let a = both (is_expr room e) (are_exprs room rest) h in
      omega (arith, expr_within room e a.0, exprs_within room rest a.1)

mutual
  pub stmt_within : (room : ℕ) (s : AstStmtTree) → is_stmt room s ≡ true → ast_stmt_depth s ≤ room
  stmt_within room (let_local w e) h = omega arith
  stmt_within room (assign w e) h = omega arith
  stmt_within room (send_on w es) h = omega arith
  stmt_within room (when_only e first) h =
      let a = both (is_expr 32 e) (nat_lt 0 room && are_stmts (room - 1) first) h in
      let b = both (nat_lt 0 room) (are_stmts (room - 1) first) a.1 in
      omega (arith, less 0 room b.0, stmts_within (room - 1) first b.1)
  stmt_within room (when_else e first second) h =
      let a = both (is_expr 32 e) (nat_lt 0 room && (are_stmts (room - 1) first && are_stmts (room - 1) second)) h in
      let b = both (nat_lt 0 room) (are_stmts (room - 1) first && are_stmts (room - 1) second) a.1 in
      let c = both (are_stmts (room - 1) first) (are_stmts (room - 1) second) b.1 in
      omega (arith, less 0 room b.0, stmts_within (room - 1) first c.0, stmts_within (room - 1) second c.1)
  stmt_within room (turns e most body) h =
      let a = both (is_expr 32 e) (is_count most.value && (nat_lt 0 room && are_stmts (room - 1) body)) h in
      let b = both (is_count most.value) (nat_lt 0 room && are_stmts (room - 1) body) a.1 in
      let c = both (nat_lt 0 room) (are_stmts (room - 1) body) b.1 in
      omega (arith, less 0 room c.0, stmts_within (room - 1) body c.1)

  pub stmts_within : (room : ℕ) (b : AstBlockTree) → are_stmts room b ≡ true → ast_block_depth b ≤ room
  stmts_within room no_stmts h = omega arith
  stmts_within room (more_stmts s rest) h =
      let a = both (is_stmt room s) (are_stmts room rest) h in
      omega (arith, stmt_within room s a.0, stmts_within room rest a.1)

pub port_within : (p : PortDeclTree) → is_port p ≡ true → ast_block_depth p.body ≤ 7
port_within p h =
    let a = both (is_name p.name.text) _ h in
    let b = both (is_source p.source) _ a.1 in
    let c = both (list_all is_param p.params) _ b.1 in
    let d = both (list_all is_out p.outs) _ c.1 in
    stmts_within 7 p.body d.1
