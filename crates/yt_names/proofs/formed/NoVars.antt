-- A handler of a process without variables uses none.
use Rattle.std.proofs.Common.{◌≡◌, ℕ, List, [], false, Option, Some, None, slice_get, refl}
use Rattle.yt_graph.specs.declared.ast.OutDecl.{OutDecl}
use Rattle.yt_graph.specs.declared.operator.OpHead.{OpHead}
use Rattle.yt_graph.specs.AstPicture.{AstExprTree, number, name, minus, negation, two_sides, paren, call_of, AstExprsTree, no_values, more_values, AstStmtTree, let_local, assign, send_on, when_only, when_else, turns, AstBlockTree, no_stmts, more_stmts}
use Rattle.yt_graph.specs.Picture.{ExprTree, ExprsTree}
use Rattle.yt_graph.specs.WellFormed.{expr_uses_var, exprs_use_var, stmt_uses_var, block_uses_var}
use Rattle.yt_table.specs.Tables.{first_of}
use Rattle.yt_name_faults.specs.Names.{op_names}
use Rattle.yt_name_faults.specs.Handlers.{left_after, left_after_block}
use Rattle.yt_names.specs.Resolved.{NamedPlace, Scope, local_at, meant_by, read_of, call_head, call_at, resolved_expr, resolved_exprs, locals_after, set_of, resolved_stmt, resolved_block}
use Rattle.yt_names.proofs.formed.Lists.{neither_holds}

module _ (first : ℕ) (outs : List OutDecl) (ops : List OpHead) where
  abbrev bare : Scope
  bare = record { first = first; vars = []; outs = outs; ops = ops }

  reads_none : (word : List ℕ) (o : Option ℕ) → expr_uses_var (read_of (meant_by bare o word)) ≡ false
  reads_none word None = refl
  reads_none word (Some place) = refl

  calls_none : (o : Option ℕ) (args : ExprsTree) → exprs_use_var args ≡ false → expr_uses_var (call_at ops o args) ≡ false
  calls_none None args e = refl
  calls_none (Some place) args e = by (slice_get ops place)
    where
      by : (h : Option OpHead) → expr_uses_var (call_head place h args) ≡ false
      by None = refl
      by (Some head) = e

  mutual
    expr_none : (visible : List NamedPlace) (e : AstExprTree) → expr_uses_var (resolved_expr bare visible e) ≡ false
    expr_none visible (number n) = refl
    expr_none visible (name w) = reads_none w.text (local_at w.text visible)
    expr_none visible (minus e) = expr_none visible e
    expr_none visible (negation e) = expr_none visible e
    expr_none visible (two_sides op l r) = neither_holds _ _ (expr_none visible l) (expr_none visible r)
    expr_none visible (paren e) = expr_none visible e
    expr_none visible (call_of w args) = calls_none (first_of w.text 0 (op_names ops)) (resolved_exprs bare visible args) (exprs_none visible args)

    exprs_none : (visible : List NamedPlace) (es : AstExprsTree) → exprs_use_var (resolved_exprs bare visible es) ≡ false
    exprs_none visible no_values = refl
    exprs_none visible (more_values e rest) = neither_holds _ _ (expr_none visible e) (exprs_none visible rest)

  sets_none : (word : List ℕ) (o : Option ℕ) (e : ExprTree) → expr_uses_var e ≡ false → stmt_uses_var (set_of (meant_by bare o word) e) ≡ false
  sets_none word None e h = h
  sets_none word (Some place) e h = h

  mutual
    stmt_none : (visible : List NamedPlace) (left : ℕ) (s : AstStmtTree) → stmt_uses_var (resolved_stmt bare visible left s) ≡ false
    stmt_none visible left (let_local w e) = expr_none visible e
    stmt_none visible left (assign w e) = sets_none w.text (local_at w.text visible) (resolved_expr bare visible e) (expr_none visible e)
    stmt_none visible left (send_on w es) = exprs_none visible es
    stmt_none visible left (when_only e body) = neither_holds _ _ (expr_none visible e) (block_none visible left body)
    stmt_none visible left (when_else e body other) =
        neither_holds _ _ (expr_none visible e) (neither_holds _ _ (block_none visible left body) (block_none visible (left_after_block left body) other))
    stmt_none visible left (turns e most body) = neither_holds _ _ (expr_none visible e) (block_none visible left body)

    pub block_none : (visible : List NamedPlace) (left : ℕ) (b : AstBlockTree) → block_uses_var (resolved_block bare visible left b) ≡ false
    block_none visible left no_stmts = refl
    block_none visible left (more_stmts s rest) = neither_holds _ _ (stmt_none visible left s) (block_none (locals_after visible left s) (left_after left s) rest)
