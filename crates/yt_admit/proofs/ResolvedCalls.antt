-- A graph that is resolved without operators calls none.
use Rattle.std.proofs.Common.{◌≡◌, ℕ, ◌+◌, ◌-◌, List, [], ◌∷◌, length, map, Option, Some, None, refl}
use Rattle.std.specs.Prelude.{Bool, true, false, ◌||◌}
use Rattle.std.specs.List.{All}
use Rattle.std.proofs.lemmas.List.Elements.{All-nil, All-append, All-cons}
use Rattle.yt_graph.specs.declared.ast.VarDecl.{VarDecl}
use Rattle.yt_graph.specs.declared.ast.OutDecl.{OutDecl}
use Rattle.yt_graph.specs.AstPicture.{AstExprTree, number, name, minus, negation, two_sides, paren, call_of, AstExprsTree, no_values, more_values, AstStmtTree, let_local, assign, send_on, when_only, when_else, turns, AstBlockTree, no_stmts, more_stmts, PortDeclTree, ItemTree, input, output, resource, process}
use Rattle.yt_graph.specs.Picture.{ExprTree, PortTree}
use Rattle.yt_graph.specs.Limits.{most_locals}
use Rattle.yt_table.specs.Tables.{first_of}
use Rattle.yt_name_faults.specs.Handlers.{left_after, left_after_block}
use Rattle.yt_name_faults.specs.Names.{var_names}
use Rattle.yt_names.specs.Resolved.{Scope, NamedPlace, local_at, var_meant, meant_by, read_of, set_of, param_locals, locals_after, resource_name, vars_of, resolved_expr, resolved_exprs, resolved_stmt, resolved_block, resolved_port, resolved_ports_of, resolved_ports, resolved}
use Rattle.yt_cost.specs.CodeFit.{expr_calls, exprs_call, stmt_calls, block_calls, HasNoCalls}

neither : (a b : Bool) → a ≡ false → b ≡ false → (a || b) ≡ false
neither true b p q = p
neither false b p q = q

-- what words are resolved by where there are no operators
abbrev scope_of : ℕ → List VarDecl → List OutDecl → Scope
scope_of first vars outs = record { first = first; vars = vars; outs = outs; ops = [] }

var_calls : (first : ℕ) (place : Option ℕ) → expr_calls (read_of (var_meant first place)) ≡ false
var_calls first None = refl
var_calls first (Some k) = refl

name_calls : (scope : Scope) (place : Option ℕ) (word : List ℕ) → expr_calls (read_of (meant_by scope place word)) ≡ false
name_calls scope None word = var_calls scope.first (first_of word 0 (var_names scope.vars))
name_calls scope (Some place) word = refl

set_var_calls : (first : ℕ) (place : Option ℕ) (e : ExprTree) → expr_calls e ≡ false → stmt_calls (set_of (var_meant first place) e) ≡ false
set_var_calls first None e h = h
set_var_calls first (Some k) e h = h

set_calls : (scope : Scope) (place : Option ℕ) (word : List ℕ) (e : ExprTree) → expr_calls e ≡ false → stmt_calls (set_of (meant_by scope place word) e) ≡ false
set_calls scope None word e h = set_var_calls scope.first (first_of word 0 (var_names scope.vars)) e h
set_calls scope (Some place) word e h = h

module _ (first : ℕ) (vars : List VarDecl) (outs : List OutDecl) where
  mutual
    expr_lacks : (v : List NamedPlace) (e : AstExprTree) → expr_calls (resolved_expr (scope_of first vars outs) v e) ≡ false
    expr_lacks v (number n) = refl
    expr_lacks v (name w) = name_calls (scope_of first vars outs) (local_at w.text v) w.text
    expr_lacks v (minus e) = expr_lacks v e
    expr_lacks v (negation e) = expr_lacks v e
    expr_lacks v (two_sides op l r) = neither _ _ (expr_lacks v l) (expr_lacks v r)
    expr_lacks v (paren e) = expr_lacks v e
    expr_lacks v (call_of w args) = refl

    exprs_lack : (v : List NamedPlace) (es : AstExprsTree) → exprs_call (resolved_exprs (scope_of first vars outs) v es) ≡ false
    exprs_lack v no_values = refl
    exprs_lack v (more_values e rest) = neither _ _ (expr_lacks v e) (exprs_lack v rest)

  mutual
    stmt_lacks : (v : List NamedPlace) (left : ℕ) (s : AstStmtTree) → stmt_calls (resolved_stmt (scope_of first vars outs) v left s) ≡ false
    stmt_lacks v left (let_local w e) = expr_lacks v e
    stmt_lacks v left (assign w e) = set_calls (scope_of first vars outs) (local_at w.text v) w.text _ (expr_lacks v e)
    stmt_lacks v left (send_on w es) = exprs_lack v es
    stmt_lacks v left (when_only e first) = neither _ _ (expr_lacks v e) (block_lacks v left first)
    stmt_lacks v left (when_else e first second) = neither _ _ (expr_lacks v e) (neither _ _ (block_lacks v left first) (block_lacks v (left_after_block left first) second))
    stmt_lacks v left (turns e most body) = neither _ _ (expr_lacks v e) (block_lacks v left body)

    block_lacks : (v : List NamedPlace) (left : ℕ) (b : AstBlockTree) → block_calls (resolved_block (scope_of first vars outs) v left b) ≡ false
    block_lacks v left no_stmts = refl
    block_lacks v left (more_stmts s rest) = neither _ _ (stmt_lacks v left s) (block_lacks (locals_after v left s) (left_after left s) rest)

abbrev LacksCalls : PortTree → Type 0
LacksCalls p = block_calls p.body ≡ false

ports_lack : (all : List ItemTree) (owner key : List ℕ) (vars : List VarDecl) (first : ℕ) (ports : List PortDeclTree) → All LacksCalls (map (resolved_port all owner key [] vars first) ports)
ports_lack all owner key vars first [] = All-nil LacksCalls
ports_lack all owner key vars first (p ∷ rest) =
    All-cons LacksCalls (resolved_port all owner key [] vars first p) _
    (block_lacks first vars p.outs (param_locals [] most_locals p.params) (most_locals - length p.params) p.body)
    (ports_lack all owner key vars first rest)

item_lacks : (all : List ItemTree) (first : ℕ) (i : ItemTree) → All LacksCalls (resolved_ports_of all [] first i)
item_lacks all first (input i) = All-nil LacksCalls
item_lacks all first (output o) = All-nil LacksCalls
item_lacks all first (resource r) = All-nil LacksCalls
item_lacks all first (process p) = ports_lack all p.name.text (resource_name p.name p.inside) p.vars first p.ports

items_lack : (all : List ItemTree) (first : ℕ) (items : List ItemTree) → All LacksCalls (resolved_ports all [] first items)
items_lack all first [] = All-nil LacksCalls
items_lack all first (i ∷ rest) = All-append LacksCalls (resolved_ports_of all [] first i) _ (item_lacks all first i) (items_lack all (first + length (vars_of i)) rest)

-- no handler of the graph that names stand for calls an operator, where there are none
pub resolved_lacks_calls : (items : List ItemTree) → HasNoCalls (resolved items [])
unfolding resolved
resolved_lacks_calls items = items_lack items 0 items
