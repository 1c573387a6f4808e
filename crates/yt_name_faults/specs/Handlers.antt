-- The faults of handlers: of expressions, statements and parameters.
use Rattle.std.specs.Prelude.{ℕ, suc, ◌-◌, ◌==◌, ℤ, pos, int_lt, Bool, not, ◌||◌, List, [], ◌∷◌, ◌++◌, length, slice_get, Option, None, Some, is_some}
use Rattle.std.specs.Option.{option_and_then}
use Rattle.std.specs.Ordering.{int_eq}
use Rattle.yt_graph.specs.declared.ast.Word.{Word}
use Rattle.yt_graph.specs.declared.ast.VarDecl.{VarDecl}
use Rattle.yt_graph.specs.declared.ast.OutDecl.{OutDecl}
use Rattle.yt_graph.specs.declared.operator.OpHead.{OpHead}
use Rattle.yt_graph.specs.AstPicture.{AstExprTree, number, name, minus, negation, two_sides, paren, call_of, AstExprsTree, no_values, more_values, AstStmtTree, let_local, assign, send_on, when_only, when_else, turns, AstBlockTree, no_stmts, more_stmts}
use Rattle.yt_graph.specs.Limits.{most_locals, most_turns}
use Rattle.yt_name_faults.specs.declared.fault.NameFault.{NameFault}
use Rattle.yt_name_faults.specs.declared.fault.NameFault.TheVariants.{Unknown, Twice, Width, Limit}
use Rattle.yt_name_faults.specs.declared.fault.LimitKind.TheVariants.{Locals, Turns}
use Rattle.yt_name_faults.specs.First.{fault_if}
use Rattle.yt_table.specs.Tables.{first_of, is_among, with_name}
use Rattle.yt_name_faults.specs.Names.{var_names, out_names, op_names}

-- a number that is below the first or above the second
abbrev pub is_outside : ℕ → ℕ → ℤ → Bool
is_outside low high n = int_lt n (pos low) || int_lt (pos high) n

-- what a handler sees: the variables of its process, the outs of its port, and the operators
pub record Env : Type 0 where
  pub vars : List VarDecl
  pub outs : List OutDecl
  pub ops : List OpHead

-- a name that is a visible local or a variable of the process
abbrev pub is_known : Env → List (List ℕ) → List ℕ → Bool
is_known env visible word = is_among word visible || is_some (first_of word 0 (var_names env.vars))

abbrev pub values_count : AstExprsTree → ℕ
values_count no_values = 0
values_count (more_values e rest) = suc (values_count rest)

-- the operator that a name stands for
abbrev pub op_named : List OpHead → List ℕ → Option OpHead
op_named ops op = option_and_then (slice_get ops) (first_of op 0 (op_names ops))

-- the out of a port that a name stands for
abbrev pub out_named : List OutDecl → List ℕ → Option OutDecl
out_named outs out = option_and_then (slice_get outs) (first_of out 0 (out_names outs))

-- the faults of an operator's word with so many arguments
abbrev pub call_faults : Word → ℕ → Option OpHead → List NameFault
call_faults w count None = Unknown w.place ∷ []
call_faults w count (Some op) = fault_if (not (op.args == count)) (Width w.place)

-- the faults of an out's word with so many values
abbrev pub send_faults : Word → ℕ → Option OutDecl → List NameFault
send_faults w count None = Unknown w.place ∷ []
send_faults w count (Some out) = fault_if (not (int_eq out.width.value (pos count))) (Width w.place)

abbrev mutual
  -- the faults of an expression, where these locals are visible
  pub expr_faults : Env → List (List ℕ) → AstExprTree → List NameFault
  expr_faults env visible (number n) = []
  expr_faults env visible (name w) = fault_if (not (is_known env visible w.text)) (Unknown w.place)
  expr_faults env visible (minus e) = expr_faults env visible e
  expr_faults env visible (negation e) = expr_faults env visible e
  expr_faults env visible (two_sides op l r) = expr_faults env visible l ++ expr_faults env visible r
  expr_faults env visible (paren e) = expr_faults env visible e
  expr_faults env visible (call_of w args) = call_faults w (values_count args) (op_named env.ops w.text) ++ exprs_faults env visible args

  pub exprs_faults : Env → List (List ℕ) → AstExprsTree → List NameFault
  exprs_faults env visible no_values = []
  exprs_faults env visible (more_values e rest) = expr_faults env visible e ++ exprs_faults env visible rest

-- how many locals a handler may have after a statement or a block, which counts the locals of inner blocks too
abbrev mutual
  pub left_after : ℕ → AstStmtTree → ℕ
  left_after left (let_local w e) = left - 1
  left_after left (assign w e) = left
  left_after left (send_on w es) = left
  left_after left (when_only e first) = left_after_block left first
  left_after left (when_else e first second) = left_after_block (left_after_block left first) second
  left_after left (turns e most body) = left_after_block left body

  pub left_after_block : ℕ → AstBlockTree → ℕ
  left_after_block left no_stmts = left
  left_after_block left (more_stmts s rest) = left_after_block (left_after left s) rest

-- which locals are visible behind a statement
abbrev pub visible_after : List (List ℕ) → AstStmtTree → List (List ℕ)
visible_after visible (let_local w e) = with_name w.text visible
visible_after visible (assign w e) = visible
visible_after visible (send_on w es) = visible
visible_after visible (when_only e first) = visible
visible_after visible (when_else e first second) = visible
visible_after visible (turns e most body) = visible

-- the faults of a new local, of which the handler may have so many more
abbrev pub local_faults : Env → List (List ℕ) → ℕ → Word → List NameFault
local_faults env visible left w = fault_if (is_known env visible w.text) (Twice w.place) ++ fault_if (left == 0) (Limit w.place Locals)

abbrev mutual
  -- the faults of a statement, where these locals are visible and the handler may have so many more
  pub stmt_faults : Env → List (List ℕ) → ℕ → AstStmtTree → List NameFault
  stmt_faults env visible left (let_local w e) = local_faults env visible left w ++ expr_faults env visible e
  stmt_faults env visible left (assign w e) = fault_if (not (is_known env visible w.text)) (Unknown w.place) ++ expr_faults env visible e
  stmt_faults env visible left (send_on w es) = send_faults w (values_count es) (out_named env.outs w.text) ++ exprs_faults env visible es
  stmt_faults env visible left (when_only e first) = expr_faults env visible e ++ block_faults env visible left first
  stmt_faults env visible left (when_else e first second) = expr_faults env visible e ++ (block_faults env visible left first ++ block_faults env visible (left_after_block left first) second)
  stmt_faults env visible left (turns e most body) = expr_faults env visible e ++ (fault_if (is_outside 1 most_turns most.value) (Limit most.place Turns) ++ block_faults env visible left body)

  -- the faults of a block: a local is visible from the statement behind it to the end of its block
  pub block_faults : Env → List (List ℕ) → ℕ → AstBlockTree → List NameFault
  block_faults env visible left no_stmts = []
  block_faults env visible left (more_stmts s rest) = stmt_faults env visible left s ++ block_faults env (visible_after visible s) (left_after left s) rest

-- the faults of parameters
abbrev pub params_faults : Env → List (List ℕ) → ℕ → List Word → List NameFault
params_faults env visible left [] = []
params_faults env visible left (p ∷ rest) = local_faults env visible left p ++ params_faults env (with_name p.text visible) (left - 1) rest

abbrev pub visible_params : List (List ℕ) → List Word → List (List ℕ)
visible_params visible [] = visible
visible_params visible (p ∷ rest) = visible_params (with_name p.text visible) rest

-- the faults of a handler
abbrev pub handler_faults : Env → List Word → AstBlockTree → List NameFault
handler_faults env params body = params_faults env [] most_locals params ++ block_faults env (visible_params [] params) (most_locals - length params) body
