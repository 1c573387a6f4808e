-- Which variables a handler and its code use.
use Rattle.std.specs.Prelude.{◌≡◌, ℕ, ℤ, pos, List, [], ◌∷◌, ◌++◌, length, slice_index_or, Option, None, Some}
use Rattle.std.specs.List.{All, Contains}
use Rattle.yt_graph.specs.Picture.{ExprTree, num, local, var, neg, lnot, two, call, ExprsTree, no_exprs, more_exprs, StmtTree, set_local, set_var, send, if_only, if_else, repeat, BlockTree, empty, more, PortTree, GraphTree}
use Rattle.yt_graph.specs.WellFormed.{IsVarOf, IsFinePort}
use Rattle.yt_code.specs.declared.instr.Instr.{Instr}
use Rattle.yt_code.specs.declared.instr.Instr.TheVariants.{Var, SetVar}
use Rattle.yt_code.specs.Step.{State, Tick, instruction_step}
use Rattle.yt_code.specs.Valid.{Program}
use Rattle.yt_cost.specs.Code.{port_code}

abbrev mutual
  -- the places of the variables that an expression reads, from left to right
  pub expr_vars : ExprTree → List ℕ
  expr_vars (num n) = []
  expr_vars (local i) = []
  expr_vars (var i) = i ∷ []
  expr_vars (neg e) = expr_vars e
  expr_vars (lnot e) = expr_vars e
  expr_vars (two op l r) = expr_vars l ++ expr_vars r
  expr_vars (call op code ticks args) = exprs_vars args

  pub exprs_vars : ExprsTree → List ℕ
  exprs_vars no_exprs = []
  exprs_vars (more_exprs e rest) = expr_vars e ++ exprs_vars rest

abbrev mutual
  -- the places of the variables that a statement reads and writes, in the order in which they are named
  pub stmt_vars : StmtTree → List ℕ
  stmt_vars (set_local i e) = expr_vars e
  stmt_vars (set_var i e) = expr_vars e ++ i ∷ []
  stmt_vars (send o es) = exprs_vars es
  stmt_vars (if_only e first) = expr_vars e ++ block_vars first
  stmt_vars (if_else e first second) = expr_vars e ++ (block_vars first ++ block_vars second)
  stmt_vars (repeat e most body) = expr_vars e ++ block_vars body

  pub block_vars : BlockTree → List ℕ
  block_vars empty = []
  block_vars (more a rest) = stmt_vars a ++ block_vars rest

-- the place of the variable that an instruction reads or writes
abbrev pub instr_vars : Instr → List ℕ
instr_vars (Var i) = i ∷ []
instr_vars (SetVar i) = i ∷ []
instr_vars _ = []

abbrev pub instrs_vars : List Instr → List ℕ
instrs_vars [] = []
instrs_vars (i ∷ rest) = instr_vars i ++ instrs_vars rest

-- the places of the variables that the handler of a graph's port names
abbrev pub port_vars : GraphTree → PortTree → List ℕ
port_vars graph port = block_vars port.body

-- the code uses the very variables that the port's handler names, so none where it names none
abbrev pub UsesVarsOf : GraphTree → Program → PortTree → Type 0
UsesVarsOf graph code port = instrs_vars code.instrs ≡ port_vars graph port

-- the code uses variables of the port's process alone, and none where the port is under no resource
pub record UsesOwnVars (graph : GraphTree) (code : Program) (port : PortTree) : Type 0 where
  pub of_process : All (IsVarOf graph port.process) (instrs_vars code.instrs)
  pub none : port.group ≡ 0 → instrs_vars code.instrs ≡ []

-- the code of each well-formed port does so
abbrev pub CompiledUsesOwnVars : Type 0
CompiledUsesOwnVars =
    (graph : GraphTree) (port : PortTree) → IsFinePort graph port → UsesOwnVars graph (port_code graph port) port

-- the same number of variables, with the same values at these places
pub record AgreeAt (places : List ℕ) (vs ws : List ℤ) : Type 0 where
  pub count : length vs ≡ length ws
  pub values : (v : ℕ) → Contains places v → slice_index_or vs v (pos 0) ≡ slice_index_or ws v (pos 0)

-- as many variables as before, with new values at these places alone
pub record ChangesOnlyAt (places : List ℕ) (old new : List ℤ) : Type 0 where
  pub count : length new ≡ length old
  pub others : (v : ℕ) → (Contains places v → ⊥) → slice_index_or new v (pos 0) ≡ slice_index_or old v (pos 0)

-- both ticks do the same, but for variables at other places
pub record IsSameAt (places : List ℕ) (t u : Tick) : Type 0 where
  pub machine : t.machine ≡ u.machine
  pub sends : t.sends ≡ u.sends
  pub stepped : t.stepped ≡ u.stepped
  pub vars : AgreeAt places t.vars u.vars

-- and so where the machine may be stuck
abbrev pub AreSameAt : List ℕ → Option Tick → Option Tick → Type 0
AreSameAt places None None = Unit {0}
AreSameAt places (Some t) (Some u) = IsSameAt places t u
AreSameAt places _ _ = ⊥

abbrev pub ChangesAtMost : List ℕ → List ℤ → Option Tick → Type 0
ChangesAtMost places vars None = Unit {0}
ChangesAtMost places vars (Some t) = ChangesOnlyAt places vars t.vars

-- a tick of code hangs on the variables that the code uses, and changes no other
abbrev pub StepsKeepToVars : Type 0
StepsKeepToVars =
    (instrs : List Instr) (m : State) (vs ws : List ℤ) → AgreeAt (instrs_vars instrs) vs ws → AreSameAt (instrs_vars instrs) (instruction_step instrs m vs) (instruction_step instrs m ws) × ChangesAtMost (instrs_vars instrs) vs (instruction_step instrs m vs)
