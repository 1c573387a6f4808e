-- When a graph is well formed: its names differ, its numbers name things that are there, and all is within its limits.
use Rattle.std.specs.Prelude.{◌≡◌, ℕ, zero, suc, ◌+◌, ◌<◌, ◌≤◌, ◌-◌, max, Bool, true, false, ◌&&◌, ◌||◌, IsTrue, List, [], ◌∷◌, ◌++◌, length, map, slice_get, bytes_eq, IsSomeAnd}
use Rattle.std.specs.List.{All, list_any}
use Rattle.yt_graph.specs.Limits.{most_inputs, most_outputs, most_groups, most_processes, most_ports, most_vars, most_outs, most_locals, most_width, most_period, most_every, most_turns, most_op_args, most_op_ticks, most_op_code, most_expr_depth, most_block_depth}
use Rattle.yt_graph.specs.Names.{is_name}
use Rattle.yt_graph.specs.declared.port.Feed as feed
use Rattle.yt_graph.specs.declared.port.Feed.{Feed}
use Rattle.yt_graph.specs.declared.port.OutHead.{OutHead}
use Rattle.yt_graph.specs.declared.graph as graph
use Rattle.yt_graph.specs.Picture.{ExprTree, num, local, var, neg, lnot, two, call, ExprsTree, no_exprs, more_exprs, StmtTree, set_local, set_var, send, if_only, if_else, repeat, BlockTree, empty, more, PortTree, GraphTree}

-- whether an expression reads a variable
abbrev mutual
  pub expr_uses_var : ExprTree → Bool
  expr_uses_var (num n) = false
  expr_uses_var (local i) = false
  expr_uses_var (var i) = true
  expr_uses_var (neg e) = expr_uses_var e
  expr_uses_var (lnot e) = expr_uses_var e
  expr_uses_var (two op l r) = expr_uses_var l || expr_uses_var r
  expr_uses_var (call op code ticks args) = exprs_use_var args

  pub exprs_use_var : ExprsTree → Bool
  exprs_use_var no_exprs = false
  exprs_use_var (more_exprs e rest) = expr_uses_var e || exprs_use_var rest

-- whether a statement or a block reads or writes a variable
abbrev mutual
  pub stmt_uses_var : StmtTree → Bool
  stmt_uses_var (set_local i e) = expr_uses_var e
  stmt_uses_var (set_var i e) = true
  stmt_uses_var (send o es) = exprs_use_var es
  stmt_uses_var (if_only e first) = expr_uses_var e || block_uses_var first
  stmt_uses_var (if_else e first second) = expr_uses_var e || (block_uses_var first || block_uses_var second)
  stmt_uses_var (repeat e most body) = expr_uses_var e || block_uses_var body

  pub block_uses_var : BlockTree → Bool
  block_uses_var empty = false
  block_uses_var (more s rest) = stmt_uses_var s || block_uses_var rest

-- a number from one on and up to another
abbrev pub IsWithin : ℕ → ℕ → ℕ → Type 0
IsWithin low high n = (low ≤ n) × (n ≤ high)

-- no two are the same
abbrev pub AreDifferent : List (List ℕ) → Type 0
AreDifferent [] = Unit {0}
AreDifferent (name ∷ rest) = (list_any (bytes_eq name) rest ≡ false) × AreDifferent rest

-- names of the same process are different
abbrev pub AreDifferentWithin : List (List ℕ × List ℕ) → Type 0
AreDifferentWithin [] = Unit {0}
AreDifferentWithin (p ∷ rest) = (list_any (λ q. bytes_eq p.0 q.0 && bytes_eq p.1 q.1) rest ≡ false) × AreDifferentWithin rest

-- the depth of an expression: 1 for a number or a name, else 1 more than its greatest part
abbrev mutual
  pub expr_depth : ExprTree → ℕ
  expr_depth (num n) = 1
  expr_depth (local i) = 1
  expr_depth (var i) = 1
  expr_depth (neg e) = 1 + expr_depth e
  expr_depth (lnot e) = 1 + expr_depth e
  expr_depth (two op l r) = 1 + max (expr_depth l) (expr_depth r)
  expr_depth (call op code ticks args) = 1 + exprs_depth args

  pub exprs_depth : ExprsTree → ℕ
  exprs_depth no_exprs = 0
  exprs_depth (more_exprs e rest) = max (expr_depth e) (exprs_depth rest)

-- the depth of a block: 1, or 1 more than that of a block in it
abbrev mutual
  pub stmt_depth : StmtTree → ℕ
  stmt_depth (set_local i e) = 0
  stmt_depth (set_var i e) = 0
  stmt_depth (send o es) = 0
  stmt_depth (if_only e first) = block_depth first
  stmt_depth (if_else e first second) = max (block_depth first) (block_depth second)
  stmt_depth (repeat e most body) = block_depth body

  pub block_depth : BlockTree → ℕ
  block_depth empty = 1
  block_depth (more s rest) = max (1 + stmt_depth s) (block_depth rest)

abbrev pub exprs_count : ExprsTree → ℕ
exprs_count no_exprs = 0
exprs_count (more_exprs e rest) = suc (exprs_count rest)

-- the place of a variable of this process
abbrev pub IsVarOf : GraphTree → List ℕ → ℕ → Type 0
IsVarOf g owner i = IsSomeAnd (slice_get g.vars i) (λ v. v.process ≡ owner)

-- what an expression of a port names is there, and its calls are of one argument or two, 1 to 1,000 ticks and codes from 1 to 5
abbrev mutual
  pub IsFineExpr : GraphTree → PortTree → ExprTree → Type 0
  IsFineExpr g p (num n) = Unit {0}
  IsFineExpr g p (local i) = i < p.locals
  IsFineExpr g p (var i) = IsVarOf g p.process i
  IsFineExpr g p (neg e) = IsFineExpr g p e
  IsFineExpr g p (lnot e) = IsFineExpr g p e
  IsFineExpr g p (two op l r) = IsFineExpr g p l × IsFineExpr g p r
  IsFineExpr g p (call op code ticks args) = (1 ≤ op) × IsWithin 1 most_op_code code × IsWithin 1 most_op_ticks ticks × IsWithin 1 most_op_args (exprs_count args) × AreFineExprs g p args

  pub AreFineExprs : GraphTree → PortTree → ExprsTree → Type 0
  AreFineExprs g p no_exprs = Unit {0}
  AreFineExprs g p (more_exprs e rest) = IsFineExpr g p e × AreFineExprs g p rest

-- an expression of a port that is no deeper than 32
abbrev pub IsFineValue : GraphTree → PortTree → ExprTree → Type 0
IsFineValue g p e = (expr_depth e ≤ most_expr_depth) × IsFineExpr g p e

abbrev pub AreFineValues : GraphTree → PortTree → ExprsTree → Type 0
AreFineValues g p es = (exprs_depth es ≤ most_expr_depth) × AreFineExprs g p es

-- an out of a port, by its number from 1, with so many values
abbrev pub IsOutOfWidth : PortTree → ℕ → ℕ → Type 0
IsOutOfWidth p out count = (place : ℕ) × (out ≡ suc place) × IsSomeAnd (slice_get p.outs place) (λ o. o.width ≡ count)

-- what a statement of a port names is there, and its sends have as many values as their outs are wide
abbrev mutual
  pub IsFineStmt : GraphTree → PortTree → StmtTree → Type 0
  IsFineStmt g p (set_local i e) = (i < p.locals) × IsFineValue g p e
  IsFineStmt g p (set_var i e) = IsVarOf g p.process i × IsFineValue g p e
  IsFineStmt g p (send out es) = IsOutOfWidth p out (exprs_count es) × AreFineValues g p es
  IsFineStmt g p (if_only e first) = IsFineValue g p e × IsFineBlock g p first
  IsFineStmt g p (if_else e first second) = IsFineValue g p e × IsFineBlock g p first × IsFineBlock g p second
  IsFineStmt g p (repeat e most body) = IsFineValue g p e × IsWithin 1 most_turns most × IsFineBlock g p body

  pub IsFineBlock : GraphTree → PortTree → BlockTree → Type 0
  IsFineBlock g p empty = Unit {0}
  IsFineBlock g p (more s rest) = IsFineStmt g p s × IsFineBlock g p rest

-- an out of a port of the graph, both by their numbers from 1, and what is said of it
abbrev pub IsOutAnd : GraphTree → ℕ → ℕ → (OutHead → Type 0) → Type 0
IsOutAnd g port out P = (a b : ℕ) × (port ≡ suc a) × (out ≡ suc b) × IsSomeAnd (slice_get g.ports a) (λ p. IsSomeAnd (slice_get p.outs b) P)

-- a port's messages have as many numbers as the port has parameters
abbrev pub IsFeedOfWidth : GraphTree → ℕ → Feed → Type 0
IsFeedOfWidth g count (feed.TheVariants.Input n) = (a : ℕ) × (n ≡ suc a) × IsSomeAnd (slice_get g.inputs a) (λ i. i.width ≡ count)
IsFeedOfWidth g count (feed.TheVariants.Out port out) = IsOutAnd g port out (λ o. o.width ≡ count)

abbrev pub IsFineOut : OutHead → Type 0
IsFineOut o = IsTrue (is_name o.name) × (o.width ≤ most_width) × IsWithin 1 most_every o.every

-- a port that uses a variable is under a resource that is there, and one that uses none is under none
abbrev pub IsFineGroup : GraphTree → PortTree → Bool → Type 0
IsFineGroup g p true = IsWithin 1 (length g.groups) p.group
IsFineGroup g p false = p.group ≡ 0

-- the ports of one process that use variables are under one resource
abbrev pub IsUnderOne : PortTree → PortTree → Type 0
IsUnderOne p q = p.process ≡ q.process → block_uses_var p.body ≡ true → block_uses_var q.body ≡ true → p.group ≡ q.group

-- the chain of sources that begins at a feed ends at an input within so many ports
abbrev pub EndsWithin : GraphTree → ℕ → Feed → Type 0
EndsWithin g n (feed.TheVariants.Input i) = Unit {0}
EndsWithin g zero (feed.TheVariants.Out port out) = ⊥
EndsWithin g (suc n) (feed.TheVariants.Out port out) = (a : ℕ) × (port ≡ suc a) × IsSomeAnd (slice_get g.ports a) (λ p. EndsWithin g n p.feed)

abbrev pub IsFinePort : GraphTree → PortTree → Type 0
IsFinePort g p =
    IsTrue (is_name p.process) × IsTrue (is_name p.name)
    × IsFeedOfWidth g p.params p.feed × EndsWithin g (length g.ports) p.feed
    × (p.params ≤ p.locals) × (p.locals ≤ most_locals)
    × (length p.outs ≤ most_outs) × AreDifferent (map (λ o. o.name) p.outs) × All IsFineOut p.outs
    × (block_depth p.body ≤ most_block_depth) × IsFineBlock g p p.body
    × IsFineGroup g p (block_uses_var p.body) × All (IsUnderOne p) g.ports

abbrev pub IsFineInput : graph.Input.Input → Type 0
IsFineInput i = IsTrue (is_name i.name) × (i.width ≤ most_width) × IsWithin 1 most_period i.period

abbrev pub IsFineOutput : GraphTree → graph.Output.Output → Type 0
IsFineOutput g o = IsTrue (is_name o.name) × IsOutAnd g o.port o.out (λ _. Unit {0})

-- a process whose name a resource has is that resource itself: it has variables, and is under no other
abbrev pub IsOwnGroup : GraphTree → PortTree → Type 0
IsOwnGroup g p =
    list_any (bytes_eq p.process) g.groups ≡ true
    → (list_any (λ v. bytes_eq p.process v.process) g.vars ≡ true) × (block_uses_var p.body ≡ true → IsSomeAnd (slice_get g.groups (p.group - 1)) (λ name. name ≡ p.process))

-- the names of inputs and outputs, of which no process has one
abbrev pub outer_names : GraphTree → List (List ℕ)
outer_names g = map (λ i. i.name) g.inputs ++ map (λ o. o.name) g.outputs

abbrev pub IsFineVar : GraphTree → graph.Var.Var → Type 0
IsFineVar g v = IsTrue (is_name v.process) × IsTrue (is_name v.name) × (list_any (bytes_eq v.process) (outer_names g) ≡ false)

-- a list that names the process of each port and of each variable
pub record NamesProcesses (g : GraphTree) (names : List (List ℕ)) : Type 0 where
  pub of_ports : All (λ p. list_any (bytes_eq p.process) names ≡ true) g.ports
  pub of_vars : All (λ v. list_any (bytes_eq v.process) names ≡ true) g.vars

-- a graph has at most 16 inputs and outputs each, 32 declared resources and 64 of processes, 256 variables and 64 ports, of at most 64 processes
pub record IsCounted (g : GraphTree) : Type 0 where
  pub inputs : length g.inputs ≤ most_inputs
  pub outputs : length g.outputs ≤ most_outputs
  pub groups : length g.groups ≤ most_groups
  pub vars : length g.vars ≤ most_vars
  pub ports : length g.ports ≤ most_ports
  pub processes : (names : List (List ℕ)) × (length names ≤ most_processes) × NamesProcesses g names

pub record IsWellFormed (g : GraphTree) : Type 0 where
  pub counts : IsCounted g
  pub names : AreDifferent (outer_names g ++ g.groups)
  pub group_names : All (λ name. IsTrue (is_name name)) g.groups
  pub processes : All (λ p. list_any (bytes_eq p.process) (outer_names g) ≡ false) g.ports
  pub own_groups : All (IsOwnGroup g) g.ports
  pub port_names : AreDifferentWithin (map (λ p. (p.process, p.name)) g.ports)
  pub var_names : AreDifferentWithin (map (λ v. (v.process, v.name)) g.vars)
  pub each_input : All IsFineInput g.inputs
  pub each_output : All (IsFineOutput g) g.outputs
  pub each_var : All (IsFineVar g) g.vars
  pub each_port : All (IsFinePort g) g.ports
