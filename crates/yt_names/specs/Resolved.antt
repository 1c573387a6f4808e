-- The graph that names stand for. It has meaning where there's no fault; what isn't found or doesn't fit is 0 elsewhere.
use Rattle.std.specs.Prelude.{ℕ, ◌+◌, ◌-◌, ◌^◌, nat_lt, ℤ, pos, negsuc, List, [], ◌∷◌, ◌++◌, length, map, slice_get, bytes_eq, Option, None, Some, Result, Ok, Err, if◌then◌else◌}
use Rattle.std.specs.List.{flat_map}
use Rattle.std.specs.Option.{unwrap_or}
use Rattle.yt_graph.specs.declared.ast.Word.{Word}
use Rattle.yt_graph.specs.declared.ast.Num.{Num}
use Rattle.yt_graph.specs.declared.ast.Source as source
use Rattle.yt_graph.specs.declared.ast.Source.{Source}
use Rattle.yt_graph.specs.declared.ast.VarDecl.{VarDecl}
use Rattle.yt_graph.specs.declared.ast.OutDecl.{OutDecl}
use Rattle.yt_graph.specs.declared.operator.OpHead.{OpHead}
use Rattle.yt_graph.specs.declared.port.Feed as feed
use Rattle.yt_graph.specs.declared.port.Feed.{Feed}
use Rattle.yt_graph.specs.declared.port.OutHead.{OutHead}
use Rattle.yt_graph.specs.declared.graph as graph
use Rattle.yt_graph.specs.AstPicture.{AstExprTree, number, name, minus, negation, two_sides, paren, call_of, AstExprsTree, no_values, more_values, AstStmtTree, let_local, assign, send_on, when_only, when_else, turns, AstBlockTree, no_stmts, more_stmts, PortDeclTree, ItemTree, input, output, resource, process}
use Rattle.yt_graph.specs.Picture.{ExprTree, num, local, var, neg, lnot, two, call, ExprsTree, no_exprs, more_exprs, StmtTree, set_local, set_var, send, if_only, if_else, repeat, BlockTree, empty, more, PortTree, GraphTree}
use Rattle.yt_graph.specs.WellFormed.{block_uses_var}
use Rattle.yt_name_faults.specs.declared.fault.NameFault.{NameFault}
use Rattle.yt_names.specs.declared.meant.Meant.{Meant}
use Rattle.yt_names.specs.declared.meant.Meant.TheVariants.{Local, Var, Nothing}
use Rattle.yt_name_faults.specs.declared.target.Target.{Target}
use Rattle.yt_table.specs.Tables.{first_of}
use Rattle.yt_name_faults.specs.Names.{var_names, out_names, op_names}
use Rattle.yt_name_faults.specs.Paths.{look_up}
use Rattle.yt_graph.specs.Limits.{most_locals}
use Rattle.yt_name_faults.specs.Handlers.{left_after, left_after_block}

-- a number of the text as a count
abbrev pub size_of : ℤ → ℕ
size_of (pos n) = n
size_of (negsuc n) = 0

-- the same, where 32 bits hold it
abbrev pub place_of : ℕ → ℕ
place_of n = if nat_lt n (2 ^ 32) then n else 0

abbrev pub count_of : Num → ℕ
count_of n = place_of (size_of n.value)

-- the number from 1 of what has a place from 0
abbrev pub number_of : ℕ → ℕ
number_of place = place_of (place + 1)

-- a local: its name, and its place in the handler
pub record NamedPlace : Type 0 where
  pub text : List ℕ
  pub place : ℕ

-- what a handler's words are resolved by: the place of the first variable of its process, the variables, the outs and the operators
pub record Scope : Type 0 where
  pub first : ℕ
  pub vars : List VarDecl
  pub outs : List OutDecl
  pub ops : List OpHead

abbrev pub local_at : List ℕ → List NamedPlace → Option ℕ
local_at word [] = None
local_at word (l ∷ ls) = if bytes_eq word l.text then Some l.place else local_at word ls

-- what a name stands for: a visible local or else a variable
abbrev pub var_meant : ℕ → Option ℕ → Meant
var_meant first None = Nothing
var_meant first (Some k) = Var (place_of (first + k))

abbrev pub meant_by : Scope → Option ℕ → List ℕ → Meant
meant_by scope (Some place) word = Local place
meant_by scope None word = var_meant scope.first (first_of word 0 (var_names scope.vars))

abbrev pub meant : Scope → List NamedPlace → List ℕ → Meant
meant scope visible word = meant_by scope (local_at word visible) word

-- what a name reads
abbrev pub read_of : Meant → ExprTree
read_of (Local place) = local place
read_of (Var place) = var place
read_of Nothing = num (pos 0)

-- the call of an operator by its place among all
abbrev pub call_head : ℕ → Option OpHead → ExprsTree → ExprTree
call_head place None args = num (pos 0)
call_head place (Some head) args = call (number_of place) head.code head.ticks args

abbrev pub call_at : List OpHead → Option ℕ → ExprsTree → ExprTree
call_at ops None args = num (pos 0)
call_at ops (Some place) args = call_head place (slice_get ops place) args

abbrev mutual
  -- an expression; one in parentheses is its inside
  pub resolved_expr : Scope → List NamedPlace → AstExprTree → ExprTree
  resolved_expr scope visible (number n) = num n
  resolved_expr scope visible (name w) = read_of (meant scope visible w.text)
  resolved_expr scope visible (minus e) = neg (resolved_expr scope visible e)
  resolved_expr scope visible (negation e) = lnot (resolved_expr scope visible e)
  resolved_expr scope visible (two_sides op l r) = two op (resolved_expr scope visible l) (resolved_expr scope visible r)
  resolved_expr scope visible (paren e) = resolved_expr scope visible e
  resolved_expr scope visible (call_of w args) = call_at scope.ops (first_of w.text 0 (op_names scope.ops)) (resolved_exprs scope visible args)

  pub resolved_exprs : Scope → List NamedPlace → AstExprsTree → ExprsTree
  resolved_exprs scope visible no_values = no_exprs
  resolved_exprs scope visible (more_values e rest) = more_exprs (resolved_expr scope visible e) (resolved_exprs scope visible rest)

-- the place of a new local of a handler that may have so many more
abbrev pub new_place : ℕ → ℕ
new_place left = most_locals - left

abbrev pub with_local : List NamedPlace → ℕ → List ℕ → List NamedPlace
with_local visible left word = visible ++ record { text = word; place = new_place left } ∷ []

-- which locals are visible behind a statement
abbrev pub locals_after : List NamedPlace → ℕ → AstStmtTree → List NamedPlace
locals_after visible left (let_local w e) = with_local visible left w.text
locals_after visible left (assign w e) = visible
locals_after visible left (send_on w es) = visible
locals_after visible left (when_only e first) = visible
locals_after visible left (when_else e first second) = visible
locals_after visible left (turns e most body) = visible

-- what an assignment to a name sets
abbrev pub set_of : Meant → ExprTree → StmtTree
set_of (Local place) e = set_local place e
set_of (Var place) e = set_var place e
set_of Nothing e = set_local 0 e

-- the number of an out by its place
abbrev pub out_number : Option ℕ → ℕ
out_number None = 0
out_number (Some place) = number_of place

abbrev mutual
  -- a statement of a handler that may have so many more locals
  pub resolved_stmt : Scope → List NamedPlace → ℕ → AstStmtTree → StmtTree
  resolved_stmt scope visible left (let_local w e) = set_local (new_place left) (resolved_expr scope visible e)
  resolved_stmt scope visible left (assign w e) = set_of (meant scope visible w.text) (resolved_expr scope visible e)
  resolved_stmt scope visible left (send_on w es) = send (out_number (first_of w.text 0 (out_names scope.outs))) (resolved_exprs scope visible es)
  resolved_stmt scope visible left (when_only e first) = if_only (resolved_expr scope visible e) (resolved_block scope visible left first)
  resolved_stmt scope visible left (when_else e first second) = if_else (resolved_expr scope visible e) (resolved_block scope visible left first) (resolved_block scope visible (left_after_block left first) second)
  resolved_stmt scope visible left (turns e most body) = repeat (resolved_expr scope visible e) (count_of most) (resolved_block scope visible left body)

  pub resolved_block : Scope → List NamedPlace → ℕ → AstBlockTree → BlockTree
  resolved_block scope visible left no_stmts = empty
  resolved_block scope visible left (more_stmts s rest) = more (resolved_stmt scope visible left s) (resolved_block scope (locals_after visible left s) (left_after left s) rest)

-- the parameters are the first locals
abbrev pub param_locals : List NamedPlace → ℕ → List Word → List NamedPlace
param_locals visible left [] = visible
param_locals visible left (p ∷ rest) = param_locals (with_local visible left p.text) (left - 1) rest

abbrev pub resolved_body : Scope → List Word → AstBlockTree → BlockTree
resolved_body scope params body = resolved_block scope (param_locals [] most_locals params) (most_locals - length params) body

-- how many locals a handler has, parameters among them
abbrev pub locals_of : List Word → AstBlockTree → ℕ
locals_of params body = most_locals - left_after_block (most_locals - length params) body

abbrev pub every_of : Option Num → ℕ
every_of None = 1
every_of (Some n) = count_of n

abbrev pub out_head : OutDecl → OutHead
out_head o = record { name = o.name.text; width = count_of o.width; every = every_of o.every }

-- the inputs in file order
abbrev pub inputs_of : ItemTree → List graph.Input.Input
inputs_of (input i) = record { name = i.name.text; width = count_of i.width; period = size_of i.period.value } ∷ []
inputs_of (output o) = []
inputs_of (resource r) = []
inputs_of (process p) = []

abbrev pub resolved_inputs : List ItemTree → List graph.Input.Input
resolved_inputs items = flat_map inputs_of items

-- the resources that are declared, in file order
abbrev pub resources_of : ItemTree → List (List ℕ)
resources_of (input i) = []
resources_of (output o) = []
resources_of (resource r) = r.name.text ∷ []
resources_of (process p) = []

-- a process with variables that is in no declared resource is one of its own
abbrev pub own_resource : Word → Option Word → List VarDecl → List (List ℕ)
own_resource w (Some r) vars = []
own_resource w None [] = []
own_resource w None (v ∷ vs) = w.text ∷ []

abbrev pub own_resources_of : ItemTree → List (List ℕ)
own_resources_of (input i) = []
own_resources_of (output o) = []
own_resources_of (resource r) = []
own_resources_of (process p) = own_resource p.name p.inside p.vars

-- declared resources come first
abbrev pub resolved_groups : List ItemTree → List (List ℕ)
resolved_groups items = flat_map resources_of items ++ flat_map own_resources_of items

abbrev pub var_of : List ℕ → VarDecl → graph.Var.Var
var_of owner v = record { process = owner; name = v.name.text; start = v.start }

abbrev pub vars_of : ItemTree → List graph.Var.Var
vars_of (input i) = []
vars_of (output o) = []
vars_of (resource r) = []
vars_of (process p) = map (var_of p.name.text) p.vars

abbrev pub resolved_vars : List ItemTree → List graph.Var.Var
resolved_vars items = flat_map vars_of items

-- an output shows the out that its path leads to
abbrev pub output_to : List ℕ → Result Target NameFault → graph.Output.Output
output_to word (Ok t) = record { name = word; port = number_of t.port; out = number_of t.out }
output_to word (Err fault) = record { name = word; port = 0; out = 0 }

abbrev pub outputs_of : List ItemTree → ItemTree → List graph.Output.Output
outputs_of all (input i) = []
outputs_of all (output o) = output_to o.name.text (look_up all o.path) ∷ []
outputs_of all (resource r) = []
outputs_of all (process p) = []

abbrev pub resolved_outputs : List ItemTree → List graph.Output.Output
resolved_outputs items = flat_map (outputs_of items) items

-- the number of the first of these names that is the given one, from 1; 0 where none is
abbrev pub number_among : List ℕ → List (List ℕ) → ℕ
number_among word names = place_of (unwrap_or (first_of word 1 names) 0)

abbrev pub feed_to : Result Target NameFault → Feed
feed_to (Ok t) = feed.TheVariants.Out (number_of t.port) (number_of t.out)
feed_to (Err fault) = feed.TheVariants.Input 0

abbrev pub resolved_feed : List ItemTree → Source → Feed
resolved_feed all (source.TheVariants.Input w) = feed.TheVariants.Input (number_among w.text (map (λ i. i.name) (resolved_inputs all)))
resolved_feed all (source.TheVariants.Out path) = feed_to (look_up all path)

-- the resource of a process: the one that it is in, or its own
abbrev pub resource_name : Word → Option Word → List ℕ
resource_name w None = w.text
resource_name w (Some r) = r.text

-- a handler that uses a variable is under its process's resource, another under none
abbrev pub group_of : List (List ℕ) → List ℕ → BlockTree → ℕ
group_of groups key body = if block_uses_var body then number_among key groups else 0

-- a port of a process with this name and resource
abbrev pub resolved_port : List ItemTree → List ℕ → List ℕ → List OpHead → List VarDecl → ℕ → PortDeclTree → PortTree
resolved_port all owner key ops vars first p =
    record {
      process = owner;
      name = p.name.text;
      feed = resolved_feed all p.source;
      group = group_of (resolved_groups all) key (resolved_body (record { first = first; vars = vars; outs = p.outs; ops = ops }) p.params p.body);
      params = place_of (length p.params);
      locals = locals_of p.params p.body;
      outs = map out_head p.outs;
      body = resolved_body (record { first = first; vars = vars; outs = p.outs; ops = ops }) p.params p.body;
    }

-- the ports of a part, where so many variables stand before it
abbrev pub resolved_ports_of : List ItemTree → List OpHead → ℕ → ItemTree → List PortTree
resolved_ports_of all ops first (input i) = []
resolved_ports_of all ops first (output o) = []
resolved_ports_of all ops first (resource r) = []
resolved_ports_of all ops first (process p) = map (resolved_port all p.name.text (resource_name p.name p.inside) ops p.vars first) p.ports

abbrev pub resolved_ports : List ItemTree → List OpHead → ℕ → List ItemTree → List PortTree
resolved_ports all ops first [] = []
resolved_ports all ops first (i ∷ rest) = resolved_ports_of all ops first i ++ resolved_ports all ops (first + length (vars_of i)) rest

-- the graph that names stand for
unfoldable pub resolved : List ItemTree → List OpHead → GraphTree
resolved items ops = record { inputs = resolved_inputs items; outputs = resolved_outputs items; groups = resolved_groups items; vars = resolved_vars items; ports = resolved_ports items ops 0 items }
