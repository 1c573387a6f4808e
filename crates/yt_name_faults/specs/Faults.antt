-- The faults of a graph's names and numbers, by its rules.
use Rattle.std.specs.Prelude.{ℕ, ◌+◌, ◌-◌, ◌==◌, pos, Bool, true, false, not, List, [], ◌∷◌, ◌++◌, length, Option, None, Some, Result, Ok, Err}
use Rattle.std.specs.Ordering.{int_eq}
use Rattle.yt_graph.specs.declared.ast.Word.{Word}
use Rattle.yt_graph.specs.declared.ast.Num.{Num}
use Rattle.yt_graph.specs.declared.ast.VarDecl.{VarDecl}
use Rattle.yt_graph.specs.declared.ast.OutDecl.{OutDecl}
use Rattle.yt_graph.specs.declared.operator.OpHead.{OpHead}
use Rattle.yt_graph.specs.AstPicture.{PortDeclTree, ItemTree, input, output, resource, process}
use Rattle.yt_graph.specs.Limits.{most_inputs, most_outputs, most_resources, most_processes, most_ports, most_vars, most_outs, most_width, most_period, most_every}
use Rattle.yt_name_faults.specs.declared.fault.NameFault.{NameFault}
use Rattle.yt_name_faults.specs.declared.fault.NameFault.TheVariants.{Unknown, Kind, Twice, Width, Limit, Cycle}
use Rattle.yt_name_faults.specs.declared.fault.LimitKind as limit
use Rattle.yt_name_faults.specs.declared.fault.LimitKind.{LimitKind}
use Rattle.yt_name_faults.specs.declared.room.Room.{Room}
use Rattle.yt_name_faults.specs.First.{fault_if}
use Rattle.yt_table.specs.Tables.{first_of}
use Rattle.yt_name_faults.specs.Names.{is_other, item_names, port_names, var_names, out_names}
use Rattle.yt_name_faults.specs.Paths.{Placed, placed_from, placed_named, look_up, source_width, ports_before, comes_back}
use Rattle.yt_name_faults.specs.Handlers.{is_outside, handler_faults}

-- how many more of each a graph may declare that has none
abbrev pub full_room : Room
full_room = record { inputs = most_inputs; outputs = most_outputs; resources = most_resources; processes = most_processes; ports = most_ports; vars = most_vars }

-- how many more it may declare behind a part
abbrev pub room_after : Room → ItemTree → Room
room_after room (input i) = record room { inputs = room.inputs - 1 }
room_after room (output o) = record room { outputs = room.outputs - 1 }
room_after room (resource r) = record room { resources = room.resources - 1 }
room_after room (process p) = record room { processes = room.processes - 1; ports = room.ports - length p.ports; vars = room.vars - length p.vars }

-- the faults of a declaration's name: it was declared before, by what the name stands for, or it's one too many
abbrev pub declared_faults : Word → ℕ → Option ℕ → ℕ → LimitKind → List NameFault
declared_faults w number first left kind = fault_if (is_other number first) (Twice w.place) ++ fault_if (left == 0) (Limit w.place kind)

-- the fault of a number that is out of its range
abbrev pub range_faults : ℕ → ℕ → Num → LimitKind → List NameFault
range_faults low high n kind = fault_if (is_outside low high n.value) (Limit n.place kind)

abbrev pub err_faults : {X : Type 0} → Result X NameFault → List NameFault
err_faults (Ok x) = []
err_faults (Err fault) = fault ∷ []

-- the faults of a port's source: of its words, or that the port has another number of parameters than its messages have numbers
abbrev pub width_faults : Word → ℕ → Result Num NameFault → List NameFault
width_faults port params (Err fault) = fault ∷ []
width_faults port params (Ok width) = fault_if (not (int_eq width.value (pos params))) (Width port.place)

abbrev pub is_resource : ItemTree → Bool
is_resource (resource r) = true
is_resource (input i) = false
is_resource (output o) = false
is_resource (process p) = false

-- the faults of the word behind `in`
abbrev pub resource_faults : Word → Option Placed → List NameFault
resource_faults w None = Unknown w.place ∷ []
resource_faults w (Some p) = fault_if (not (is_resource p.item)) (Kind w.place)

abbrev pub inside_faults : List ItemTree → Option Word → List NameFault
inside_faults all None = []
inside_faults all (Some w) = resource_faults w (placed_named all w.text)

-- the faults of variables: all of their process, and the ones from a place on
abbrev pub vars_faults : List VarDecl → ℕ → ℕ → List VarDecl → List NameFault
vars_faults vars n left [] = []
vars_faults vars n left (v ∷ rest) = declared_faults v.name n (first_of v.name.text 0 (var_names vars)) left limit.TheVariants.Variables ++ vars_faults vars (n + 1) (left - 1) rest

abbrev pub every_faults : Option Num → List NameFault
every_faults None = []
every_faults (Some n) = range_faults 1 most_every n limit.TheVariants.Every

-- the faults of an out at a place of its port
abbrev pub out_faults : List OutDecl → ℕ → ℕ → OutDecl → List NameFault
out_faults outs n left o =
    declared_faults o.name n (first_of o.name.text 0 (out_names outs)) left limit.TheVariants.Outs
    ++ (range_faults 0 most_width o.width limit.TheVariants.Width ++ every_faults o.every)

-- the faults of outs: all of their port, and the ones from a place on
abbrev pub outs_faults : List OutDecl → ℕ → ℕ → List OutDecl → List NameFault
outs_faults outs n left [] = []
outs_faults outs n left (o ∷ rest) = out_faults outs n left o ++ outs_faults outs (n + 1) (left - 1) rest

-- the faults of a port of this number, in a process with these variables and ports, of which the first has that number
abbrev pub port_faults : List ItemTree → List OpHead → List VarDecl → List PortDeclTree → ℕ → ℕ → ℕ → PortDeclTree → List NameFault
port_faults all ops vars ports first number left p =
    declared_faults p.name number (first_of p.name.text first (port_names ports)) left limit.TheVariants.Ports
    ++ (width_faults p.name (length p.params) (source_width all p.source)
    ++ (fault_if (comes_back (ports_before all) number) (Cycle p.name.place)
    ++ (outs_faults p.outs 0 most_outs p.outs
    ++ handler_faults (record { vars = vars; outs = p.outs; ops = ops }) p.params p.body)))

abbrev pub ports_faults : List ItemTree → List OpHead → List VarDecl → List PortDeclTree → ℕ → ℕ → ℕ → List PortDeclTree → List NameFault
ports_faults all ops vars ports first number left [] = []
ports_faults all ops vars ports first number left (p ∷ rest) = port_faults all ops vars ports first number left p ++ ports_faults all ops vars ports first (number + 1) (left - 1) rest

-- the faults of a process's variables and ports, of which the first has this number
abbrev pub process_faults : List ItemTree → List OpHead → ℕ → Room → List VarDecl → List PortDeclTree → List NameFault
process_faults all ops first room vars ports = vars_faults vars 0 room.vars vars ++ ports_faults all ops vars ports first first room.ports ports

-- the faults of the n-th part, whose first port has this number
abbrev pub item_faults : List ItemTree → List OpHead → ℕ → ℕ → Room → ItemTree → List NameFault
item_faults all ops n first room (input i) =
    declared_faults i.name n (first_of i.name.text 0 (item_names all)) room.inputs limit.TheVariants.Inputs
    ++ (range_faults 0 most_width i.width limit.TheVariants.Width ++ range_faults 1 most_period i.period limit.TheVariants.Period)
item_faults all ops n first room (output o) =
    declared_faults o.name n (first_of o.name.text 0 (item_names all)) room.outputs limit.TheVariants.Outputs ++ err_faults (look_up all o.path)
item_faults all ops n first room (resource r) =
    declared_faults r.name n (first_of r.name.text 0 (item_names all)) room.resources limit.TheVariants.Resources
item_faults all ops n first room (process p) =
    declared_faults p.name n (first_of p.name.text 0 (item_names all)) room.processes limit.TheVariants.Processes
    ++ (inside_faults all p.inside ++ process_faults all ops first room p.vars p.ports)

-- the faults of parts from the n-th on
abbrev pub items_faults : List ItemTree → List OpHead → ℕ → Room → List Placed → List NameFault
items_faults all ops n room [] = []
items_faults all ops n room (p ∷ rest) = item_faults all ops n p.first room p.item ++ items_faults all ops (n + 1) (room_after room p.item) rest

-- all faults of a graph
unfoldable pub name_faults : List ItemTree → List OpHead → List NameFault
name_faults items ops = items_faults items ops 0 full_room (placed_from 0 items)
