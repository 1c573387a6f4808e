-- What sources and paths lead to, and which chains of sources come back.
use Rattle.std.specs.Prelude.{◌≡◌, ℕ, zero, suc, ◌+◌, ◌<◌, Bool, List, [], ◌∷◌, length, map, slice_get, Option, None, Some, is_some, Result, Ok, Err}
use Rattle.std.specs.List.{flat_map}
use Rattle.std.specs.Option.{option_and_then, option_flatten}
use Rattle.yt_graph.specs.declared.ast.Word.{Word}
use Rattle.yt_graph.specs.declared.ast.Num.{Num}
use Rattle.yt_graph.specs.declared.ast.Path.{Path}
use Rattle.yt_graph.specs.declared.ast.Source as declared
use Rattle.yt_graph.specs.declared.ast.Source.{Source}
use Rattle.yt_graph.specs.declared.ast.OutDecl.{OutDecl}
use Rattle.yt_graph.specs.AstPicture.{PortDeclTree, ItemTree, input, output, resource, process}
use Rattle.yt_name_faults.specs.declared.target.Target.{Target}
use Rattle.yt_name_faults.specs.declared.fault.NameFault.{NameFault}
use Rattle.yt_name_faults.specs.declared.fault.NameFault.TheVariants.{Unknown, Kind}
use Rattle.yt_table.specs.Tables.{first_of}
use Rattle.yt_name_faults.specs.Names.{item_names, port_names, out_names}

abbrev pub ports_of : ItemTree → List PortDeclTree
ports_of (input i) = []
ports_of (output o) = []
ports_of (resource r) = []
ports_of (process p) = p.ports

-- the ports of the whole graph, which are numbered from 0 in this order
abbrev pub all_ports : List ItemTree → List PortDeclTree
all_ports items = flat_map ports_of items

-- a part of a graph with the number of its first port
pub record Placed : Type 0 where
  pub first : ℕ
  pub item : ItemTree

abbrev pub placed_from : ℕ → List ItemTree → List Placed
placed_from n [] = []
placed_from n (i ∷ rest) = record { first = n; item = i } ∷ placed_from (n + length (ports_of i)) rest

-- the part of a graph that a name of the common set stands for
unfoldable pub placed_named : List ItemTree → List ℕ → Option Placed
placed_named all name = option_and_then (slice_get (placed_from 0 all)) (first_of name 0 (item_names all))

-- the out that a path's last word names: a port by its number, one of its outs by its place from 0, and that out's width
abbrev pub named_out : Path → ℕ → ℕ → Option OutDecl → Result Target NameFault
named_out path port out None = Err (Unknown path.out.place)
named_out path port out (Some decl) = Ok (record { port = port; out = out; width = decl.width })

abbrev pub out_at : Path → ℕ → List OutDecl → Option ℕ → Result Target NameFault
out_at path port outs None = Err (Unknown path.out.place)
out_at path port outs (Some out) = named_out path port out (slice_get outs out)

abbrev pub out_of_port : Path → ℕ → Option PortDeclTree → Result Target NameFault
out_of_port path port None = Err (Unknown path.port.place)
out_of_port path port (Some p) = out_at path port p.outs (first_of path.out.text 0 (out_names p.outs))

-- the port that a path's second word names
abbrev pub port_at : List ItemTree → Path → Option ℕ → Result Target NameFault
port_at all path None = Err (Unknown path.port.place)
port_at all path (Some port) = out_of_port path port (slice_get (all_ports all) port)

-- the process that a path's first word names
abbrev pub in_part : List ItemTree → Path → ℕ → ItemTree → Result Target NameFault
in_part all path first (process p) = port_at all path (first_of path.port.text first (port_names p.ports))
in_part all path first (input i) = Err (Kind path.process.place)
in_part all path first (output o) = Err (Kind path.process.place)
in_part all path first (resource r) = Err (Kind path.process.place)

abbrev pub in_placed : List ItemTree → Path → Option Placed → Result Target NameFault
in_placed all path None = Err (Unknown path.process.place)
in_placed all path (Some p) = in_part all path p.first p.item

-- what a path leads to, or the fault of its words
unfoldable pub look_up : List ItemTree → Path → Result Target NameFault
look_up all path = in_placed all path (placed_named all path.process.text)

-- how many numbers the messages of an input have
abbrev pub input_width : Word → ItemTree → Result Num NameFault
input_width w (input i) = Ok i.width
input_width w (output o) = Err (Kind w.place)
input_width w (resource r) = Err (Kind w.place)
input_width w (process p) = Err (Kind w.place)

abbrev pub width_at : Word → Option Placed → Result Num NameFault
width_at w None = Err (Unknown w.place)
width_at w (Some p) = input_width w p.item

abbrev pub target_width : Result Target NameFault → Result Num NameFault
target_width (Ok t) = Ok t.width
target_width (Err fault) = Err fault

-- how many numbers the messages of a source have, or the fault of its words
unfoldable pub source_width : List ItemTree → Source → Result Num NameFault
source_width all (declared.TheVariants.Input w) = width_at w (placed_named all w.text)
source_width all (declared.TheVariants.Out path) = target_width (look_up all path)

abbrev pub target_port : Result Target NameFault → Option ℕ
target_port (Ok t) = Some t.port
target_port (Err fault) = None

-- the port before a port in its chain of sources; none where the chain ends
unfoldable pub port_before : List ItemTree → Source → Option ℕ
port_before all (declared.TheVariants.Input w) = None
port_before all (declared.TheVariants.Out path) = target_port (look_up all path)

abbrev pub befores : List ItemTree → List PortDeclTree → List (Option ℕ)
befores all ports = map (λ p. port_before all p.source) ports

-- for each port of the graph, by its number, the port before it
abbrev pub ports_before : List ItemTree → List (Option ℕ)
ports_before all = befores all (all_ports all)

-- one step along a chain, by the list of each port's port before
abbrev pub step_back : List (Option ℕ) → Option ℕ → Option ℕ
step_back before at = option_and_then (λ n. option_flatten (slice_get before n)) at

-- so many steps along a chain
abbrev pub steps_back : List (Option ℕ) → ℕ → Option ℕ → Option ℕ
steps_back before zero at = at
steps_back before (suc n) at = steps_back before n (step_back before at)

-- a chain of more steps than there are ports has come back to a port that is in it already
abbrev pub comes_back : List (Option ℕ) → ℕ → Bool
comes_back before port = is_some (steps_back before (suc (length before)) (Some port))

-- from a port, following sources, a port is reached that was in the chain before
abbrev pub LeadsIntoCycle : List (Option ℕ) → ℕ → Type 0
LeadsIntoCycle before port = (i j again : ℕ) × (i < j) × (steps_back before i (Some port) ≡ Some again) × (steps_back before j (Some port) ≡ Some again)
