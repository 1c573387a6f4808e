-- What a path leads to in the part that its first word names, by that part and the number of its first port.
use Rattle.std.specs.Prelude.{ℕ, ◌+◌, List, slice_get, Option, None, Some, Result, Err}
use Rattle.yt_graph.specs.declared.ast.Path.{Path}
use Rattle.yt_graph.specs.AstPicture.{PortDeclTree, ItemTree, input, output, resource, process}
use Rattle.yt_name_faults.specs.declared.target.Target.{Target}
use Rattle.yt_name_faults.specs.declared.fault.NameFault.{NameFault}
use Rattle.yt_name_faults.specs.declared.fault.NameFault.TheVariants.{Unknown, Kind}
use Rattle.yt_table.specs.Tables.{first_of}
use Rattle.yt_name_faults.specs.Names.{port_names}
use Rattle.yt_name_faults.specs.Paths.{out_of_port}

-- the port at a place of these, of which the first has a number
abbrev pub own_port_at : Path → ℕ → List PortDeclTree → Option ℕ → Result Target NameFault
own_port_at path first ports None = Err (Unknown path.port.place)
own_port_at path first ports (Some place) = out_of_port path (first + place) (slice_get ports place)

abbrev pub in_own_part : Path → ℕ → ItemTree → Result Target NameFault
in_own_part path first (process p) = own_port_at path first p.ports (first_of path.port.text 0 (port_names p.ports))
in_own_part path first (input i) = Err (Kind path.process.place)
in_own_part path first (output o) = Err (Kind path.process.place)
in_own_part path first (resource r) = Err (Kind path.process.place)
