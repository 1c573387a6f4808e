-- The names of a graph's ports, outs and outputs in texts, by their numbers from 1.
use Rattle.std.specs.Prelude.{ℕ, List, [], ◌∷◌, ◌++◌, map}
use Rattle.yt_list.specs.Numbered.{numbered_or}
use Rattle.yt_graph.specs.declared.graph.Output.{Output}
use Rattle.yt_graph.specs.declared.port.Feed as feed
use Rattle.yt_graph.specs.declared.port.OutHead.{OutHead}
use Rattle.yt_graph.specs.Picture.{GraphTree, PortTree, empty}

-- what stands for a port where there is none
abbrev pub no_port : PortTree
no_port = record { process = []; name = []; feed = feed.TheVariants.Input 0; group = 0; params = 0; locals = 0; outs = []; body = empty }

-- what stands for an out where there is none
abbrev pub no_out : OutHead
no_out = record { name = []; width = 0; every = 0 }

-- what stands for an output where there is none
abbrev pub no_output : Output
no_output = record { name = []; port = 0; out = 0 }

-- a port's name in a text: its process's, a dot, and its own
abbrev pub label_of : PortTree → List ℕ
label_of port = port.process ++ 46 ∷ port.name

-- the names of a graph's ports, in order
abbrev pub labels_of : GraphTree → List (List ℕ)
labels_of graph = map label_of graph.ports

-- the name of the port of a number
abbrev pub port_label : GraphTree → ℕ → List ℕ
port_label graph number = label_of (numbered_or graph.ports number no_port)

-- the name of an out of a port, by the numbers of both
abbrev pub out_name : GraphTree → ℕ → ℕ → List ℕ
out_name graph port out = (numbered_or (numbered_or graph.ports port no_port).outs out no_out).name

-- the name of the output of a number
abbrev pub output_name : GraphTree → ℕ → List ℕ
output_name graph number = (numbered_or graph.outputs number no_output).name
