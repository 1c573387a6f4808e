-- A graph of two ports, of which the second is fed by the first. The tests build it and rate it.
use Rattle.std.specs.Prelude.{ℕ, [], ◌∷◌, List, codes, pos}
use Rattle.yt_graph.specs.declared.port.Feed.{Feed}
use Rattle.yt_graph.specs.declared.port.Feed.TheVariants.{Input, Out}
use Rattle.yt_graph.specs.Picture.{num, local, no_exprs, more_exprs, StmtTree, send, repeat, BlockTree, empty, more, PortTree, GraphTree}

-- send o (v)
abbrev pub passes : StmtTree
passes = send 1 (more_exprs (local 0) no_exprs)

-- port NAME from FEED (v) out o(1) every EVERY, of the process p
abbrev pub port_of : List ℕ → Feed → ℕ → BlockTree → PortTree
port_of name feed every body =
    record { process = codes "p"; name = name; feed = feed; group = 0; params = 1; locals = 1; outs = (record { name = codes "o"; width = 1; every = every }) ∷ []; body = body }

-- ten messages for ten of the input's, and three for two of these
abbrev pub ten : BlockTree
ten = more (repeat (num (pos 10)) 10 (more passes empty)) empty

abbrev pub three : BlockTree
three = more passes (more passes (more passes empty))

-- input t(1) period 10
abbrev pub rated_graph : GraphTree
rated_graph =
    record { inputs = (record { name = codes "t"; width = 1; period = 10 }) ∷ []; outputs = []; groups = []; vars = []; ports = port_of (codes "a") (Input 1) 10 ten ∷ port_of (codes "b") (Out 1 1) 2 three ∷ [] }
