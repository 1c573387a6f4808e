-- A graph of one port, whose handler is at the edges of what numbers can do. The tests build it and handle a message on it.
use Rattle.std.specs.Prelude.{[], ◌∷◌, pos, codes}
use Rattle.yt_graph.specs.declared.expr.Op2.TheVariants.{Add, Sub, Div, Rem}
use Rattle.yt_graph.specs.declared.port.Feed.TheVariants.{Input}
use Rattle.yt_graph.specs.Picture.{num, local, neg, two, ExprsTree, no_exprs, more_exprs, BlockTree, set_local, send, repeat, empty, more, PortTree, GraphTree}

-- v / 0, v % 0, 9223372036854775807 + 1, -9223372036854775807 - 2, n
abbrev pub arithmetic_values : ExprsTree
arithmetic_values =
    more_exprs (two Div (local 0) (num (pos 0)))
    (more_exprs (two Rem (local 0) (num (pos 0)))
    (more_exprs (two Add (num (pos 9223372036854775807)) (num (pos 1)))
    (more_exprs (two Sub (neg (num (pos 9223372036854775807))) (num (pos 2)))
    (more_exprs (local 1) no_exprs))))

-- let n = 0  repeat -3 max 4 { n = n + 1 }  send o (..)
abbrev pub arithmetic_block : BlockTree
arithmetic_block =
    more (set_local 1 (num (pos 0)))
    (more (repeat (neg (num (pos 3))) 4 (more (set_local 1 (two Add (local 1) (num (pos 1)))) empty))
    (more (send 1 arithmetic_values) empty))

-- port a from tick (v) out o(5), of the process p
abbrev pub arithmetic_port : PortTree
arithmetic_port =
    record { process = codes "p"; name = codes "a"; feed = Input 1; group = 0; params = 1; locals = 2; outs = (record { name = codes "o"; width = 5; every = 1 }) ∷ []; body = arithmetic_block }

-- input tick(1) period 100  output led from p.a.o
abbrev pub arithmetic_graph : GraphTree
arithmetic_graph =
    record { inputs = (record { name = codes "tick"; width = 1; period = 100 }) ∷ []; outputs = (record { name = codes "led"; port = 1; out = 1 }) ∷ []; groups = []; vars = []; ports = arithmetic_port ∷ [] }
