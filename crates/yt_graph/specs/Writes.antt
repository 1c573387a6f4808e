-- What writes make of variables.
use Rattle.std.specs.Prelude.{ℤ, List, [], ◌∷◌, slice_set}
use Rattle.yt_graph.specs.declared.handled.Write.{Write}

-- variables after these writes, one after the other
abbrev pub after_writes : List Write → List ℤ → List ℤ
after_writes [] vars = vars
after_writes (w ∷ rest) vars = after_writes rest (slice_set vars w.variable w.value)
