-- The wire of one out.
use Rattle.std.specs.Prelude.{◌≡◌, ⊤, Some, IsSomeAnd, ℕ}
use Rattle.yt_graph.specs.declared.port.OutHead.{OutHead}
use Rattle.yt_graph.specs.Picture.{GraphTree, PortTree}
use Rattle.yt_list.specs.Numbered.{numbered}
use Rattle.yt_chan.specs.declared.wire.Wire.{Wire}
use Rattle.yt_body.specs.Wiring.{wire_of}

-- an out of a port is there, both by their numbers from 1
abbrev pub IsOutOf : GraphTree → ℕ → ℕ → Type 0
IsOutOf g port out = IsSomeAnd (numbered g.ports port) (λ p. IsSomeAnd (numbered p.outs out) (λ head. ⊤))

-- a wire is that of an out of a port
abbrev pub IsWireOf : GraphTree → ℕ → ℕ → Wire → Type 0
IsWireOf g port out wire =
    (p : PortTree) → numbered g.ports port ≡ Some p → (head : OutHead) → numbered p.outs out ≡ Some head → wire ≡ wire_of g port p out head
