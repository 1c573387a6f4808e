-- What the handlers of a well-formed graph send.
use Rattle.std.specs.Prelude.{◌≡◌, ℕ, List, length, Some, ℤ, IsSomeAnd}
use Rattle.std.specs.List.{All}
use Rattle.yt_list.specs.Numbered.{numbered}
use Rattle.yt_graph.specs.declared.handled.SendItem.{SendItem}
use Rattle.yt_graph.specs.Meaning.{handling}
use Rattle.yt_graph.specs.Picture.{PortTree, GraphTree}
use Rattle.yt_graph.specs.WellFormed.{IsWellFormed}

-- a send on one of a port's outs, with as many values as the out is wide
abbrev pub IsSendOf : PortTree → SendItem → Type 0
IsSendOf port sent = IsSomeAnd (numbered port.outs sent.out) (λ out. length sent.values ≡ out.width)

-- each send of a port's handling is on one of its outs, with as many values as that out is wide, whatever the message and the variables
abbrev pub SendsHaveTheirWidth : Type 0
SendsHaveTheirWidth =
    (g : GraphTree) → IsWellFormed g → (number : ℕ) (port : PortTree) → numbered g.ports number ≡ Some port →
    (message vars : List ℤ) → All (IsSendOf port) (handling g port message vars).sends
