-- What `handle` asks of a port, and what it answers.
use Rattle.std.specs.Prelude.{◌≡◌, ℕ}
use Rattle.std.specs.Option.{ForSome}
use Rattle.yt_list.specs.Numbered.{numbered}
use Rattle.yt_graph.specs.Picture.{PortTree, GraphTree}
use Rattle.yt_graph.specs.Meaning.{Handling}
use Rattle.yt_mean.specs.declared.handled.Handled.{Handled}

-- a fact about the port with this number, from 1
abbrev pub ForPort : GraphTree → ℕ → (PortTree → Type 0) → Type 0
ForPort graph number P = ForSome (numbered graph.ports number) P

-- an answer tells a handling's variables, sends and ticks, and leaves its writes out
pub record Tells (answer : Handled) (handling : Handling) : Type 0 where
  pub vars : answer.vars ≡ handling.vars
  pub sends : answer.sends ≡ handling.sends
  pub ticks : answer.ticks ≡ handling.ticks
