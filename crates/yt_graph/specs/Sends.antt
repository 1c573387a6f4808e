-- What was sent on each of a port's outs.
use Rattle.std.specs.Prelude.{ℕ, ◌==◌, if◌then◌else◌, ℤ, List, [], ◌∷◌}
use Rattle.yt_graph.specs.declared.handled.SendItem.{SendItem}

-- the messages that were sent on an out, from 1, in order
abbrev pub messages_on : ℕ → List SendItem → List (List ℤ)
messages_on out [] = []
messages_on out (s ∷ rest) = if s.out == out then s.values ∷ messages_on out rest else messages_on out rest
