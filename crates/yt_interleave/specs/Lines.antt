-- The messages of outputs, and what is shown of them.
use Rattle.std.specs.Prelude.{◌≡◌, ℕ, ◌==◌, nat_lt, List, [], ◌∷◌, length, if◌then◌else◌}
use Rattle.std.specs.Option.{unwrap_or}
use Rattle.yt_graph.specs.Picture.{GraphTree}
use Rattle.yt_serial.specs.declared.shown.OutLine.{OutLine}
use Rattle.yt_serial.specs.PortMessages.{PortMessage}
use Rattle.yt_list.specs.Numbered.{numbered}
use Rattle.yt_serial.specs.SerialHandling.{Serial, shown}
use Rattle.yt_interleave.specs.Interleaved.{RunState, to_come, added, output_feeds}
use Rattle.yt_serial.specs.Lines.{lines_of, AreInLineOrder}

-- the messages of an output
abbrev pub messages_to : List (List PortMessage) → ℕ → List PortMessage
messages_to outputs n = unwrap_or (numbered outputs n) []

-- the lines of serial handling are those of the known messages and of those that the active jobs will pass on
pub record KnowsLines (g : GraphTree) (s : Serial) (r : RunState) : Type 0 where
  pub count : length r.outputs ≡ length g.outputs
  pub lines : (n : ℕ) → lines_of n s.lines ≡ shown n (messages_to (added (to_come g r.active) (output_feeds g) r.outputs) n)

-- the messages that come before a tick
abbrev pub come_before : ℕ → List PortMessage → List PortMessage
come_before due [] = []
come_before due (m ∷ messages) = if nat_lt m.time due then m ∷ come_before due messages else come_before due messages

-- the messages that come at a tick
abbrev pub come_at : ℕ → List PortMessage → List PortMessage
come_at t [] = []
come_at t (m ∷ messages) = if m.time == t then m ∷ come_at t messages else come_at t messages

-- what was shown: in order, the known messages of each output that came before a tick
pub record HasShown (r : RunState) (due : ℕ) (lines : List OutLine) : Type 0 where
  pub order : AreInLineOrder lines
  pub each : (n : ℕ) → lines_of n lines ≡ shown n (come_before due (messages_to r.outputs n))
