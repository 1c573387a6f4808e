-- Why there is room for each message that comes: the port's one before has been handled. And which message comes next.
use Rattle.std.specs.Prelude.{◌≡◌, ℕ, ◌<◌, ◌≤◌, List, ◌∷◌, length, Some}
use Rattle.yt_graph.specs.Picture.{GraphTree}
use Rattle.yt_list.specs.Numbered.{numbered}
use Rattle.yt_trace.specs.declared.message.Message.{Message}
use Rattle.yt_serial.specs.Premises.{CanRun}
use Rattle.yt_serial.specs.PortMessages.{PortMessage}
use Rattle.yt_serial.specs.SerialHandling.{Serial}
use Rattle.yt_interleave.specs.Interleaved.{RunState, known_at}
use Rattle.yt_interleave.specs.Lines.{messages_to}
use Rattle.yt_interleave.specs.Moves.{Interleaves}
use Rattle.yt_interleave.specs.Timing.{HasEnded, IsOnTime}
use Rattle.yt_interleave.specs.Waits.{wait_from, AreFrom, NoneComesBefore}

-- the first of the messages that wait for each port and for each output comes at a tick or later
pub record FirstsComeFrom (r : RunState) (due t : ℕ) : Type 0 where
  pub ports : (port : ℕ) (m : PortMessage) (rest : List PortMessage) → wait_from due (known_at r port) ≡ m ∷ rest → t ≤ m.time
  pub outputs : (n : ℕ) (m : PortMessage) (rest : List PortMessage) → wait_from due (messages_to r.outputs n) ≡ m ∷ rest → t ≤ m.time

-- messages come one after another, each to a port that is free
pub record MessagesFit : Type 0 where
  -- where a message has come to its port, each earlier one of the port has been handled to its end: none is replaced
  pub room :
      (g : GraphTree) (trace : List Message) → CanRun g trace → (s : Serial) (r : RunState) → Interleaves g trace s r → IsOnTime g s r →
      (port k n : ℕ) (m : PortMessage) → numbered (known_at r port) n ≡ Some m → m.time ≤ length r.log → 1 ≤ k → k < n → HasEnded s r port k
  -- none of the messages that wait for a port comes before the first of them
  pub port_order :
      (g : GraphTree) (trace : List Message) → CanRun g trace → (s : Serial) (r : RunState) → Interleaves g trace s r →
      (port due : ℕ) (m : PortMessage) (rest : List PortMessage) → wait_from due (known_at r port) ≡ m ∷ rest → AreFrom m.time rest
  -- nor of those that wait for an output
  pub output_order :
      (g : GraphTree) (trace : List Message) → CanRun g trace → (s : Serial) (r : RunState) → Interleaves g trace s r →
      (n due : ℕ) (m : PortMessage) (rest : List PortMessage) → wait_from due (messages_to r.outputs n) ≡ m ∷ rest → AreFrom m.time rest
  -- so none comes before a tick where the first ones don't
  pub none_before :
      (g : GraphTree) (trace : List Message) → CanRun g trace → (s : Serial) (r : RunState) → Interleaves g trace s r →
      (due t : ℕ) → FirstsComeFrom r due t → NoneComesBefore r due t
