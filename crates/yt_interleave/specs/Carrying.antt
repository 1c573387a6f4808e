-- How channels carry the messages of a run: what waits on a wire is what a job passes on.
use Rattle.std.specs.Prelude.{◌≡◌, ℕ, List, map}
use Rattle.yt_graph.specs.declared.handled.SendItem.{SendItem}
use Rattle.yt_graph.specs.Picture.{GraphTree, PortTree}
use Rattle.yt_graph.specs.Sends.{messages_on}
use Rattle.yt_log.specs.declared.job.Job.{Job}
use Rattle.yt_rates.specs.Rates.{every_of, within_of, gap_of}
use Rattle.yt_serial.specs.PortMessages.{PortMessage, passed}
use Rattle.yt_chan.specs.declared.wire.Wire.{Wire}
use Rattle.yt_chan.specs.State.{passed_over}
use Rattle.yt_chan.specs.Pending.{Pending}

-- a message that waits, as a message at a port
abbrev pub as_message : Pending → PortMessage
as_message m = record { time = m.time; values = m.values }

-- a wire of a port passes on what the port's jobs send on an out: it has the out's `every`, the time within which the port's jobs are due, and the out's gap
pub record IsTimedAs (g : GraphTree) (number : ℕ) (p : PortTree) (n : ℕ) (wire : Wire) : Type 0 where
  pub port : wire.port ≡ number
  pub every : wire.every ≡ every_of p n
  pub period : wire.period ≡ within_of g p
  pub gap : wire.gap ≡ gap_of g p n

-- what a job leaves to wait on a wire of its port is what it passes on in a run
abbrev pub WiresPassOn : Type 0
WiresPassOn =
    (g : GraphTree) (p : PortTree) (n : ℕ) (wire : Wire) (job : Job) (arrival : ℕ) (sends : List SendItem) → IsTimedAs g job.task p n wire →
    map as_message (passed_over wire (messages_on n sends) job arrival) ≡ passed g p job.number arrival sends n
