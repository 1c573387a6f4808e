-- What sending and closing leave of the messages on their way.
use Rattle.std.specs.Prelude.{◌≡◌, ◌≢◌, ℕ, ◌<◌, ℤ, true, List, length}
use Rattle.std.specs.List.{Contains}
use Rattle.yt_graph.specs.declared.handled.SendItem.{SendItem}
use Rattle.yt_log.specs.declared.job.Job.{Job}
use Rattle.yt_chan.specs.Changes.{AddsOpen, ClearsOpen, EndsHandling, KeepsJobs, KeepsPlaced, KeepsWaits, KeepsWires, PassesOn}
use Rattle.yt_chan.specs.State.{ChannelState, IsOfOneJob, job_at, open_at, open_on}
use Rattle.yt_chan.specs.Wires.{wire_at, wire_of_out}
use Rattle.yt_interleave.specs.MidHandling.{with_sends}

-- a message may be sent on an out of a port: the out has a wire of the message's width, on which there is room, and what waits on it comes of one job at most; and the port's message is in handling
pub record MaySend (channels : ChannelState) (port out : ℕ) (values : List ℤ) : Type 0 where
  pub there : wire_of_out channels.wires port out < length channels.wires
  pub handled : (job_at channels port).in_handling ≡ true
  pub wide : length values ≡ (wire_at channels.wires (wire_of_out channels.wires port out)).width
  pub room : length (open_on channels port out) < (wire_at channels.wires (wire_of_out channels.wires port out)).sends
  pub one : IsOfOneJob channels (wire_of_out channels.wires port out)

-- a message was sent on an out of a port
pub record Sends (old : ChannelState) (port out : ℕ) (values : List ℤ) (new : ChannelState) : Type 0 where
  pub may : MaySend old port out values
  pub wires : KeepsWires old new
  pub opens : AddsOpen old new (wire_of_out old.wires port out) values
  pub jobs : KeepsJobs old new
  pub placed : KeepsPlaced old new
  pub waits : KeepsWaits old new

-- each open message is on a wire, and as wide as the wire
abbrev pub AreOpenWide : ChannelState → Type 0
AreOpenWide channels =
    (k : ℕ) (values : List ℤ) → Contains (open_at channels k) values → (k < length channels.wires) × (length values ≡ (wire_at channels.wires k).width)

-- these messages were sent on the outs of a port, in order
pub record SendsAll (old : ChannelState) (port : ℕ) (sends : List SendItem) (new : ChannelState) : Type 0 where
  pub wires : KeepsWires old new
  pub jobs : KeepsJobs old new
  pub placed : KeepsPlaced old new
  pub waits : KeepsWaits old new
  pub added : (out : ℕ) → open_on new port out ≡ with_sends (open_on old port) sends out
  pub others : (k : ℕ) → (wire_at old.wires k).port ≢ port → open_at new k ≡ open_at old k
  pub wide : AreOpenWide old → AreOpenWide new

-- a job that arrived at a tick was closed
pub record Closes (old new : ChannelState) (job : Job) (arrival : ℕ) : Type 0 where
  pub wires : KeepsWires old new
  pub waits : PassesOn old new job arrival
  pub opens : ClearsOpen old new job.task
  pub jobs : EndsHandling old new job arrival
  pub placed : KeepsPlaced old new
