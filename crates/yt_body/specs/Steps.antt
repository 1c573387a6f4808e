-- What each call changes of the handlers of a graph.
use Rattle.std.specs.Prelude.{◌≡◌, ◌≢◌, ℕ, ◌+◌, ℤ, List, length, Some}
use Rattle.yt_code.specs.declared.stepped.Stepped.{Stepped}
use Rattle.yt_code.specs.declared.stepped.Stepped.TheVariants.{Going, Ended}
use Rattle.yt_code.specs.Ready.{begun}
use Rattle.yt_code.specs.Step.{State, Tick, instruction_step}
use Rattle.yt_code.specs.Valid.{Program}
use Rattle.yt_log.specs.declared.job.Job.{Job}
use Rattle.yt_chan.specs.declared.target.Arrived.{Arrived}
use Rattle.yt_chan.specs.declared.target.Arrived.TheVariants.{Port, Output}
use Rattle.yt_chan.specs.Changes.{Delivers, KeepsOpens, KeepsWaits, KeepsWires, Places, StartsHandling}
use Rattle.yt_chan.specs.State.{ChannelState, placed_at}
use Rattle.yt_exec.specs.Bodies.{IsFree}
use Rattle.yt_body.specs.declared.port_run.PortRun.{PortRun}
use Rattle.yt_body.specs.declared.port_run.PortStage.TheVariants.{Idle, Placed, Begun}
use Rattle.yt_body.specs.Sends.{Closes, SendsAll}
use Rattle.yt_body.specs.State.{HandlersState, code_at, left_at, run_at, set_of}

-- the run of a port is now this one, and the others are as before
pub record SetsRun (old : HandlersState) (port : ℕ) (run : PortRun) (new : HandlersState) : Type 0 where
  pub long : length new.runs ≡ length old.runs
  pub here : run_at new port ≡ run
  pub others : (other : ℕ) → other ≢ port → run_at new other ≡ run_at old other

-- the run of a port after its next message came at a tick
abbrev pub with_message : ℕ → PortRun → PortRun
with_message now run = record run { stage = Placed; number = run.number + 1; arrival = now }

-- a message comes from outside to a port at a tick
pub record Puts (old : HandlersState) (port : ℕ) (values : List ℤ) (now : ℕ) (new : HandlersState) : Type 0 where
  pub parts : new.parts ≡ old.parts
  pub vars : new.vars ≡ old.vars
  pub run : SetsRun old port (with_message now (run_at old port)) new
  pub wires : KeepsWires old.channels new.channels
  pub places : Places old.channels new.channels (Port port) values
  pub handles : StartsHandling old.channels new.channels port
  pub waits : KeepsWaits old.channels new.channels
  pub opens : KeepsOpens old.channels new.channels

-- where a message comes to a port, the port's run has it; where it comes to an output, no run changes
abbrev pub ComesTo : HandlersState → ℕ → Arrived → HandlersState → Type 0
ComesTo old now (Port port) new = SetsRun old port (with_message now (run_at old port)) new
ComesTo old now (Output output) new = new.runs ≡ old.runs

-- the first of the messages that wait for a target comes there at a tick
pub record Comes (old : HandlersState) (now : ℕ) (target : Arrived) (new : HandlersState) : Type 0 where
  pub parts : new.parts ≡ old.parts
  pub vars : new.vars ≡ old.vars
  pub run : ComesTo old now target new
  pub delivers : Delivers old.channels new.channels now target

-- a job begins with the message that was placed at its port: its machine stands at the first instruction
pub record BeginsJob (old : HandlersState) (job : Job) (new : HandlersState) : Type 0 where
  pub message : List ℤ
  pub placed : placed_at old.channels (Port job.task) ≡ Some message
  pub parts : new.parts ≡ old.parts
  pub vars : new.vars ≡ old.vars
  pub channels : new.channels ≡ old.channels
  pub run : SetsRun old job.task (record (run_at old job.task) { stage = Begun; machine = begun (code_at old.parts job.task) message }) new
  pub free : IsFree (set_of old) (left_at old) job

-- what a tick leaves of a job's run and of the messages on their way: where it was the last, the job is closed
abbrev pub GoesOn : Stepped → Job → State → PortRun → ChannelState → PortRun → ChannelState → Type 0
GoesOn Going job machine run mid new channels = (new ≡ record run { machine = machine }) × (channels ≡ mid)
GoesOn Ended job machine run mid new channels = (new ≡ record run { stage = Idle; machine = machine }) × Closes mid channels job run.arrival

-- a tick of a job in its code
pub record TicksJob (code : Program) (job : Job) (run : PortRun) (vars : List ℤ) (channels : ChannelState) (new_run : PortRun) (new_vars : List ℤ) (new_channels : ChannelState) : Type 0 where
  pub tick : Tick
  pub defined : instruction_step code.instrs run.machine vars ≡ Some tick
  pub written : new_vars ≡ tick.vars
  pub mid : ChannelState
  pub sends : SendsAll channels job.task tick.sends mid
  pub goes : GoesOn tick.stepped job tick.machine run mid new_run new_channels

-- a job has a tick
pub record StepsJob (old : HandlersState) (job : Job) (new : HandlersState) : Type 0 where
  pub parts : new.parts ≡ old.parts
  pub run : SetsRun old job.task (run_at new job.task) new
  pub ticks : TicksJob (code_at old.parts job.task) job (run_at old job.task) old.vars old.channels (run_at new job.task) new.vars new.channels
