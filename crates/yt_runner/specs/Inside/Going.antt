-- How a run goes on: what holds between its ticks, and in the middle of placing what comes at one.
use Rattle.std.specs.Prelude.{◌≡◌, ◌⊎◌, ℕ, zero, suc, ◌+◌, ◌<◌, ◌≤◌, Bool, true, false, List, ◌++◌, length, slice_get, Some}
use Rattle.yt_log.specs.declared.plan.PlanItem.{PlanItem}
use Rattle.yt_log.specs.Limits.{most_deadline}
use Rattle.yt_chan.specs.declared.target.Arrived.{Arrived}
use Rattle.yt_chan.specs.declared.target.Arrived.TheVariants.{Port, Output}
use Rattle.yt_chan.specs.Pending.{Pending}
use Rattle.yt_chan.specs.State.{ChannelState, NoneIsLate, Waits, waits_at}
use Rattle.yt_trace.specs.declared.message.Message.{Message}
use Rattle.yt_serial.specs.declared.shown.OutLine.{OutLine}
use Rattle.yt_serial.specs.SerialHandling.{Serial}
use Rattle.yt_serial.specs.Told.{IsPromisedRun}
use Rattle.yt_interleave.specs.Interleaved.{RunState}
use Rattle.yt_bound.specs.Bounds.{most_jobs}
use Rattle.yt_body.specs.Sound.{IsSound}
use Rattle.yt_body.specs.State.{HandlersState}
use Rattle.yt_body.specs.Steps.{Comes}
use Rattle.yt_body_laws.specs.Placing.{AllPut, FeedsSome, IsFedBy}
use Rattle.yt_body_laws.specs.Reading.{HasPut, IsReadTo, NextIsFrom}
use Rattle.yt_body_laws.specs.Running.{HasCause, IsInStep, IsTelling}
use Rattle.yt_runner.specs.Inside.Room.{HasRoom}
use Rattle.yt_runner.specs.Inside.State.{RunnerState, graph_of}

-- between two ticks, on the way to a tick: all stands for one run, which has come to its tick for a cause, or has reached `upto`
pub record IsGoing (upto : ℕ) (state : RunnerState) : Type 0 where
  pub serial : Serial
  pub run : RunState
  pub plan : List PlanItem
  pub in_step : IsInStep state.parts state.trace serial run plan state.lines (length run.log) state.body state.moment
  pub read : IsReadTo (graph_of state) state.trace (length run.log) state.taken
  pub log : state.log ≡ run.log
  pub clock : state.moment.clock ≡ length run.log
  pub room : HasRoom (most_jobs (graph_of state) state.trace) state.moment
  pub early : length run.log ≤ most_deadline
  pub to : length run.log ≤ upto
  pub cause : HasCause run ⊎ (upto ≤ length run.log)

-- in the middle of placing what comes at a tick: some of it has come, is released and told
pub record IsMidTick (state : RunnerState) : Type 0 where
  pub serial : Serial
  pub run : RunState
  pub plan : List PlanItem
  pub lines : List OutLine
  pub due : Arrived → ℕ
  pub new : List PlanItem
  pub more : List OutLine
  pub telling : IsTelling state.parts state.trace serial run plan lines due state.body state.moment new more
  pub told : state.lines ≡ lines ++ more
  pub log : state.log ≡ run.log
  pub clock : state.moment.clock ≡ length run.log
  pub room : HasRoom (most_jobs (graph_of state) state.trace) state.moment
  pub early : length run.log ≤ most_deadline
  pub cause : HasCause run

-- the messages of the trace before place `taken` are put, each at all ports that its input feeds
pub record IsTaking (state : RunnerState) : Type 0 where
  pub mid : IsMidTick state
  pub put : HasPut state.parts state.trace mid.run mid.due state.taken 0

-- the message at place `taken` comes now, and is put at the ports up to number `port` that its input feeds
pub record IsServing (state : RunnerState) (message : Message) (port : ℕ) : Type 0 where
  pub mid : IsMidTick state
  pub last : ℕ
  pub put : HasPut state.parts state.trace mid.run mid.due state.taken last
  pub within : last ≤ port
  pub none : (other : ℕ) → last < other → other ≤ port → IsFedBy (graph_of state) other message.input → ⊥
  pub there : slice_get state.trace state.taken ≡ Some message
  pub past : message.time ≤ state.moment.clock

-- all messages of the trace that come now are put, and what waits is still to come
pub record IsDelivering (state : RunnerState) : Type 0 where
  pub mid : IsMidTick state
  pub all : AllPut state.parts mid.run mid.due
  pub read : IsReadTo (graph_of state) state.trace (suc (length mid.run.log)) state.taken

-- a message that waited has come to a target, and isn't told yet
pub record HasCome (state : RunnerState) (target : Arrived) : Type 0 where
  pub before : HandlersState
  pub delivering : IsDelivering (record state { body = before })
  pub comes : Comes before state.moment.clock target state.body
  pub sound : IsSound state.body

-- all that comes now has come, is released and told
pub record IsPlacedNow (state : RunnerState) : Type 0 where
  pub serial : Serial
  pub run : RunState
  pub plan : List PlanItem
  pub in_step : IsInStep state.parts state.trace serial run plan state.lines (suc (length run.log)) state.body state.moment
  pub read : IsReadTo (graph_of state) state.trace (suc (length run.log)) state.taken
  pub log : state.log ≡ run.log
  pub clock : state.moment.clock ≡ length run.log
  pub room : HasRoom (most_jobs (graph_of state) state.trace) state.moment
  pub early : length run.log ≤ most_deadline
  pub cause : HasCause run

-- the run is over before it comes past `upto`
pub record IsOver (upto : ℕ) (state : RunnerState) : Type 0 where
  pub serial : Serial
  pub run : RunState
  pub plan : List PlanItem
  pub in_step : IsInStep state.parts state.trace serial run plan state.lines (suc (length run.log)) state.body state.moment
  pub log : state.log ≡ run.log
  pub clock : state.moment.clock ≡ length run.log
  pub to : length run.log ≤ upto
  pub promised : IsPromisedRun (graph_of state) state.trace run.log state.lines

-- what comes of a round: the run goes on and has come further, or it is over
abbrev pub GoesRound : ℕ → RunnerState → RunnerState → Bool → Type 0
GoesRound upto old new true = IsGoing upto new × (old.moment.clock < new.moment.clock)
GoesRound upto old new false = IsOver upto new

-- the run has come to tick `upto`, or is over before it
abbrev pub HasReached : ℕ → RunnerState → Type 0
HasReached upto state = (IsGoing upto state × (upto ≤ state.moment.clock)) ⊎ IsOver upto state

-- whether the next message of the trace comes now
abbrev pub IsNow : RunnerState → Bool → Type 0
IsNow state true = (x : Message) × (slice_get state.trace state.taken ≡ Some x) × (x.time ≤ state.moment.clock)
IsNow state false = NextIsFrom state.trace state.taken (suc state.moment.clock)

-- how many messages wait for the targets of numbers below `n`
abbrev pub waiting_below : ChannelState → ℕ → ℕ
waiting_below channels zero = 0
waiting_below channels (suc n) = waiting_below channels n + length (waits_at channels (Port n)) + length (waits_at channels (Output n))

-- how many messages wait for ports and outputs
abbrev pub waiting_in : RunnerState → ℕ
waiting_in state = waiting_below state.body.channels (suc (length (graph_of state).ports + length (graph_of state).outputs))

-- what comes of a delivery: one message fewer waits, or none is left that comes now
abbrev pub HasDelivered : RunnerState → RunnerState → Bool → Type 0
HasDelivered old new true = IsDelivering new × (waiting_in new < waiting_in old)
HasDelivered old new false = IsPlacedNow new

-- the next message of the trace, where there is one, feeds a port
abbrev pub NextFeeds : RunnerState → Type 0
NextFeeds state = (x : Message) → slice_get state.trace state.taken ≡ Some x → FeedsSome (graph_of state) x.input

-- at a tick a message that waits is due, or the next one of the trace comes
abbrev pub IsNextTime : RunnerState → ℕ → Type 0
IsNextTime state time =
    ((m : Pending) × Waits state.body.channels m × (m.time ≡ time))
    ⊎ ((x : Message) × (slice_get state.trace state.taken ≡ Some x) × (x.time ≡ time))

-- nothing comes before a tick, and something at it
pub record IsNextTick (state : RunnerState) (time : ℕ) : Type 0 where
  pub trace : NextIsFrom state.trace state.taken time
  pub waits : NoneIsLate state.body.channels time
  pub comes : IsNextTime state time

-- no message waits, and all of the trace is taken
pub record NoneIsLeft (state : RunnerState) : Type 0 where
  pub read : length state.trace ≤ state.taken
  pub waits : (m : Pending) → Waits state.body.channels m → ⊥
