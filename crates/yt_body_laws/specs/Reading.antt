-- Which messages of a trace have been read, and put at the ports that their inputs feed.
use Rattle.std.specs.Prelude.{◌≡◌, ◌⊎◌, ℕ, suc, ◌<◌, ◌≤◌, List, length, slice_get, Some}
use Rattle.yt_graph.specs.Picture.{GraphTree, graph_tree}
use Rattle.yt_chan.specs.declared.target.Arrived.{Arrived}
use Rattle.yt_chan.specs.declared.target.Arrived.TheVariants.{Port}
use Rattle.yt_rates.specs.Acceptance.{Parts}
use Rattle.yt_trace.specs.declared.message.Message.{Message}
use Rattle.yt_trace.specs.Traces.{AreInTimeOrder}
use Rattle.yt_serial.specs.SerialHandling.{Serial}
use Rattle.yt_interleave.specs.Interleaved.{RunState, port_at}
use Rattle.yt_body.specs.Sound.{IsPortOf, IsSound, MayCome}
use Rattle.yt_body.specs.State.{HandlersState, graph_of}
use Rattle.yt_body.specs.Steps.{Puts}
use Rattle.yt_body_laws.specs.Placing.{AllPut, FeedsSome, HasPlaced, IsFedBy, IsPlacing, TraceIsFrom, with_tick_at}

-- between two ticks: the messages of the trace before place `taken` come before a tick, and the others don't. Messages that feed no port don't matter
pub record IsReadTo (g : GraphTree) (trace : List Message) (due taken : ℕ) : Type 0 where
  pub before : (k : ℕ) (x : Message) → slice_get trace k ≡ Some x → FeedsSome g x.input → k < taken → x.time < due
  pub from : (k : ℕ) (x : Message) → slice_get trace k ≡ Some x → FeedsSome g x.input → taken ≤ k → due ≤ x.time

-- the message at place `taken` of the trace, where there is one, comes at a tick or later
abbrev pub NextIsFrom : List Message → ℕ → ℕ → Type 0
NextIsFrom trace taken t = (x : Message) → slice_get trace taken ≡ Some x → t ≤ x.time

-- a port has been served with the message at a place of the trace: it is one before place `taken`, or the one there and the port's number is at most `upto`
abbrev pub IsServed : ℕ → ℕ → ℕ → ℕ → Type 0
IsServed taken upto k port = (k < taken) ⊎ ((k ≡ taken) × (port ≤ upto))

-- in the middle of placing what comes now: the messages of the trace before place `taken` have been put, each at all the ports that its input feeds, and the one at `taken` at those of them up to number `upto`
pub record HasPut (parts : Parts) (trace : List Message) (r : RunState) (due : Arrived → ℕ) (taken upto : ℕ) : Type 0 where
  -- what has been put comes now or came before, and the rest comes now or later
  pub past :
      (k port : ℕ) (x : Message) → slice_get trace k ≡ Some x → IsFedBy (graph_tree parts.graph) port x.input → IsServed taken upto k port → x.time ≤ length r.log
  pub rest :
      (k port : ℕ) (x : Message) → slice_get trace k ≡ Some x → IsFedBy (graph_tree parts.graph) port x.input → (IsServed taken upto k port → ⊥) → length r.log ≤ x.time
  -- at a port that an input feeds a message has come in this tick just where one that comes now has been put there
  pub come :
      (k port : ℕ) (x : Message) → slice_get trace k ≡ Some x → IsFedBy (graph_tree parts.graph) port x.input → IsServed taken upto k port → x.time ≡ length r.log →
      due (Port port) ≡ suc (length r.log)
  pub waits :
      (port input : ℕ) → IsFedBy (graph_tree parts.graph) port input →
      ((k : ℕ) (x : Message) → slice_get trace k ≡ Some x → x.input ≡ input → IsServed taken upto k port → x.time ≡ length r.log → ⊥) → due (Port port) ≡ length r.log

-- no port of a number above `after` is fed by an input
abbrev pub NoneIsFed : GraphTree → ℕ → ℕ → Type 0
NoneIsFed g input after = (port : ℕ) → after < port → IsFedBy g port input → ⊥

-- a port is the first of a number above `after` that an input feeds
pub record IsNextFed (g : GraphTree) (input after port : ℕ) : Type 0 where
  pub fed : IsFedBy g port input
  pub later : after < port
  pub first : (other : ℕ) → after < other → other < port → IsFedBy g other input → ⊥

-- the handlers take a message of an input at a port now
pub record MayPut (b : HandlersState) (port now : ℕ) (x : Message) : Type 0 where
  pub there : IsPortOf (graph_of b) port
  pub wide : length x.values ≡ (port_at (graph_of b) port).params
  pub may : MayCome b port now

-- the message at a place of the trace comes now, and a port is the next one to be served with it
pub record IsNextPut (parts : Parts) (trace : List Message) (s : Serial) (r : RunState) (due : Arrived → ℕ) (b : HandlersState) (taken upto port : ℕ) (x : Message) : Type 0 where
  pub placing : IsPlacing parts trace s r due b
  pub put : HasPut parts trace r due taken upto
  pub there : slice_get trace taken ≡ Some x
  pub now : x.time ≡ length r.log
  pub next : IsNextFed (graph_tree parts.graph) x.input upto port

-- how a trace is read
pub record BodiesRead : Type 0 where
  -- before the first tick none of its messages has come
  pub first : (g : GraphTree) (trace : List Message) → IsReadTo g trace 0 0
  -- a message that feeds no port is passed over
  pub skips :
      (g : GraphTree) (trace : List Message) (due taken : ℕ) → IsReadTo g trace due taken → (x : Message) → slice_get trace taken ≡ Some x → (FeedsSome g x.input → ⊥) →
      IsReadTo g trace due (suc taken)
  -- up to the tick of the next message no other one comes
  pub later :
      (g : GraphTree) (trace : List Message) → AreInTimeOrder trace → (due taken t : ℕ) → IsReadTo g trace due taken → due ≤ t → NextIsFrom trace taken t →
      IsReadTo g trace t taken × TraceIsFrom g trace due t
  -- at the start of a tick nothing has been put
  pub starts :
      (parts : Parts) (trace : List Message) (r : RunState) (taken : ℕ) → IsReadTo (graph_tree parts.graph) trace (length r.log) taken →
      HasPut parts trace r (λ target. length r.log) taken 0
  -- the next port that the message's input feeds can take it, and then has been served
  pub may_put :
      (parts : Parts) (trace : List Message) (s : Serial) (r : RunState) (due : Arrived → ℕ) (b : HandlersState) (taken upto port : ℕ) (x : Message) →
      IsNextPut parts trace s r due b taken upto port x → MayPut b port (length r.log) x
  pub puts :
      (parts : Parts) (trace : List Message) (s : Serial) (r : RunState) (due : Arrived → ℕ) (b : HandlersState) (taken upto port : ℕ) (x : Message) →
      IsNextPut parts trace s r due b taken upto port x → (new : HandlersState) → Puts b port x.values (length r.log) new → IsSound new →
      HasPlaced parts trace s r due (Port port) new × HasPut parts trace r (with_tick_at (Port port) (suc (length r.log)) due) taken port
  -- after the last one the message is done
  pub done :
      (parts : Parts) (trace : List Message) (r : RunState) (due : Arrived → ℕ) (taken upto : ℕ) → HasPut parts trace r due taken upto →
      (x : Message) → slice_get trace taken ≡ Some x → NoneIsFed (graph_tree parts.graph) x.input upto → HasPut parts trace r due (suc taken) 0
  -- where the next message comes later, all that come now have been put
  pub ends :
      (parts : Parts) (trace : List Message) (s : Serial) (r : RunState) (due : Arrived → ℕ) (b : HandlersState) → IsPlacing parts trace s r due b →
      (taken : ℕ) → HasPut parts trace r due taken 0 → NextIsFrom trace taken (suc (length r.log)) →
      AllPut parts r due × IsReadTo (graph_tree parts.graph) trace (suc (length r.log)) taken
  -- and stay so while more comes elsewhere
  pub stays : (parts : Parts) (r : RunState) (due : Arrived → ℕ) → AllPut parts r due → (target : Arrived) → AllPut parts r (with_tick_at target (suc (length r.log)) due)
