-- Interleaved handling: several messages are handled at once, at most one of each port.
use Rattle.std.specs.Prelude.{◌≡◌, ℕ, ◌<◌, ◌≤◌, ◌==◌, ◌⊎◌, ℤ, pos, List, [], ◌∷◌, ◌++◌, map, length, replicate, slice_index_or, Option, Some, None, if◌then◌else◌}
use Rattle.std.specs.List.{Contains}
use Rattle.std.specs.Option.{unwrap_or}
use Rattle.yt_graph.specs.declared.port.Feed as feed
use Rattle.yt_graph.specs.declared.port.Feed.{Feed}
use Rattle.yt_graph.specs.Meaning.{Handling, handling}
use Rattle.yt_graph.specs.Picture.{GraphTree, PortTree}
use Rattle.yt_log.specs.declared.job.Job.{Job}
use Rattle.yt_log.specs.declared.plan.PlanItem.{PlanItem}
use Rattle.yt_log.specs.Tasks.{Has}
use Rattle.yt_log.specs.Ticks.{Ticks, tick, done, IsLawful}
use Rattle.yt_cost.specs.CodeAlone.{written_before}
use Rattle.yt_cost.specs.CodeVars.{port_vars}
use Rattle.yt_trace.specs.declared.message.Message.{Message}
use Rattle.yt_serial.specs.PortMessages.{PortMessage, passed}
use Rattle.yt_list.specs.Numbered.{numbered}
use Rattle.yt_serial.specs.SerialHandling.{Serial, messages_at, items_of, handled_of, start, brought, placed, serial_run}
use Rattle.yt_graph.specs.Labels.{no_port}
use Rattle.yt_serial.specs.Variables.{after_writes, writes_at, writes_of, variables_at}
use Rattle.yt_serial.specs.Beginnings.{nth_job}

-- a job that has begun and not ended: its message, and variables that are, where its handler uses them, those that serial handling has
-- before it. (Serial handling goes on by a whole job as the job begins; so these need not be the variables of the run.)
pub record ActiveJob : Type 0 where
  pub job : Job
  pub message : PortMessage
  pub vars : List ℤ

-- an interleaved run between two ticks: the log so far; the variables; for each port its active job, where it has one; and the messages of
-- each port and of each output that are known, which are those of the trace and those that ended jobs passed on. Of these the ones
-- whose time has come are placed, and the others wait. A message is known from the end of the job that sends it, long before it comes;
-- a job of one tick is active in no state
pub record RunState : Type 0 where
  pub log : Ticks
  pub vars : List ℤ
  pub active : ℕ → Option ActiveJob
  pub messages : List (List PortMessage)
  pub outputs : List (List PortMessage)

-- the port of a number
abbrev pub port_at : GraphTree → ℕ → PortTree
port_at g port = unwrap_or (numbered g.ports port) no_port

-- the resource of a port, 0 for none
abbrev pub group_at : GraphTree → ℕ → ℕ
group_at g port = (port_at g port).group

-- a port's handler names a variable
abbrev pub Uses : GraphTree → ℕ → ℕ → Type 0
Uses g port v = Contains (port_vars g (port_at g port)) v

-- the value of a variable
abbrev pub value_at : List ℤ → ℕ → ℤ
value_at vars v = slice_index_or vars v (pos 0)

-- what the job does from its beginning to its end
abbrev pub whole_of : GraphTree → ActiveJob → Handling
whole_of g b = handling g (port_at g b.job.task) b.message.values b.vars

-- its item in the plan
abbrev pub item_of : GraphTree → ActiveJob → PlanItem
item_of g b = record { job = b.job; arrival = b.message.time; cost = (whole_of g b).ticks }

-- the messages that it passes on through its outs
abbrev pub passes_of : GraphTree → ActiveJob → ℕ → List PortMessage
passes_of g b = passed g (port_at g b.job.task) b.job.number b.message.time (whole_of g b).sends

-- the known messages of a port
abbrev pub known_at : RunState → ℕ → List PortMessage
known_at r port = unwrap_or (numbered r.messages port) []

-- a function with another value at one number
abbrev pub put : {X : Type 0} → ℕ → X → (ℕ → X) → ℕ → X
put n x f m = if m == n then x else f m

-- what an active job will pass on through an out
abbrev pub passed_by : GraphTree → Option ActiveJob → ℕ → List PortMessage
passed_by g None out = []
passed_by g (Some b) out = passes_of g b out

-- what the active jobs will bring a feed
abbrev pub to_come : GraphTree → (ℕ → Option ActiveJob) → Feed → List PortMessage
to_come g active (feed.TheVariants.Input input) = []
to_come g active (feed.TheVariants.Out port out) = passed_by g (active port) out

-- each feed's messages, and behind them new ones
abbrev pub added : (Feed → List PortMessage) → List Feed → List (List PortMessage) → List (List PortMessage)
added brings [] messages = []
added brings (f ∷ feeds) [] = []
added brings (f ∷ feeds) (before ∷ messages) = (before ++ brings f) ∷ added brings feeds messages

-- where the outputs' messages come from
abbrev pub output_feeds : GraphTree → List Feed
output_feeds g = map (λ o. feed.TheVariants.Out o.port o.out) g.outputs

-- before the first tick the messages of the trace are known, and no others
abbrev pub first_state : GraphTree → List Message → RunState
first_state g trace = record {
  log = [];
  vars = (start g trace).vars;
  active = λ port. None;
  messages = (start g trace).messages;
  outputs = map (λ o. []) g.outputs;
}

-- a job begins with a message; `vars` are to be serial handling's variables before it
abbrev pub with_begun : Job → PortMessage → List ℤ → RunState → RunState
with_begun job message vars r =
    record r { active = put job.task (Some (record { job = job; message = message; vars = vars })) r.active }

-- an active job is given a tick: its writes of that tick are made
abbrev pub with_tick : GraphTree → ActiveJob → RunState → RunState
with_tick g b r = record r {
  log = r.log ++ Some b.job ∷ [];
  vars = after_writes (writes_at (done r.log b.job (length r.log)) (whole_of g b).writes) r.vars;
}

-- an idle tick
abbrev pub with_idle : RunState → RunState
with_idle r = record r { log = r.log ++ None ∷ [] }

-- so many idle ticks
abbrev pub with_idles : ℕ → RunState → RunState
with_idles count r = record r { log = r.log ++ replicate count None }

-- a job has ended: its messages get their times, and wait from now on
abbrev pub with_end : GraphTree → ActiveJob → RunState → RunState
with_end g b r = record r {
  active = put b.job.task None r.active;
  messages = placed (brought b.job.task (passes_of g b)) g.ports r.messages;
  outputs = added (brought b.job.task (passes_of g b)) (output_feeds g) r.outputs;
}

-- a port's active job: it is the port's last that began, and its message has come
pub record IsActiveJob (g : GraphTree) (s : Serial) (log : Ticks) (vars : List ℤ) (port : ℕ) (b : ActiveJob) : Type 0 where
  pub task : b.job.task ≡ port
  pub number : b.job.number ≡ handled_of s port
  pub there : numbered (messages_at s port) b.job.number ≡ Some b.message
  pub arrived : b.message.time ≤ length log
  pub item : Has (items_of s) (item_of g b)
  pub writes : writes_of s.handled b.job ≡ (whole_of g b).writes
  pub left : done log b.job (length log) ≤ (whole_of g b).ticks
  -- its variables are what its writes so far make of those at its beginning, and serial handling has them as they will be at its end
  pub count : length b.vars ≡ length vars
  pub now : (v : ℕ) → Uses g port v → value_at vars v ≡ value_at (written_before (done log b.job (length log)) (whole_of g b).writes b.vars) v
  pub later : (v : ℕ) → Uses g port v → value_at s.vars v ≡ value_at (whole_of g b).vars v

-- a port's active job uses a variable
abbrev pub IsInUse : GraphTree → (ℕ → Option ActiveJob) → ℕ → Type 0
IsInUse g active v = (port : ℕ) × (b : ActiveJob) × (active port ≡ Some b) × Uses g port v

-- an item of serial handling is of an active job, or of one that has ended
abbrev pub IsEndedOrActive : GraphTree → Ticks → (ℕ → Option ActiveJob) → PlanItem → Type 0
IsEndedOrActive g log active z =
    ((b : ActiveJob) × (active z.job.task ≡ Some b) × (z ≡ item_of g b)) ⊎ (done log z.job (length log) ≡ z.cost)

-- no job of a port has a tick before all earlier ones of the port have begun
abbrev pub BeginInTurn : Ticks → Type 0
BeginInTurn log = (t : ℕ) (job : Job) → tick log t ≡ Some job → (k : ℕ) → 1 ≤ k → k < job.number → 0 < done log (nth_job job.task k) t

-- the interleaved run matches serial handling along the jobs that have begun, in this order: what serial handling has already, since it
-- handles each of these jobs whole, the run has or is about to have
pub record MatchesSerial (g : GraphTree) (trace : List Message) (order : List Job) (s : Serial) (r : RunState) : Type 0 where
  pub along : serial_run g order (start g trace) ≡ Some s
  pub under_way : (port : ℕ) (b : ActiveJob) → r.active port ≡ Some b → IsActiveJob g s r.log r.vars port b
  pub exclusive : (p q : ℕ) (b c : ActiveJob) → r.active p ≡ Some b → r.active q ≡ Some c → (p ≡ q → ⊥) → 0 < group_at g p → group_at g p ≡ group_at g q → ⊥
  pub known : (port : ℕ) (b : ActiveJob) → r.active port ≡ Some b → numbered (known_at r port) b.job.number ≡ Some b.message
  -- the messages of serial handling are the known ones and those that the active jobs will pass on
  pub long : length r.messages ≡ length g.ports
  pub messages : s.messages ≡ placed (to_come g r.active) g.ports r.messages
  -- variables that no active job uses are those of serial handling, and all are what the ticks so far have written
  pub count : length r.vars ≡ length s.vars
  pub others : (v : ℕ) → (value_at r.vars v ≡ value_at s.vars v) ⊎ IsInUse g r.active v
  pub written : r.vars ≡ variables_at (start g trace).vars s.handled r.log (length r.log)
  -- the log's jobs are those of serial handling, one item each
  pub lawful : IsLawful (items_of s) r.log
  pub named : (job : Job) → 0 < done r.log job (length r.log) → (z : PlanItem) × (Has (items_of s) z) × (z.job ≡ job)
  pub ended : (z : PlanItem) → Has (items_of s) z → IsEndedOrActive g r.log r.active z
  pub one : (a b : PlanItem) → Has (items_of s) a → Has (items_of s) b → a.job ≡ b.job → a ≡ b
  pub all : (port k : ℕ) → 1 ≤ k → k ≤ handled_of s port → (z : PlanItem) × (Has (items_of s) z) × (z.job ≡ nth_job port k) × (1 ≤ z.cost)
  pub in_turn : BeginInTurn r.log
