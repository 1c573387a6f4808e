-- Serial handling, computed: three ports in a chain, an out that passes every second job's three messages, and two handlers that write one variable in turn.
use Rattle.std.proofs.Common.{◌≡◌, ℕ, List, [], ◌∷◌, ◌++◌, Option, None, Some, refl, map}
use Rattle.std.specs.Prelude.{ℤ, pos, codes, replicate, option_map}
use Rattle.std.specs.Int.{int_wrap}
use Rattle.yt_graph.specs.declared.expr.Op2.TheVariants.{Add, Mul}
use Rattle.yt_graph.specs.declared.graph.Input.{Input}
use Rattle.yt_graph.specs.declared.port.Feed as feed
use Rattle.yt_graph.specs.declared.port.Feed.{Feed}
use Rattle.yt_graph.specs.declared.port.OutHead.{OutHead}
use Rattle.yt_graph.specs.Picture.{ExprTree, num, local, var, two, no_exprs, more_exprs, StmtTree, set_local, set_var, send, BlockTree, empty, more, PortTree, GraphTree}
use Rattle.yt_log.specs.declared.job.Job.{Job}
use Rattle.yt_log.specs.declared.plan.PlanItem.{PlanItem}
use Rattle.yt_log.specs.Plan.{same_job, jobs_of}
use Rattle.yt_log.specs.Ticks.{Ticks, tick, names, done}
use Rattle.yt_serial.specs.declared.shown.OutLine.{OutLine}
use Rattle.yt_trace.specs.declared.message.Message.{Message}
use Rattle.yt_serial.specs.Bounds.{greatest_passed, most_messages}
use Rattle.yt_serial.specs.Beginnings.{newcomer, begun_below, order_of}
use Rattle.yt_trace.specs.Traces.{PortMessage}
use Rattle.yt_serial.specs.Variables.{variables_at, writes_below, writes_in, writes_of}
use Rattle.yt_serial.specs.SerialHandling.{Serial, start, serial_run, handled_along, plan_of_log}

abbrev job : ℕ → ℕ → Job
job task number = record { task = task; number = number }

abbrev item : ℕ → ℕ → ℕ → ℕ → PlanItem
item task number arrival cost = record { job = job task number; arrival = arrival; cost = cost }

abbrev message : ℕ → ℕ → List ℤ → Message
message time input values = record { time = time; input = input; values = values }

abbrev at : ℕ → List ℤ → PortMessage
at time values = record { time = time; values = values }

abbrev line : ℕ → ℕ → List ℤ → OutLine
line time output values = record { time = time; output = output; values = values }

abbrev input : List ℕ → ℕ → ℕ → Input
input name width period = record { name = name; width = width; period = period }

-- an out of one number
abbrev out : ℕ → OutHead
out every = record { name = codes "o"; width = 1; every = every }

abbrev port : List ℕ → Feed → ℕ → ℕ → List OutHead → BlockTree → PortTree
port process feed group params outs body =
    record { process = process; name = codes "a"; feed = feed; group = group; params = params; locals = 2; outs = outs; body = body }

abbrev sends : ExprTree → StmtTree
sends e = send 1 (more_exprs e no_exprs)

-- `send o (1)` by the first port, whose messages the third passes on with 1 added to the second, which shows them
abbrev relay : GraphTree
relay = record {
  inputs = input (codes "go") 0 100 ∷ [];
  outputs = (record { name = codes "done"; port = 2; out = 1 }) ∷ [];
  groups = [];
  vars = [];
  ports =
      port (codes "p") (feed.TheVariants.Input 1) 0 0 (out 1 ∷ []) (more (sends (num (pos 1))) empty)
      ∷ port (codes "p") (feed.TheVariants.Out 3 1) 0 1 (out 1 ∷ []) (more (sends (local 0)) empty)
      ∷ port (codes "q") (feed.TheVariants.Out 1 1) 0 1 (out 1 ∷ []) (more (sends (two Add (local 0) (num (pos 1)))) empty)
      ∷ [];
}

abbrev go : List Message
go = message 0 1 [] ∷ []

-- each port handles its message a period after the port before
relay_run : serial_run relay (job 1 1 ∷ job 3 1 ∷ job 2 1 ∷ []) (start relay go) ≡ Some (record {
  vars = [];
  messages = (at 0 [] ∷ []) ∷ (at 200 (pos 2 ∷ []) ∷ []) ∷ (at 100 (pos 1 ∷ []) ∷ []) ∷ [];
  handled = (record { item = item 1 1 0 3; writes = [] }) ∷ (record { item = item 3 1 100 5; writes = [] }) ∷ (record { item = item 2 1 200 3; writes = [] }) ∷ [];
  lines = line 300 1 (pos 2 ∷ []) ∷ [];
})
unfolding jobs_of int_wrap
relay_run = refl

-- no job has a step before its message was sent, before an earlier one of its port, or where there is no port
too_early : serial_run relay (job 1 1 ∷ job 2 1 ∷ []) (start relay go) ≡ None
unfolding jobs_of int_wrap
too_early = refl

no_first : serial_run relay (job 1 2 ∷ []) (start relay go) ≡ None
unfolding jobs_of
no_first = refl

handled_twice : serial_run relay (job 1 1 ∷ job 1 1 ∷ []) (start relay go) ≡ None
unfolding jobs_of
handled_twice = refl

no_message : serial_run relay (job 1 1 ∷ job 1 2 ∷ []) (start relay go) ≡ None
unfolding jobs_of
no_message = refl

no_such_port : (serial_run relay (job 0 1 ∷ []) (start relay go) ≡ None) × (serial_run relay (job 4 1 ∷ []) (start relay go) ≡ None)
unfolding jobs_of
no_such_port = (refl, refl)

-- three messages of each job on an out that passes those of every second job, or of each
abbrev triple : ℕ → GraphTree
triple every = record {
  inputs = input (codes "tick") 1 10 ∷ [];
  outputs = (record { name = codes "led"; port = 1; out = 1 }) ∷ [];
  groups = [];
  vars = [];
  ports = port (codes "p") (feed.TheVariants.Input 1) 0 1 (out every ∷ []) (more (sends (num (pos 1))) (more (sends (num (pos 2))) (more (sends (num (pos 3))) empty))) ∷ [];
}

abbrev ticks : List Message
ticks = message 0 1 (pos 7 ∷ []) ∷ message 10 1 (pos 7 ∷ []) ∷ []

abbrev lines_shown : GraphTree → Option (List OutLine)
lines_shown g = option_map (λ (s : Serial). s.lines) (serial_run g (job 1 1 ∷ job 1 2 ∷ []) (start g ticks))

every_second : lines_shown (triple 2) ≡ Some (line 20 1 (pos 1 ∷ []) ∷ line 26 1 (pos 2 ∷ []) ∷ line 32 1 (pos 3 ∷ []) ∷ [])
unfolding jobs_of
every_second = refl

each : lines_shown (triple 1)
    ≡ Some (line 10 1 (pos 1 ∷ []) ∷ line 13 1 (pos 2 ∷ []) ∷ line 16 1 (pos 3 ∷ []) ∷ line 20 1 (pos 1 ∷ []) ∷ line 23 1 (pos 2 ∷ []) ∷ line 26 1 (pos 3 ∷ []) ∷ [])
unfolding jobs_of
each = refl

-- `s = s * 2` by the first port and `s = s + 1 send o (s)` by the second, in one process; the third stands apart
abbrev counter : GraphTree
counter = record {
  inputs = input (codes "a") 0 100 ∷ input (codes "b") 0 20 ∷ input (codes "c") 1 30 ∷ [];
  outputs = (record { name = codes "y"; port = 2; out = 1 }) ∷ [];
  groups = codes "p" ∷ [];
  vars = (record { process = codes "p"; name = codes "s"; start = pos 1 }) ∷ [];
  ports =
      port (codes "p") (feed.TheVariants.Input 1) 1 0 [] (more (set_var 0 (two Mul (var 0) (num (pos 2)))) empty)
      ∷ port (codes "p") (feed.TheVariants.Input 2) 1 0 (out 1 ∷ []) (more (set_var 0 (two Add (var 0) (num (pos 1)))) (more (sends (var 0)) empty))
      ∷ port (codes "q") (feed.TheVariants.Input 3) 0 1 [] (more (set_local 1 (two Add (local 0) (num (pos 1)))) empty)
      ∷ [];
}

abbrev arrivals : List Message
arrivals = message 0 1 [] ∷ message 0 3 (pos 1 ∷ []) ∷ message 3 2 [] ∷ []

-- the first port's job arrives before the second's and begins after it
abbrev log : Ticks
log = replicate 3 (Some (job 3 1)) ++ replicate 7 (Some (job 2 1)) ++ replicate 2 (Some (job 3 1)) ++ replicate 5 (Some (job 1 1)) ++ replicate 6 None

begun : order_of log ≡ job 3 1 ∷ job 2 1 ∷ job 1 1 ∷ []
unfolding begun_below newcomer done names same_job tick
begun = refl

-- variables are written in the order in which the jobs begin
written_in_turn : handled_along counter arrivals log ≡ Some (record {
  vars = pos 4 ∷ [];
  messages = (at 0 [] ∷ []) ∷ (at 3 [] ∷ []) ∷ (at 0 (pos 1 ∷ []) ∷ []) ∷ [];
  handled =
      (record { item = item 3 1 0 5; writes = [] })
      ∷ (record { item = item 2 1 3 7; writes = (record { offset = 3; variable = 0; value = pos 2 }) ∷ [] })
      ∷ (record { item = item 1 1 0 5; writes = (record { offset = 3; variable = 0; value = pos 4 }) ∷ [] })
      ∷ [];
  lines = line 23 1 (pos 2 ∷ []) ∷ [];
})
unfolding begun_below newcomer done names same_job tick jobs_of int_wrap
written_in_turn = refl

-- along the order of arrival another number is shown
by_arrival : option_map (λ (s : Serial). s.lines) (serial_run counter (job 1 1 ∷ job 3 1 ∷ job 2 1 ∷ []) (start counter arrivals)) ≡ Some (line 23 1 (pos 3 ∷ []) ∷ [])
unfolding jobs_of int_wrap
by_arrival = refl

-- the plan is in order of arrival and then of task
planned : plan_of_log counter arrivals log ≡ item 1 1 0 5 ∷ item 3 1 0 5 ∷ item 2 1 3 7 ∷ []
unfolding begun_below newcomer done names same_job tick jobs_of int_wrap
planned = refl

-- a message of the input is one at each port of the relay
bounded_relay : map (most_messages relay go) relay.ports ≡ 1 ∷ 1 ∷ 1 ∷ []
bounded_relay = refl

-- of two messages the second passes, with three sends; and without `every` both do
bounded_triple : (map (λ (p : PortTree). greatest_passed p 1 (most_messages (triple 2) ticks p)) (triple 2).ports ≡ 3 ∷ [])
    × (map (λ (p : PortTree). greatest_passed p 1 (most_messages (triple 1) ticks p)) (triple 1).ports ≡ 6 ∷ [])
bounded_triple = (refl, refl)

-- the variable of the counter at some ticks: it is written in the fourth tick of each of two jobs
abbrev counted : ℕ → Option (List ℤ)
counted t = option_map (λ (s : Serial). variables_at (pos 1 ∷ []) s.handled log t) (handled_along counter arrivals log)

variables_in_turn : (counted 0 ≡ Some (pos 1 ∷ [])) × (counted 6 ≡ Some (pos 1 ∷ [])) × (counted 7 ≡ Some (pos 2 ∷ [])) × (counted 15 ≡ Some (pos 2 ∷ [])) × (counted 16 ≡ Some (pos 4 ∷ [])) × (counted 30 ≡ Some (pos 4 ∷ []))
unfolding begun_below newcomer done names same_job tick jobs_of int_wrap writes_below writes_in writes_of
variables_in_turn = (refl, refl, refl, refl, refl, refl)
