-- The definitions, computed on a graph that shows each message plus 1, with a period of 10, and one message of 7 at 0.
use Rattle.std.proofs.Common.{◌≡◌, [], ◌∷◌, List, length, Some, None, refl, sym, ap, ◌∙◌, arith}
use Rattle.std.specs.Prelude.{pos, codes, option_map}
use Rattle.std.specs.Int.{int_wrap}
use Rattle.std.specs.Option.{unwrap_or}
use Rattle.std.specs.Fmt.{digits}
use Rattle.yt_graph.specs.Cost.{greatest_cost}
use Rattle.yt_graph.specs.declared.expr.Op2.TheVariants.{Add}
use Rattle.yt_graph.specs.declared.port.Feed.TheVariants.{Input}
use Rattle.yt_graph.specs.Picture.{GraphTree, PortTree, BlockTree, more, empty, send, more_exprs, no_exprs, two, local, num}
use Rattle.yt_log.specs.declared.job.Job.{Job}
use Rattle.yt_log.specs.declared.plan.PlanItem.{PlanItem}
use Rattle.yt_log.specs.EdfDdm.{lowered, current_deadline, rank, waits, sooner, least, job_of, choice}
use Rattle.yt_order.specs.Words.{precedes}
use Rattle.yt_order.specs.Sorting.{sort_by}
use Rattle.yt_log.specs.Plan.{same_job, deadline_of, jobs_of}
use Rattle.yt_log.specs.Segments.{with_run, with_tick, ends_in, segments_below, job_at, ticks_of}
use Rattle.yt_log.specs.Tasks.{task_of}
use Rattle.yt_log.specs.Ticks.{Ticks, tick, names, done, first_tick}
use Rattle.yt_rates.specs.Tables.{tasks_of}
use Rattle.yt_serial.specs.declared.shown.OutLine.{OutLine}
use Rattle.yt_trace.specs.declared.message.Message.{Message}
use Rattle.yt_serial.specs.Beginnings.{newcomer, begun_below, order_of, busy_until}
use Rattle.yt_trace.specs.Traces.{PortMessage}
use Rattle.yt_list.specs.Numbered.{numbered}
use Rattle.yt_run.specs.RunText.{run_text, read_back}
use Rattle.yt_serial.specs.SerialHandling.{Handled, Serial, handled_of, handled_along, plan_of_log}
use Rattle.yt_serial.specs.Told.{line_before, latest, IsPromisedRun}

-- the handler sends its number and 1, added
abbrev adds_one : BlockTree
adds_one = more (send 1 (more_exprs (two Add (local 0) (num (pos 1))) no_exprs)) empty

abbrev port_a : PortTree
port_a = record {
  process = codes "p";
  name = codes "a";
  feed = Input 1;
  group = 0;
  params = 1;
  locals = 1;
  outs = record { name = codes "o"; width = 1; every = 1 } ∷ [];
  body = adds_one;
}

abbrev blink : GraphTree
blink = record {
  inputs = record { name = codes "tick"; width = 1; period = 10 } ∷ [];
  outputs = record { name = codes "led"; port = 1; out = 1 } ∷ [];
  groups = [];
  vars = [];
  ports = port_a ∷ [];
}

abbrev seven : List Message
seven = (record { time = 0; input = 1; values = pos 7 ∷ [] }) ∷ []

abbrev first_job : Job
first_job = record { task = 1; number = 1 }

abbrev log : Ticks
log = Some first_job ∷ Some first_job ∷ Some first_job ∷ Some first_job ∷ Some first_job ∷ None ∷ None ∷ None ∷ None ∷ None ∷ []

abbrev eight : List OutLine
eight = (record { time = 10; output = 1; values = pos 8 ∷ [] }) ∷ []

abbrev plan : List PlanItem
plan = (record { job = first_job; arrival = 0; cost = 5 }) ∷ []

costs : greatest_cost port_a ≡ 5
costs = refl

order : order_of log ≡ first_job ∷ []
unfolding begun_below newcomer done names same_job tick
order = refl

-- the message that came, and what was handled of it
abbrev came : List (List PortMessage)
came = ((record { time = 0; values = pos 7 ∷ [] }) ∷ []) ∷ []

abbrev was_handled : List Handled
was_handled = (record { item = record { job = first_job; arrival = 0; cost = 5 }; writes = [] }) ∷ []

handled : handled_along blink seven log ≡ Some (record { vars = []; messages = came; handled = was_handled; lines = eight })
unfolding begun_below newcomer done names same_job tick jobs_of int_wrap
handled = refl

planned : plan_of_log blink seven log ≡ plan
unfolding begun_below newcomer done names same_job tick jobs_of int_wrap
planned = refl

ends : busy_until log 10 ≡ 5
unfolding busy_until tick
ends = refl

due : deadline_of (tasks_of blink) (record { job = first_job; arrival = 0; cost = 5 }) ≡ 10
unfolding deadline_of task_of
due = refl

chosen_last : choice (tasks_of blink) plan log 4 ≡ Some first_job
unfolding choice job_of least sooner rank precedes waits current_deadline lowered done names same_job tick first_tick deadline_of task_of
chosen_last = refl

chosen_idle : choice (tasks_of blink) plan log 5 ≡ None
unfolding choice job_of least sooner rank precedes waits current_deadline lowered done names same_job tick first_tick deadline_of task_of
chosen_idle = refl

text : run_text blink log eight ≡ codes "run 0 5 p.a 1\nout 10 led 8\nend 10\n"
unfolding segments_below with_tick with_run ends_in same_job tick digits
text = refl

back : read_back blink (codes "run 0 5 p.a 1\nout 10 led 8\nend 10\n") ≡ record { log = log; lines = eight }
unfolding ticks_of job_at
back = refl

-- a job that pauses breaks the promise
paused : Ticks
paused = Some first_job ∷ Some first_job ∷ None ∷ Some first_job ∷ Some first_job ∷ Some first_job ∷ None ∷ None ∷ None ∷ None ∷ []

not_paused : IsPromisedRun blink seven paused eight → ⊥
unfolding paused choice job_of least sooner rank precedes waits current_deadline lowered done names same_job tick first_tick deadline_of task_of begun_below newcomer jobs_of int_wrap
not_paused run = let e = run.edf_ddm 2 (omega arith) in cc

-- a line that is shown when its job ends breaks it
early : List OutLine
early = (record { time = 5; output = 1; values = pos 8 ∷ [] }) ∷ []

not_early : IsPromisedRun blink seven log early → ⊥
unfolding early
not_early run =
    let both : Some eight ≡ Some run.tells.serial.lines = ap (option_map (λ (s : Serial). s.lines)) (sym handled ∙ run.tells.along) in
    let lines : eight ≡ run.tells.serial.lines = cc in
    let time : latest early ≡ latest eight = ap latest (run.tells.shown ∙ ap (sort_by line_before) (sym lines)) in
    cc

-- an end that comes with the last job, before the last line, breaks it
short : Ticks
short = Some first_job ∷ Some first_job ∷ Some first_job ∷ Some first_job ∷ Some first_job ∷ []

not_short : IsPromisedRun blink seven short eight → ⊥
unfolding short busy_until tick
not_short run = let e = run.tells.ends in cc

-- a run that handles nothing breaks it where there is a message
not_empty : IsPromisedRun blink seven [] [] → ⊥
unfolding begun_below jobs_of
not_empty run =
    let both : Some came ≡ Some run.tells.serial.messages = ap (option_map (λ (s : Serial). s.messages)) run.tells.along in
    let none : Some 0 ≡ Some (handled_of run.tells.serial 1) = ap (option_map (λ (s : Serial). handled_of s 1)) run.tells.along in
    let messages : came ≡ run.tells.serial.messages = cc in
    let all : handled_of run.tells.serial 1 ≡ length (unwrap_or (numbered run.tells.serial.messages 1) []) = run.tells.all 1 (omega arith) (omega arith) in
    let one : length (unwrap_or (numbered run.tells.serial.messages 1) []) ≡ 1 = ap (λ (ms : List (List PortMessage)). length (unwrap_or (numbered ms 1) [])) (sym messages) in
    cc
