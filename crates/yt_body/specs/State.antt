-- What the handlers of a graph are: their runs, the variables, and the messages on their way.
use Rattle.std.specs.Prelude.{◌≡◌, ℕ, ◌==◌, ◌&&◌, ℤ, Bool, true, false, List, [], map, slice_index_or, if◌then◌else◌}
use Rattle.yt_list.specs.Numbered.{numbered_or}
use Rattle.yt_graph.specs.Limits.{most_cost}
use Rattle.yt_graph.specs.Picture.{GraphTree, graph_tree}
use Rattle.yt_code.specs.Ready.{idle}
use Rattle.yt_code.specs.Step.{State}
use Rattle.yt_code.specs.Valid.{Program}
use Rattle.yt_cost.specs.Codes.{PortCode}
use Rattle.yt_rates.specs.Acceptance.{Parts}
use Rattle.yt_rates.specs.Tables.{tasks_of}
use Rattle.yt_set.specs.declared.task.Task.{Task}
use Rattle.yt_log.specs.declared.job.Job.{Job}
use Rattle.yt_chan.specs.Changes.{IsInitial}
use Rattle.yt_chan.specs.State.{ChannelState}
use Rattle.yt_interleave.specs.Machines.{ticks_left}
use Rattle.yt_body.specs.declared.port_run.PortRun.{PortRun}
use Rattle.yt_body.specs.declared.port_run.PortStage.{PortStage}
use Rattle.yt_body.specs.declared.port_run.PortStage.TheVariants.{Idle, Placed, Begun}
use Rattle.yt_body.specs.Wiring.{widths_of, wires_of}

-- the accepted graph; by the numbers of the ports, where number 0 stands for none, the run of each; the variables; and the messages on their way
pub record HandlersState : Type 0 where
  pub parts : Parts
  pub runs : List PortRun
  pub vars : List ℤ
  pub channels : ChannelState

-- the graph of handlers, and its tasks
abbrev pub graph_of : HandlersState → GraphTree
graph_of s = graph_tree s.parts.graph

abbrev pub set_of : HandlersState → List Task
set_of s = tasks_of (graph_of s)

-- the run of a port to which no message came
abbrev pub no_run : PortRun
no_run = record { stage = Idle; number = 0; arrival = 0; machine = idle }

-- the run of a port
abbrev pub run_at : HandlersState → ℕ → PortRun
run_at s port = slice_index_or s.runs port no_run

-- what is kept of a port that isn't there
abbrev pub no_code : PortCode
no_code = record { code = record { instrs = []; params = 0; locals = 0; vars = 0 }; cost = 0; sends = [] }

-- the code of a port's handler
abbrev pub code_at : Parts → ℕ → Program
code_at parts port = (numbered_or parts.codes port no_code).code

-- the ticks that are left of a machine in this code, at most as many as a handler may cost
unfoldable pub machine_left : Program → State → List ℤ → ℕ
machine_left code machine vars = ticks_left code.instrs most_cost machine vars

abbrev pub is_begun : PortStage → Bool
is_begun Begun = true
is_begun Placed = false
is_begun Idle = false

-- whether a port's run is that of its job of a number, which has begun and not ended
abbrev pub is_active : PortRun → ℕ → Bool
is_active run number = is_begun run.stage && run.number == number

-- how many ticks are left of a job: those of its machine where it has begun and not ended, and else 0
abbrev pub left_at : HandlersState → Job → ℕ
left_at s job =
    if is_active (run_at s job.task) job.number then machine_left (code_at s.parts job.task) (run_at s job.task).machine s.vars else 0

-- a job may begin whose message was placed last at its port and has not begun to be handled
pub record MayBegin (s : HandlersState) (job : Job) : Type 0 where
  pub stage : (run_at s job.task).stage ≡ Placed
  pub number : (run_at s job.task).number ≡ job.number

-- before the first message
pub record IsStart (parts : Parts) (s : HandlersState) : Type 0 where
  pub graph : s.parts ≡ parts
  pub idle : (port : ℕ) → run_at s port ≡ no_run
  pub values : s.vars ≡ map (λ v. v.start) (graph_of s).vars
  pub initial : IsInitial (widths_of (graph_of s)) (wires_of (graph_of s)) s.channels
