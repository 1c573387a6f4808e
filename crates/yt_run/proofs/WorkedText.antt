-- The text of a run of two ports, worked out by hand.
use Rattle.std.proofs.Common.{◌≡◌, ℕ, List, [], ◌∷◌, refl}
use Rattle.std.specs.Prelude.{ℤ, Option, Some, None, pos, negsuc, codes}
use Rattle.std.specs.Fmt.{digits}
use Rattle.yt_graph.specs.declared.port.Feed.TheVariants.{Input}
use Rattle.yt_graph.specs.Picture.{PortTree, GraphTree, empty}
use Rattle.yt_log.specs.declared.job.Job.{Job}
use Rattle.yt_log.specs.Plan.{same_job}
use Rattle.yt_log.specs.Segments.{ends_in, segments_below, with_run, with_tick}
use Rattle.yt_log.specs.Ticks.{Ticks, tick}
use Rattle.yt_serial.specs.declared.shown.OutLine.{OutLine}
use Rattle.yt_run.specs.RunText.{run_text}

abbrev port_go : List ℕ → PortTree
port_go process = record { process = process; name = codes "go"; feed = Input 1; group = 0; params = 1; locals = 1; outs = []; body = empty }

abbrev two_ports : GraphTree
two_ports = record {
  inputs = [];
  outputs = (record { name = codes "x"; port = 1; out = 1 }) ∷ (record { name = codes "y"; port = 2; out = 1 }) ∷ [];
  groups = [];
  vars = [];
  ports = port_go (codes "left") ∷ port_go (codes "right") ∷ [];
}

abbrev job : ℕ → ℕ → Option Job
job task number = Some (record { task = task; number = number })

-- two idle ticks, three of the first port's first job, two of the second port's seventh, and five idle ticks
abbrev log : Ticks
log = None ∷ None ∷ job 1 1 ∷ job 1 1 ∷ job 1 1 ∷ job 2 7 ∷ job 2 7 ∷ None ∷ None ∷ None ∷ None ∷ None ∷ []

abbrev line : ℕ → ℕ → List ℤ → OutLine
line time output values = record { time = time; output = output; values = values }

abbrev lines : List OutLine
lines = line 4 1 (pos 1 ∷ []) ∷ line 5 1 (negsuc 19 ∷ pos 300 ∷ []) ∷ line 5 2 [] ∷ line 12 2 (pos 0 ∷ []) ∷ []

two_ports_text : run_text two_ports log lines ≡ codes "out 4 x 1\nrun 2 5 left.go 1\nout 5 x -20 300\nout 5 y\nrun 5 7 right.go 7\nout 12 y 0\nend 12\n"
unfolding digits ends_in same_job segments_below tick with_run with_tick
two_ports_text = refl
