-- How many jobs and output lines a run comes to at most.
use Rattle.std.specs.Prelude.{ℕ, ◌+◌, List}
use Rattle.std.specs.List.{sum_by}
use Rattle.std.specs.Option.{option_map, unwrap_or}
use Rattle.yt_graph.specs.declared.graph.Output.{Output}
use Rattle.yt_graph.specs.Picture.{GraphTree}
use Rattle.yt_list.specs.Numbered.{numbered}
use Rattle.yt_serial.specs.Bounds.{greatest_passed, most_messages}
use Rattle.yt_trace.specs.declared.message.Message.{Message}

-- the most messages that an output shows: those that its out passes on for the most messages at the out's port
abbrev pub most_shown : GraphTree → List Message → Output → ℕ
most_shown g trace o = unwrap_or (option_map (λ p. greatest_passed p o.out (most_messages g trace p)) (numbered g.ports o.port)) 0

-- the most jobs of all ports: each handles a message
abbrev pub most_jobs : GraphTree → List Message → ℕ
most_jobs g trace = sum_by (most_messages g trace) g.ports

-- the most lines of all outputs
abbrev pub most_lines : GraphTree → List Message → ℕ
most_lines g trace = sum_by (most_shown g trace) g.outputs

-- the bound of a run: its jobs and its lines
abbrev pub job_bound : GraphTree → List Message → ℕ
job_bound g trace = most_jobs g trace + most_lines g trace
