use Rattle.std.proofs.Common.{◌≡◌, replicate}
use Rattle.yt_body.specs.State.{no_run}
use Rattle.yt_body.proofs.starts.runs_of.Given as goal

abbrev pub invariant-loop-port : goal.invariant-loop-port
invariant-loop-port l = l.runs.items ≡ replicate l._port no_run
