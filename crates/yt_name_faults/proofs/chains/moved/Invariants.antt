use Rattle.std.proofs.Common.{◌≡◌, ◌++◌, map, drop}
use Rattle.yt_name_faults.specs.Paths.{step_back}
use Rattle.yt_name_faults.proofs.chains.moved.Given as goal

abbrev pub invariant-loop-port : goal.invariant-loop-port
invariant-loop-port l = l.all.items ++ map (step_back l.jump) (drop l.port-index l.at) ≡ map (step_back l.jump) l.at
