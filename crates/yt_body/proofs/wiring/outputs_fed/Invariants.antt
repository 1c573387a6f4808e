use Rattle.std.proofs.Common.{◌≡◌, ◌+◌, ◌++◌, drop}
use Rattle.yt_body.specs.Wiring.{numbers_where, outputs_fed, shows}
use Rattle.yt_body.proofs.wiring.outputs_fed.Given as goal

abbrev pub invariant-loop-place : goal.invariant-loop-place
invariant-loop-place l = l.numbers ++ numbers_where (shows l.port l.out) (l.place + 1) (drop l.place l.outputs) ≡ outputs_fed l.port l.out l.outputs
