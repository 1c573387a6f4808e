use Rattle.std.proofs.Common.{◌≡◌, ◌++◌, drop}
use Rattle.yt_handler_tests.proofs.machines.Sent.kept.Given as goal

abbrev pub invariant-loop-value : goal.invariant-loop-value
invariant-loop-value g l = l.all.items ++ drop l.value-index l.values ≡ l.values
