use Rattle.std.proofs.Common.{◌≡◌, length}
use Rattle.yt_code.specs.Ready.{IsReady}
use Rattle.yt_machine_tests.proofs.handlers.ticks_of.Given as goal

abbrev pub invariant-loop-n : goal.invariant-loop-n
invariant-loop-n g l = record {
  ready : IsReady l.code l.machine;
  vars : length l.vars ≡ l.code.vars;
}
