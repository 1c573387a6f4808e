use Rattle.std.proofs.Common.{◌-◌}
use Rattle.yt_runner.specs.Inside.Going.{IsGoing}
use Rattle.yt_runner.specs.Inside.State.{IsSameRun}
use Rattle.yt_runner.proofs.running.Running.go_on.Given as goal

abbrev pub invariant-loop-alloc : goal.invariant-loop-alloc
invariant-loop-alloc l = record {
  same : IsSameRun l.fn.self l.self;
  going : IsGoing l.upto l.self;
}

abbrev pub decreases-loop-alloc : goal.decreases-loop-alloc
decreases-loop-alloc l = l.upto - l.self.moment.clock
