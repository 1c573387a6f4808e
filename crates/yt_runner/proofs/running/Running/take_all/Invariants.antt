use Rattle.std.proofs.Common.{◌≡◌, ◌-◌, length}
use Rattle.yt_runner.specs.Inside.Going.{IsTaking}
use Rattle.yt_runner.specs.Inside.State.{IsSameRun}
use Rattle.yt_runner.proofs.running.Running.take_all.Given as goal

abbrev pub invariant-loop-self : goal.invariant-loop-self
invariant-loop-self l = record {
  same : IsSameRun l.fn.self l.self;
  clock : l.self.moment.clock ≡ l.fn.self.moment.clock;
  taking : IsTaking l.self;
}

abbrev pub decreases-loop-self : goal.decreases-loop-self
decreases-loop-self l = length l.self.trace - l.self.taken
