use Rattle.std.proofs.Common.{◌≡◌, ◌-◌, length}
use Rattle.yt_runner.specs.Inside.Going.{IsPlacedNow}
use Rattle.yt_runner.specs.Inside.State.{IsSameRun}
use Rattle.yt_runner.proofs.running.Running.pass_over.Given as goal

abbrev pub invariant-loop-self : goal.invariant-loop-self
invariant-loop-self l = record {
  same : IsSameRun l.fn.self l.self;
  moment : l.self.moment ≡ l.fn.self.moment;
  placed : IsPlacedNow l.self;
}

abbrev pub decreases-loop-self : goal.decreases-loop-self
decreases-loop-self l = length l.self.trace - l.self.taken
