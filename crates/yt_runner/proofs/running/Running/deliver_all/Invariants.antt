use Rattle.std.proofs.Common.{◌≡◌}
use Rattle.yt_runner.specs.Inside.Going.{IsDelivering, waiting_in}
use Rattle.yt_runner.specs.Inside.State.{IsSameRun}
use Rattle.yt_runner.proofs.running.Running.deliver_all.Given as goal

abbrev pub invariant-loop : goal.invariant-loop
invariant-loop l = record {
  same : IsSameRun l.fn.self l.self;
  clock : l.self.moment.clock ≡ l.fn.self.moment.clock;
  delivering : IsDelivering l.self;
}

abbrev pub decreases-loop : goal.decreases-loop
decreases-loop l = waiting_in l.self
