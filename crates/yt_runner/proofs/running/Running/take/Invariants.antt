use Rattle.std.proofs.Common.{◌≡◌, length}
use Rattle.yt_runner.specs.Inside.Going.{IsServing}
use Rattle.yt_runner.specs.Inside.State.{IsSameRun, graph_of}
use Rattle.yt_runner.proofs.running.Running.take.Given as goal

-- the ports before the place are served with the message
abbrev pub invariant-loop-place : goal.invariant-loop-place
invariant-loop-place l = record {
  same : IsSameRun l.fn.self l.self;
  clock : l.self.moment.clock ≡ l.fn.self.moment.clock;
  taken : l.self.taken ≡ l.fn.self.taken;
  ports : l.place-end ≡ length (graph_of l.self).ports;
  serving : IsServing l.self l.message l.place;
}
