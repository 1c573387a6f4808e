use Rattle.std.proofs.Common.{◌≡◌, take}
use Rattle.std.specs.List.{All}
use Rattle.yt_fits.specs.Inside.Streams.{AreStreamsOf}
use Rattle.yt_fits.proofs.stream.streams_of.Given as goal

abbrev pub invariant-loop-n : goal.invariant-loop-n
invariant-loop-n l = record {
  streams : AreStreamsOf (take l.n l.set) l.streams.items;
  none : All (λ stream. stream.jobs ≡ 0) l.streams.items;
}
