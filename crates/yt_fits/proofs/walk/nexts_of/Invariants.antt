use Rattle.std.proofs.Common.{◌≡◌, ℕ, ◌<◌, ◌≤◌}
use Rattle.yt_fits.specs.Inside.Streams.{next_of}
use Rattle.yt_fits.specs.Inside.Tournaments.{IsPlayed, never, number_at}
use Rattle.yt_fits.specs.Inside.Walks.{stream_at}
use Rattle.yt_fits.proofs.walk.nexts_of.Given as goal

abbrev pub invariant-loop-place : goal.invariant-loop-place
invariant-loop-place l = record {
  played : IsPlayed l.nexts.nodes;
  nexts : (k : ℕ) → k < l.place → number_at l.nexts.nodes k ≡ next_of (stream_at l.streams k);
  rest : (k : ℕ) → l.place ≤ k → k < 64 → number_at l.nexts.nodes k ≡ never;
}
