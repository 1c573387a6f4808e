use Rattle.std.proofs.Common.{◌≡◌, ℕ, ◌<◌, ◌≤◌, List, length, subst}
use Rattle.yt_fits.specs.declared.stream.Stream.{Stream}
use Rattle.yt_fits.specs.Inside.Streams.{next_of}
use Rattle.yt_fits.specs.Inside.Tournaments.{never, number_at}
use Rattle.yt_fits.specs.Inside.Walks.{stream_at}
use Rattle.yt_fits.proofs.WalkLemmas.{starts}
use Rattle.yt_fits.proofs.walk.Walk.new.Goals as goal

pub returns-clause-at : goal.returns-clause-at
returns-clause-at c =
    let streams = c.streams_of-streams.result.items in
    let nodes = c.nexts_of-nexts.result.nodes in
    let same = c.as_slice.ensures.value in
    starts c.args.set.now streams nodes c.streams_of-streams.ensures.in_range c.streams_of-streams.ensures.streams c.streams_of-streams.ensures.none c.nexts_of-nexts.ensures.played
    (subst (λ (l : List Stream). (place : ℕ) → place < length l → number_at nodes place ≡ next_of (stream_at l place)) same c.nexts_of-nexts.ensures.nexts)
    (subst (λ (l : List Stream). (place : ℕ) → length l ≤ place → place < 64 → number_at nodes place ≡ never) same c.nexts_of-nexts.ensures.rest)
