use Rattle.yt_chan.proofs.Feeds.{AreNoted}
use Rattle.yt_chan.proofs.channels.feed.Given as goal

abbrev pub invariant-loop-number : goal.invariant-loop-number
invariant-loop-number l = AreNoted l.numbers l.initial.sources l.sources l.wire l.number-index
