use Rattle.std.proofs.Common.{◌≡◌, ◌+◌, ◌-◌, ◌≤◌, length}
use Rattle.yt_exec.specs.Inside.Counting.{IsPlaying}
use Rattle.yt_exec.proofs.plays.play.Given as goal

abbrev pub invariant-loop-playing : goal.invariant-loop-playing
invariant-loop-playing l = record {
  playing : IsPlaying l.set l.plan l.playing.executive l.playing.counts.rows.items l.playing.next l.playing.log;
  set : l.playing.counts.set.now ≡ l.set;
  few : length l.playing.log ≤ l.upto;
}

abbrev pub decreases-loop-playing : goal.decreases-loop-playing
decreases-loop-playing l = l.upto + length l.plan - (length l.playing.log + l.playing.next)
