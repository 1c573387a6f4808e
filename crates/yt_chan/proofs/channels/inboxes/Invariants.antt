use Rattle.std.proofs.Common.{◌≡◌, ℕ, ◌<◌, get_or, length}
use Rattle.yt_chan.specs.declared.inbox.Inbox.{Inbox}
use Rattle.yt_chan.specs.Inside.Sound.{no_inbox}
use Rattle.yt_chan.proofs.channels.inboxes.Given as goal

abbrev pub invariant-loop-source : goal.invariant-loop-source
invariant-loop-source l = record {
  long : length l.places.items ≡ l.source-index;
  each : (n : ℕ) (d : Inbox) → n < length l.places.items → get_or l.places.items n d ≡ no_inbox (get_or l.sources n 0);
}
