use Rattle.std.proofs.Common.{ℕ, ◌<◌, ◌≤◌, length}
use Rattle.yt_log.specs.Inside.Heads.{head_at, item_of}
use Rattle.yt_log.proofs.judge.heads.next_arrival.Given as goal

abbrev pub invariant-loop-head : goal.invariant-loop-head
invariant-loop-head l = record {
  after : l.tick < l.until;
  most : l.until ≤ l.to;
  quiet : (n : ℕ) → n < l.head-index → (head_at l.heads n).place < length l.items → l.tick < (item_of l.items (head_at l.heads n)).arrival → l.until ≤ (item_of l.items (head_at l.heads n)).arrival;
}
