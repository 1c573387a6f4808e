use Rattle.std.proofs.Common.{◌≡◌, ℕ, ◌+◌, ◌<◌, ◌≤◌, length}
use Rattle.yt_fits.specs.Inside.Tournaments.{IsEntrant, entrant_at, never, number_at}
use Rattle.yt_fits.proofs.tournament.Tournament.new.Given as goal

-- the nodes from this one on are told
abbrev pub invariant-loop-node : goal.invariant-loop-node
invariant-loop-node l = record {
  size : length l.all.nodes ≡ 128;
  some : 1 ≤ l.node;
  few : l.node ≤ 128;
  told : (n : ℕ) → l.node ≤ n → n < 128 → IsEntrant l.all.nodes n (entrant_at l.all.nodes n);
  numbers : (place : ℕ) → l.node ≤ 64 + place → place < 64 → number_at l.all.nodes place ≡ never;
}

abbrev pub decreases-loop-node : goal.decreases-loop-node
decreases-loop-node l = l.node
