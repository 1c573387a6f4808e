use Rattle.std.proofs.Common.{◌≡◌, ℕ, ◌/◌, ◌<◌, ◌≤◌, length}
use Rattle.yt_fits.specs.Inside.Tournaments.{IsEntrant, entrant_at, number_at}
use Rattle.yt_fits.proofs.tournament.Tournament.put.Given as goal

-- all are told but who stands above this node
abbrev pub invariant-loop-node : goal.invariant-loop-node
invariant-loop-node l = record {
  size : length l.self.nodes ≡ 128;
  some : 1 ≤ l.node;
  few : l.node < 128;
  told : (n : ℕ) → 1 ≤ n → n < 128 → (n ≡ l.node / 2 → ⊥) → IsEntrant l.self.nodes n (entrant_at l.self.nodes n);
  here : number_at l.self.nodes l.place ≡ l.number;
  others : (other : ℕ) → other < 64 → (other ≡ l.place → ⊥) → number_at l.self.nodes other ≡ number_at l.fn.self.nodes other;
}

abbrev pub decreases-loop-node : goal.decreases-loop-node
decreases-loop-node l = l.node
