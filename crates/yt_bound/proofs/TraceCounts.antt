-- How the counts of a trace's messages grow.
use Rattle.std.proofs.Common.{◌≡◌, ℕ, suc, ◌<◌, ◌≤◌, List, length, get_or, replicate, arith}
use Rattle.std.proofs.lemmas.List.{get_or-replicate}
use Rattle.yt_trace.specs.declared.message.Message.{Message}
use Rattle.yt_bound.specs.Inside.Counting.{AreCounted}
use Rattle.yt_bound.proofs.Limits.{input_le}

pub none_counted : (trace : List Message) → AreCounted trace trace (replicate 16 0)
none_counted trace = λ k lt. let e : get_or (replicate {A = ℕ} 16 0) k 0 ≡ 0 = get_or-replicate 16 k 0 0 lt in omega arith

-- no count is greater than the trace is long
pub counts_within : (trace rest : List Message) (counts : List ℕ) → length trace ≤ 200000 → AreCounted trace rest counts → (k : ℕ) → k < 16 → get_or counts k 0 ≤ 200000
counts_within trace rest counts few are k lt = let e = are k lt in let le = input_le (suc k) trace in omega arith
