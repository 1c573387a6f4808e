use Rattle.std.proofs.Common.{◌≡◌, length}
use Rattle.yt_rates.proofs.rating.blank.Given as goal

abbrev pub invariant-loop : goal.invariant-loop
invariant-loop l = length l.table.items ≡ l.counter
