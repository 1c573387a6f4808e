-- Which numbers a list has.
use Rattle.std.proofs.Common.{◌≡◌, ℕ, zero, suc, ◌≤◌, List, length, Some, arith}
use Rattle.std.proofs.lemmas.Option.{none-some, slice_get_within}
use Rattle.yt_list.specs.Numbered.{numbered}

-- they are from 1 on, and no greater than the count of items
pub number_bounds : {X : Type 0} (xs : List X) (n : ℕ) (x : X) → numbered xs n ≡ Some x → (1 ≤ n) × (n ≤ length xs)
number_bounds xs zero x at = absurd (none-some x at)
number_bounds xs (suc n) x at = let lt = slice_get_within xs n x at in (omega arith, omega arith)
