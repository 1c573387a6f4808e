-- Multiples of longer and longer lists of tasks.
use Rattle.std.proofs.Common.{◌≡◌, ℕ, zero, suc, ◌+◌, ◌<◌, ◌≤◌, List, [], ◌∷◌, ◌++◌, ⊎_elim, take, slice_get, Some, add-one, sym, subst, ap, ◌∙◌, arith}
use Rattle.std.proofs.lemmas.Bool.{cases_eq}
use Rattle.std.proofs.lemmas.List.Elements.{All-take}
use Rattle.std.proofs.lemmas.Nat.Gcd.{le_of_dvd}
use Rattle.std.proofs.lemmas.Option.{get_or_from_slice_get, slice_get_within}
use Rattle.std.proofs.Math.Nat.{one-dvd, eq-zero_of_zero-dvd}
use Rattle.std.proofs.Math.Seq.{take-suc}
use Rattle.std.specs.Int.{◌∣◌}
use Rattle.yt_fits.specs.Loads.{hyperperiod_limit}
use Rattle.yt_list.specs.Numbered.{numbered}
use Rattle.yt_list.proofs.Lemmas.{numbered_next}
use Rattle.yt_set.specs.declared.task.Task.{Task}
use Rattle.yt_set.specs.Tasks.{IsTaskSet, lcm, hyperperiod}
use Rattle.yt_set.proofs.Lemmas.{least_from, multiple_more, periods_of}
use Rattle.yt_set.proofs.Lemmas.{lcm_is}

-- what divides a number above 0 is above 0
pub divisor_some : (g n : ℕ) → g ∣ n → 1 ≤ n → 0 < g
divisor_some zero n d h = let none = eq-zero_of_zero-dvd d in absurd (omega arith)
divisor_some (suc g) n d h = omega arith

-- the first elements and one more
pub take_next : {X : Type 0} (xs : List X) (n : ℕ) (x : X) → slice_get xs n ≡ Some x → take (n + 1) xs ≡ take n xs ++ x ∷ []
take_next xs n x at =
    ap (λ k. take k xs) (add-one n) ∙ take-suc xs n x (slice_get_within xs n x at) ∙ ap (λ y. take n xs ++ y ∷ []) (get_or_from_slice_get xs n x x at)

-- the multiple with one more task
pub multiple_next : (tasks : List Task) (n : ℕ) (task : Task) → slice_get tasks n ≡ Some task → hyperperiod (take (n + 1) tasks) ≡ lcm (hyperperiod (take n tasks)) task.period
multiple_next tasks n task at = ap hyperperiod (take_next tasks n task at) ∙ multiple_more 1 (take n tasks) task

-- the multiple of the first tasks is at most that of all
pub first_le : (tasks : List Task) (n : ℕ) → IsTaskSet tasks → hyperperiod (take n tasks) ≤ hyperperiod tasks
first_le tasks n set =
    let periods = periods_of tasks set in
    let all = least_from 1 tasks (omega arith) periods in
    let some = least_from 1 (take n tasks) (omega arith) (All-take (λ t. 1 ≤ t.period) n tasks periods) in
    le_of_dvd all.positive (some.least (hyperperiod tasks) (one-dvd (hyperperiod tasks)) (All-take (λ t. t.period ∣ hyperperiod tasks) n tasks all.common))

-- a multiple that was that of n tasks is that of one more
pub next_whole : (tasks : List Task) (n m h : ℕ) (task : Task) → numbered tasks (n + 1) ≡ Some task → h ≡ hyperperiod (take n tasks) → m ≡ lcm h task.period → m ≡ hyperperiod (take (n + 1) tasks)
next_whole tasks n m h task at e is =
    is ∙ ap (λ k. lcm k task.period) e ∙ sym (multiple_next tasks n task (sym (numbered_next tasks n) ∙ at))

-- a multiple that is not too great, after others that are not
pub narrow_more : (tasks : List Task) (n : ℕ) → ((k : ℕ) → k ≤ n → hyperperiod (take k tasks) ≤ hyperperiod_limit tasks) → hyperperiod (take (n + 1) tasks) ≤ hyperperiod_limit tasks
    → (k : ℕ) → k ≤ n + 1 → hyperperiod (take k tasks) ≤ hyperperiod_limit tasks
narrow_more tasks n before here k h =
    ⊎_elim
    (λ (e : k ≡ n + 1). subst (λ j. hyperperiod (take j tasks) ≤ hyperperiod_limit tasks) (sym e) here)
    (λ (ne : k ≡ n + 1 → ⊥). before k (omega arith))
    (cases_eq k (n + 1))

pub lcm_some : (a b : ℕ) → 1 ≤ a → 1 ≤ b → 1 ≤ lcm a b
lcm_some a b ha hb = (lcm_is a b ha hb).some
