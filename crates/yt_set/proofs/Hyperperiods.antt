-- The hyperperiod is the least common multiple of the periods.
use Rattle.std.proofs.Common.{◌≡◌, ℕ, zero, suc, ◌<◌, ◌≤◌, List, [], ◌∷◌, ◌++◌, length, refl, arith, slice_index_or}
use Rattle.std.proofs.lemmas.Nat.Gcd.{dvd_refl, dvd_trans}
use Rattle.std.proofs.Math.Nat.{one-dvd}
use Rattle.std.specs.List.{All}
use Rattle.std.specs.Int.{◌∣◌}
use Rattle.yt_set.specs.declared.task.Task.{Task}
use Rattle.yt_set.specs.Tasks.{IsTaskSet, lcm, multiple_from}
use Rattle.yt_set.specs.Hyperperiod.{IsCommonMultiple, HyperperiodIsLeast}
use Rattle.yt_set.proofs.Multiples.{lcm_is}

-- periods above 0
abbrev pub HavePeriods : List Task → Type 0
HavePeriods tasks = All (λ task. 1 ≤ task.period) tasks

-- what holds of all holds of the first and of the rest
pub all_first : {X : Type 0} (P : X → Type 0) (x : X) (xs : List X) → All P (x ∷ xs) → P x
all_first P x xs h = h 0 x (omega arith)

pub all_rest : {X : Type 0} (P : X → Type 0) (x : X) (xs : List X) → All P (x ∷ xs) → All P xs
all_rest P x xs h = λ k d lt. h (suc k) d (omega arith)

pub all_more : {X : Type 0} (P : X → Type 0) (x : X) (xs : List X) → P x → All P xs → All P (x ∷ xs)
all_more P x xs p h = λ k d lt. by k d lt
  where
    by : (k : ℕ) (d : _) → k < length (x ∷ xs) → P (slice_index_or (x ∷ xs) k d)
    by zero d lt = p
    by (suc k) d lt = h k d (omega arith)

pub all_one : {X : Type 0} (P : X → Type 0) (x : X) → P x → All P (x ∷ [])
all_one P x p = all_more P x [] p (λ k d lt. absurd (omega arith))

-- a common multiple of m and of the periods, above 0, that divides each other one
pub record IsLeastFrom (m : ℕ) (tasks : List Task) (h : ℕ) : Type 0 where
  pub positive : 1 ≤ h
  pub of_m : m ∣ h
  pub common : IsCommonMultiple tasks h
  pub least : (n : ℕ) → m ∣ n → IsCommonMultiple tasks n → h ∣ n

pub least_from : (m : ℕ) (tasks : List Task) → 1 ≤ m → HavePeriods tasks → IsLeastFrom m tasks (multiple_from m tasks)
unfolding multiple_from
least_from m [] pos periods = record {
  positive = pos;
  of_m = dvd_refl m;
  common = λ k d lt. absurd (omega arith);
  least = λ n mn common. mn;
}
least_from m (task ∷ tasks) pos periods =
    let p = task.period in
    let here = all_first (λ t. 1 ≤ t.period) task tasks periods in
    let l = lcm_is m p pos here in
    let more = least_from (lcm m p) tasks l.some (all_rest (λ t. 1 ≤ t.period) task tasks periods) in
    let h = multiple_from (lcm m p) tasks in
    record {
      positive = more.positive;
      of_m = dvd_trans m l.first more.of_m;
      common = all_more (λ t. t.period ∣ h) task tasks (dvd_trans p l.second more.of_m) more.common;
      least = λ n mn common. more.least n (l.least n mn (all_first (λ t. t.period ∣ n) task tasks common)) (all_rest (λ t. t.period ∣ n) task tasks common);
    }

pub periods_of : (tasks : List Task) → IsTaskSet tasks → HavePeriods tasks
periods_of tasks set = λ k d lt. (set.1 k d lt).2

pub hyperperiod_is : HyperperiodIsLeast
hyperperiod_is tasks set =
    let is = least_from 1 tasks (omega arith) (periods_of tasks set) in
    record {
      positive = is.positive;
      common = is.common;
      least = λ m common. is.least m (one-dvd m) common;
    }

-- one more task
pub multiple_more : (m : ℕ) (tasks : List Task) (task : Task) → multiple_from m (tasks ++ task ∷ []) ≡ lcm (multiple_from m tasks) task.period
unfolding multiple_from
multiple_more m [] task = refl
multiple_more m (t ∷ tasks) task = multiple_more (lcm m t.period) tasks task

-- the multiple of some tasks and then of others
pub multiple_append : (m : ℕ) (xs ys : List Task) → multiple_from m (xs ++ ys) ≡ multiple_from (multiple_from m xs) ys
unfolding multiple_from
multiple_append m [] ys = refl
multiple_append m (x ∷ xs) ys = multiple_append (lcm m x.period) xs ys
