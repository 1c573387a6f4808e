-- What jobs that are due in a span ask for, by when they are due after their arrival.
use Rattle.std.proofs.Common.{◌≡◌, ℕ, ◌+◌, ◌-◌, ◌*◌, ◌/◌, ◌<◌, ◌≤◌, List, [], ◌∷◌, sym, ap, subst, ◌∙◌, arith}
use Rattle.std.proofs.lemmas.List.Sums.{sum_by-cons}
use Rattle.std.proofs.lemmas.Nat.{mul-le}
use Rattle.std.proofs.Math.Nat.{div-eq_of_lt, div-eq_of_lt-le, div-mul_cancel, div-mul-le_self, le_of_mul-le-mul_right}
use Rattle.std.specs.List.{All}
use Rattle.std.specs.Int.{◌∣◌}
use Rattle.yt_set.specs.declared.task.Task.{Task}
use Rattle.yt_set.specs.Hyperperiod.{IsCommonMultiple}
use Rattle.yt_set.specs.Tasks.{IsTaskSet, FitsLoad, within, jobs_due, demand_bound, hyperperiod, load}
use Rattle.yt_set.proofs.Hyperperiods.{all_first, all_rest, hyperperiod_is}

-- a task that is due after a tick or more, and within its period
abbrev pub IsDueInPeriod : Task → Type 0
IsDueInPeriod task = (1 ≤ within task) × (within task ≤ task.period)

abbrev pub AreDueInPeriods : List Task → Type 0
AreDueInPeriods tasks = All IsDueInPeriod tasks

-- as the tasks of a set are
pub due_in_periods : (tasks : List Task) → IsTaskSet tasks → AreDueInPeriods tasks
due_in_periods tasks set = λ k d lt. let is = set.1 k d lt in let some = is.2 in (omega arith, omega arith)

-- the jobs that are due in a span, where each is due at its period's end: the whole periods in it
pub jobs_due_whole : (task : Task) (t : ℕ) → jobs_due task t ≡ t / task.period
jobs_due_whole task t = ap (λ (n : ℕ). n / task.period) (omega arith)

-- none is due before the first is
pub none_due : (task : Task) (t : ℕ) → IsDueInPeriod task → t < within task → jobs_due task t ≡ 0
none_due task t is h = let a = is.0 in let b = is.1 in div-eq_of_lt (omega arith)

-- from there on they stay the same until the next is due
pub same_jobs_due : (task : Task) (point next t : ℕ) → IsDueInPeriod task → next ≤ jobs_due task point * task.period + within task → point ≤ t → t < next → jobs_due task t ≡ jobs_due task point
same_jobs_due task point next t is h from to =
    let some = is.0 in
    let short = is.1 in
    let p = task.period in
    let q = jobs_due task point in
    let low : q * p ≤ point + p - within task = div-mul-le_self (point + p - within task) p in
    let least : q * p ≤ t + p - within task = omega arith in
    let one : (q + 1) * p ≡ q * p + p = omega arith in
    let most : t + p - within task < (q + 1) * p = omega arith in
    div-eq_of_lt-le p least most

-- where the load of a common multiple fits, so does the demand of each span, as each job is due at its period's end
cost_le : (q p c d t : ℕ) → q * p ≤ t → q * c * (d * p) ≤ t * (c * d)
cost_le q p c d t h =
    let a : q * p * (c * d) ≤ t * (c * d) = mul-le (q * p) (c * d) t (c * d) h (omega arith) in
    omega arith

one_task : (task : Task) (t h : ℕ) → task.period ∣ h → jobs_due task t * task.cost * h ≤ t * (task.cost * (h / task.period))
one_task task t h d =
    let p = task.period in
    let q = t / p in
    let k : q * p ≤ t = div-mul-le_self t p in
    let whole : h / p * p ≡ h = div-mul_cancel p d in
    let P : ℕ → Type 0 = λ n. q * task.cost * n ≤ t * (task.cost * (h / p)) in
    let Q : ℕ → Type 0 = λ n. n * task.cost * h ≤ t * (task.cost * (h / p)) in
    subst Q (sym (jobs_due_whole task t)) (subst P whole (cost_le q p task.cost (h / p) t k))

demand_scaled : (tasks : List Task) (t h : ℕ) → IsCommonMultiple tasks h → demand_bound tasks t * h ≤ t * load tasks h
demand_scaled [] t h d = omega arith
demand_scaled (task ∷ tasks) t h d =
    let a : demand_bound (task ∷ tasks) t ≡ jobs_due task t * task.cost + demand_bound tasks t = sum_by-cons (λ (x : Task). jobs_due x t * x.cost) task tasks in
    let b : load (task ∷ tasks) h ≡ task.cost * (h / task.period) + load tasks h = sum_by-cons (λ (x : Task). x.cost * (h / x.period)) task tasks in
    let here = one_task task t h (all_first (λ x. x.period ∣ h) task tasks d) in
    let rest = demand_scaled tasks t h (all_rest (λ x. x.period ∣ h) task tasks d) in
    let left : demand_bound (task ∷ tasks) t * h ≡ jobs_due task t * task.cost * h + demand_bound tasks t * h = ap (λ (n : ℕ). n * h) a ∙ spread (jobs_due task t * task.cost) (demand_bound tasks t) h in
    let right : t * load (task ∷ tasks) h ≡ t * (task.cost * (h / task.period)) + t * load tasks h = ap (λ (n : ℕ). t * n) b ∙ across t (task.cost * (h / task.period)) (load tasks h) in
    omega arith
  where
    spread : (a b h : ℕ) → (a + b) * h ≡ a * h + b * h
    spread a b h = omega arith

    across : (t a b : ℕ) → t * (a + b) ≡ t * a + t * b
    across t a b = omega arith

pub demand_fits : (tasks : List Task) → IsTaskSet tasks → FitsLoad tasks → (t : ℕ) → demand_bound tasks t ≤ t
demand_fits tasks set fits t =
    let is = hyperperiod_is tasks set in
    let h = hyperperiod tasks in
    let scaled = demand_scaled tasks t h is.common in
    let most : t * load tasks h ≤ t * h = mul-le t (load tasks h) t h (omega arith) fits in
    let below : demand_bound tasks t * h ≤ t * h = omega arith in
    le_of_mul-le-mul_right below is.positive
