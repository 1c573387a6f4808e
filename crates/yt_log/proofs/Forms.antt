-- The facts of a task set in the forms that the proofs use. They speak of `within` and not of the period, wherever a deadline is meant.
use Rattle.std.proofs.Common.{◌≡◌, ℕ, ◌+◌, ◌-◌, ◌*◌, ◌/◌, ◌≤◌, List, [], ◌∷◌, refl, sym, ap, ap₂, subst, ◌∙◌, ⊎_elim, arith}
use Rattle.std.proofs.lemmas.List.Sums.{sum_by-cons}
use Rattle.std.specs.List.{All}
use Rattle.std.specs.Int.{◌∣◌}
use Rattle.yt_set.specs.declared.task.Task.{Task}
use Rattle.yt_set.specs.Tasks.{IsTask, IsTaskSet, within, jobs_due, demand_bound, hyperperiod}
use Rattle.yt_set.specs.Tasks.{load as load_of}
use Rattle.yt_set.proofs.Lemmas.{all_first, all_rest, hyperperiod_is}
use Rattle.yt_log.specs.Tasks.{Has}

-- a task that costs a tick or more, and is due after a tick or more and within its period
pub record IsUsable (task : Task) : Type 0 where
  pub costs : 1 ≤ task.cost
  pub due : 1 ≤ within task
  pub in_period : within task ≤ task.period

abbrev pub AreUsable : List Task → Type 0
AreUsable tasks = (task : Task) → Has tasks task → IsUsable task

pub has_all : {X : Type 0} (P : X → Type 0) (xs : List X) → All P xs → (x : X) → Has xs x → P x
has_all P [] all x is = absurd is
has_all P (y ∷ ys) all x is =
    ⊎_elim
    (λ (e : x ≡ y). subst P (sym e) (all_first P y ys all))
    (λ (k : Has ys x). has_all P ys (all_rest P y ys all) x k)
    is

pub usable : (tasks : List Task) → IsTaskSet tasks → AreUsable tasks
usable tasks set = λ task is.
    let h = has_all IsTask tasks set.1 task is in
    let a = h.0 in
    let b = h.2 in
    record { costs = a; due = b; in_period = omega arith }

-- how many jobs of a task can arrive and be due within t ticks
unfoldable pub due_within : Task → ℕ → ℕ
due_within task t = (t + task.period - within task) / task.period

pub due_within_is : (task : Task) (t : ℕ) → due_within task t ≡ (t + task.period - within task) / task.period
unfolding due_within
due_within_is task t = refl

pub jobs_due_is : (task : Task) (t : ℕ) → jobs_due task t ≡ due_within task t
unfolding due_within
jobs_due_is task t = refl

-- the demand of t ticks
unfoldable pub demand : List Task → ℕ → ℕ
demand [] t = 0
demand (task ∷ tasks) t = due_within task t * task.cost + demand tasks t

pub demand_is : (tasks : List Task) (t : ℕ) → demand_bound tasks t ≡ demand tasks t
unfolding demand
demand_is [] t = refl
demand_is (task ∷ tasks) t = sum_by-cons (λ (x : Task). jobs_due x t * x.cost) task tasks ∙ ap₂ (λ (a b : ℕ). a * task.cost + b) (jobs_due_is task t) (demand_is tasks t)

-- the work of h ticks, which is the load
unfoldable pub work : List Task → ℕ → ℕ
work [] h = 0
work (task ∷ tasks) h = task.cost * (h / task.period) + work tasks h

pub work_is : (tasks : List Task) (h : ℕ) → load_of tasks h ≡ work tasks h
unfolding work
work_is [] h = refl
work_is (task ∷ tasks) h = sum_by-cons (λ (x : Task). x.cost * (h / x.period)) task tasks ∙ ap (λ (a : ℕ). task.cost * (h / task.period) + a) (work_is tasks h)

-- each period divides the hyperperiod
pub divides : (tasks : List Task) → IsTaskSet tasks → (task : Task) → Has tasks task → task.period ∣ hyperperiod tasks
divides tasks set = has_all (λ (task : Task). task.period ∣ hyperperiod tasks) tasks (hyperperiod_is tasks set).common
