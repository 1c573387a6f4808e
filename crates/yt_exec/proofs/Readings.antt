-- What the executive reads from its tables.
use Rattle.std.proofs.Common.{◌≡◌, ℕ, zero, suc, ◌+◌, ◌-◌, ◌<◌, ◌≤◌, false, List, [], length, map, get_or, Option, Some, sym, ap, subst, ◌∙◌, ⊎_elim, arith}
use Rattle.std.proofs.lemmas.Bool.{cases_eq}
use Rattle.std.proofs.lemmas.List.{get_or-map, get_or_default, length-map}
use Rattle.std.specs.List.{Contains}
use Rattle.yt_set.specs.declared.task.Task.{Task}
use Rattle.yt_set.specs.Tasks.{IsTaskSet, IsTask, floor_of, within}
use Rattle.yt_log.specs.declared.job.Job.{Job}
use Rattle.yt_log.specs.Tasks.{no_task, task_of}
use Rattle.yt_log.proofs.Lemmas.{task_of-suc}
use Rattle.yt_log.proofs.Lemmas.{floor_none}
use Rattle.yt_log.proofs.Lemmas.{done-zero}
use Rattle.yt_ready.specs.declared.entry.Entry.{Entry}
use Rattle.yt_order.specs.Falling.{HasOneMore}
use Rattle.yt_exec.specs.Moments.{Moment, no_release, release_of, released}
use Rattle.yt_exec.specs.StandsFor.{last_release, StandsFor}
use Rattle.yt_exec.proofs.Sounds.{floor_within}

-- the task of a number from 1
pub task_at : (tasks : List Task) (n : ℕ) → 1 ≤ n → task_of tasks n ≡ get_or tasks (n - 1) no_task
task_at tasks zero h = absurd (omega arith)
task_at tasks (suc n) h = task_of-suc tasks n ∙ ap (λ (m : ℕ). get_or tasks m no_task) (omega arith)

pub task_read : (tasks : List Task) (n : ℕ) (x : Task) → 1 ≤ n → n ≤ length tasks → x ≡ get_or tasks (n - 1) x → x ≡ task_of tasks n
task_read tasks n x a b e = e ∙ get_or_default tasks (n - 1) x no_task (omega arith) ∙ sym (task_at tasks n a)

-- the entry of a released job
pub put_released : (xs ys : List Entry) (tasks : List Task) (now : ℕ) (job : Job) (x : Task) (deadline : ℕ) → x ≡ task_of tasks job.task → deadline ≡ now + within x →
    HasOneMore xs (record { deadline = deadline; begun = false; arrival = now; task = job.task; number = job.number }) ys → HasOneMore xs (released tasks now job) ys
put_released xs ys tasks now job x deadline e is h =
    let made : ℕ → Entry = λ d. record { deadline = d; begun = false; arrival = now; task = job.task; number = job.number } in
    let P : ℕ → Type 0 = λ d. HasOneMore xs (made d) ys in
    subst P (is ∙ ap (λ (y : Task). now + within y) e) h

-- the floor of a task's resource
pub floor_read : (tasks : List Task) (floors : List (Option ℕ)) (n : ℕ) (r : Option ℕ) → floors ≡ map (λ task. floor_of tasks task.resource) tasks → 1 ≤ n → n ≤ length tasks → r ≡ get_or floors (n - 1) r →
    floor_of tasks (task_of tasks n).resource ≡ r
floor_read tasks floors n r e a b is =
    sym (is
    ∙ ap (λ (fs : List (Option ℕ)). get_or fs (n - 1) r) e
    ∙ get_or-map (λ (task : Task). floor_of tasks task.resource) tasks (n - 1) no_task r (omega arith)
    ∙ ap (λ (task : Task). floor_of tasks task.resource) (sym (task_at tasks n a)))

pub floors_long : (tasks : List Task) (floors : List (Option ℕ)) → floors ≡ map (λ task. floor_of tasks task.resource) tasks → length floors ≡ length tasks
floors_long tasks floors e = let m = length-map tasks (λ (task : Task). floor_of tasks task.resource) in ap length e ∙ m

pub floor_small : (tasks : List Task) (n f : ℕ) → IsTaskSet tasks → 1 ≤ n → n ≤ length tasks → floor_of tasks (task_of tasks n).resource ≡ Some f → f ≤ 1000000
floor_small tasks n f set a b e =
    let task = task_of tasks n in
    let P : Task → Type 0 = λ x. IsTask x in
    let is : IsTask task = subst P (sym (task_at tasks n a)) (set.1 (n - 1) no_task (omega arith)) in
    ⊎_elim
    (λ (z : task.resource ≡ 0). let none = floor_none tasks task.resource z in cc)
    (λ (nz : task.resource ≡ 0 → ⊥). let w = floor_within tasks n f a b (omega arith) e in let m = is.3 in omega arith)
    (cases_eq task.resource 0)

pub none_in : (xs : List Entry) (e : Entry) → xs ≡ [] → Contains xs e → ⊥
none_in xs e is has = let l = ap length is in let b = has.1 in omega arith

-- an executive to which nothing has happened stands for the empty plan and log
pub stands_empty : (m : Moment) (left : Job → ℕ) → m.entries ≡ [] → m.clock ≡ 0 → ((task : ℕ) → release_of m.releases task ≡ no_release) → StandsFor m left [] []
unfolding last_release
stands_empty m left none zero' releases = record {
  waiting = λ i has w. absurd has;
  only = λ x has. absurd (none_in m.entries x none has);
  clock = zero';
  releases = λ task a b. releases task;
  named = λ job begun. absurd (let z = done-zero [] job in omega arith);
  costs = λ i has w begun. absurd has;
}

pub positive : (n : ℕ) → (n ≡ 0 → ⊥) → 0 < n
positive n h = ⊎_elim (λ (z : n ≡ 0). absurd (h z)) (λ (nz : n ≡ 0 → ⊥). omega arith) (cases_eq n 0)
