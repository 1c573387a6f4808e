-- Where a task's arrivals stand among those of all tasks.
use Rattle.std.proofs.Common.{◌≡◌, ℕ, zero, suc, ◌+◌, ◌-◌, ◌/◌, Bool, cond, eqb, List, [], ◌∷◌, length, slice_get, Some, refl, ap, ◌∙◌, arith, eq-eqb, ne_eqb}
use Rattle.std.proofs.lemmas.Option.{none-some}
use Rattle.yt_list.specs.Numbered.{numbered}
use Rattle.yt_set.specs.declared.task.Task.{Task}
use Rattle.yt_set.specs.Tasks.{jobs_due}
use Rattle.yt_set.proofs.Lemmas.{jobs_due_whole}
use Rattle.yt_log.specs.Tasks.{task_of}
use Rattle.yt_log.specs.Patterns.{Arrivals, all_tasks, arrivals_from, blocker}
use Rattle.yt_log.proofs.Lemmas.{task_read}
use Rattle.yt_witness.specs.declared.pattern.Pattern.{Pattern}
use Rattle.yt_witness.specs.declared.pattern.Pattern.TheVariants.{All, Blocker}
use Rattle.yt_witness.specs.Witnesses.{arrivals_of}

-- the arrivals of the task of this number
abbrev pub of_task : (ℕ → ℕ) → (ℕ → ℕ) → ℕ → Task → Arrivals
of_task start count n task = record { first = start n; step = task.period; count = count n; cost = task.cost }

pub arrivals_at : (start count : ℕ → ℕ) (n : ℕ) (tasks : List Task) (k : ℕ) (task : Task) → slice_get tasks k ≡ Some task →
    slice_get (arrivals_from start count n tasks) k ≡ Some (of_task start count (n + k) task)
arrivals_at start count n [] k task at = cc
arrivals_at start count n (t ∷ tasks) zero task at =
    let same : t ≡ task = cc in
    let here : n ≡ n + 0 = omega arith in
    ap (λ (x : Task). Some (of_task start count n x)) same ∙ ap (λ (m : ℕ). Some (of_task start count m task)) here
arrivals_at start count n (t ∷ tasks) (suc k) task at =
    let here : suc n + k ≡ n + suc k = omega arith in
    arrivals_at start count (suc n) tasks k task at ∙ ap (λ (m : ℕ). Some (of_task start count m task)) here

length_from : (start count : ℕ → ℕ) (n : ℕ) (tasks : List Task) → length (arrivals_from start count n tasks) ≡ length tasks
length_from start count n [] = refl
length_from start count n (task ∷ tasks) = ap suc (length_from start count (suc n) tasks)

-- a pattern has arrivals of each task and of no other, so that those of all tasks, told one by one, are the pattern's
pub length_arrivals : (tasks : List Task) (pattern : Pattern) → length (arrivals_of tasks pattern) ≡ length tasks
length_arrivals tasks (All upto) = length_from _ _ 1 tasks
length_arrivals tasks (Blocker task upto) = length_from _ _ 1 tasks

-- in terms of the task's number
arrivals_numbered : (start count : ℕ → ℕ) (tasks : List Task) (n : ℕ) (task : Task) → numbered tasks n ≡ Some task →
    numbered (arrivals_from start count 1 tasks) n ≡ Some (of_task start count n task)
arrivals_numbered start count tasks zero task at = absurd (none-some task at)
arrivals_numbered start count tasks (suc k) task at =
    let here : 1 + k ≡ suc k = omega arith in
    arrivals_at start count 1 tasks k task at ∙ ap (λ (m : ℕ). Some (of_task start count m task)) here

-- arrivals of a task
abbrev pub of : Task → ℕ → ℕ → Arrivals
of task first count = record { first = first; step = task.period; count = count; cost = task.cost }

pub all_at : (tasks : List Task) (upto n : ℕ) (task : Task) → numbered tasks n ≡ Some task →
    numbered (all_tasks tasks upto) n ≡ Some (of task 0 (upto / task.period))
all_at tasks upto n task at =
    arrivals_numbered (λ m. 0) (λ m. jobs_due (task_of tasks m) upto) tasks n task at
    ∙ ap (λ (t : Task). Some (of task 0 (jobs_due t upto))) (task_read tasks n task at)
    ∙ ap (λ (m : ℕ). Some (of task 0 m)) (jobs_due_whole task upto)

pub blocker_at : (tasks : List Task) (i span n : ℕ) (task : Task) → numbered tasks n ≡ Some task → n ≡ i →
    numbered (blocker tasks i span) n ≡ Some (of task 0 1)
blocker_at tasks i span n task at e =
    arrivals_numbered (λ m. cond (eqb m i) 0 1) (λ m. cond (eqb m i) 1 (jobs_due (task_of tasks m) (span - 1))) tasks n task at
    ∙ ap (λ (b : Bool). Some (of task (cond b 0 1) (cond b 1 (jobs_due (task_of tasks n) (span - 1))))) (eq-eqb n i e)

pub other_at : (tasks : List Task) (i span n : ℕ) (task : Task) → numbered tasks n ≡ Some task → (n ≡ i → ⊥) →
    numbered (blocker tasks i span) n ≡ Some (of task 1 ((span - 1) / task.period))
other_at tasks i span n task at ne =
    arrivals_numbered (λ m. cond (eqb m i) 0 1) (λ m. cond (eqb m i) 1 (jobs_due (task_of tasks m) (span - 1))) tasks n task at
    ∙ ap (λ (b : Bool). Some (of task (cond b 0 1) (cond b 1 (jobs_due (task_of tasks n) (span - 1))))) (ne_eqb n i ne)
    ∙ ap (λ (t : Task). Some (of task 1 (jobs_due t (span - 1)))) (task_read tasks n task at)
    ∙ ap (λ (m : ℕ). Some (of task 1 m)) (jobs_due_whole task (span - 1))
