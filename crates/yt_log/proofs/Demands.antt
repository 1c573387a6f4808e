-- The jobs of a legal plan that arrive at x or later and are due by t cost no more than the demand of t - x.
use Rattle.std.proofs.Common.{◌≡◌, ℕ, zero, suc, ◌+◌, ◌-◌, ◌*◌, ◌/◌, ◌<◌, ◌≤◌, Bool, true, false, ◌&&◌, eqb, leb, ltb, List, [], ◌∷◌, length, get_or, Some, refl, sym, ap, subst, ◌∙◌, inl, inr, ⊎_elim, arith, eqb-true, eq-eqb, ltb-true, lt-ltb, leb-true, le-leb}
use Rattle.std.proofs.lemmas.Bool.{cases_Bool, cases_eq, and_parts, and_from}
use Rattle.std.proofs.lemmas.Option.{get_or_from_slice_get, none-some}
use Rattle.yt_list.specs.Numbered.{numbered}
use Rattle.yt_set.specs.declared.task.Task.{Task}
use Rattle.yt_set.specs.Tasks.{within}
use Rattle.yt_log.specs.declared.plan.PlanItem.{PlanItem}
use Rattle.yt_log.specs.Tasks.{Has, task_of, no_task}
use Rattle.yt_log.specs.Plan.{its_task, deadline_of, IsLegalAfter, IsLegal}
use Rattle.yt_log.proofs.Forms.{due_within_is, due_within, demand, IsUsable, AreUsable}
use Rattle.yt_log.proofs.Totals.{total, total_le, total_split, total_none, total_yes, total_no, total-nil}
use Rattle.yt_log.proofs.Plans.{good_item, apart_after}

-- an item arrives at x or later and is due by t
pub due : List Task → ℕ → ℕ → PlanItem → Bool
due tasks x t i = leb x i.arrival && leb (deadline_of tasks i) t

pub due_parts : (tasks : List Task) (x t : ℕ) (i : PlanItem) → due tasks x t i ≡ true → (x ≤ i.arrival) × (deadline_of tasks i ≤ t)
unfolding due
due_parts tasks x t i h = let p = and_parts (leb x i.arrival) (leb (deadline_of tasks i) t) h in (leb-true x i.arrival p.0, leb-true (deadline_of tasks i) t p.1)

pub due_from : (tasks : List Task) (x t : ℕ) (i : PlanItem) → x ≤ i.arrival → deadline_of tasks i ≤ t → due tasks x t i ≡ true
unfolding due
due_from tasks x t i a b = and_from (leb x i.arrival) (leb (deadline_of tasks i) t) (le-leb x i.arrival a) (le-leb (deadline_of tasks i) t b)

pub deadline_is : (tasks : List Task) (i : PlanItem) → deadline_of tasks i ≡ i.arrival + within (its_task tasks i)
unfolding deadline_of
deadline_is tasks i = refl

-- an item of task n that passes
pub of : (PlanItem → Bool) → ℕ → PlanItem → Bool
of p n i = eqb i.job.task n && p i

pub of_parts : (p : PlanItem → Bool) (n : ℕ) (i : PlanItem) → of p n i ≡ true → (i.job.task ≡ n) × (p i ≡ true)
unfolding of
of_parts p n i h = let q = and_parts (eqb i.job.task n) (p i) h in (eqb-true i.job.task n q.0, q.1)

pub of_from : (p : PlanItem → Bool) (n : ℕ) (i : PlanItem) → i.job.task ≡ n → p i ≡ true → of p n i ≡ true
unfolding of
of_from p n i e h = and_from (eqb i.job.task n) (p i) (eq-eqb i.job.task n e) h

abbrev pub its_cost : PlanItem → ℕ
its_cost i = i.cost

-- an item of task n that is due by t
passing : (tasks : List Task) (n x t : ℕ) (i : PlanItem) → of (due tasks x t) n i ≡ true → (i.job.task ≡ n) × (x ≤ i.arrival) × (i.arrival + within (task_of tasks n) ≤ t)
passing tasks n x t i h =
    let p = of_parts (due tasks x t) n i h in
    let q = due_parts tasks x t i p.1 in
    let d = deadline_is tasks i in
    let w : within (its_task tasks i) ≡ within (task_of tasks n) = ap (λ (m : ℕ). within (task_of tasks m)) p.0 in
    (p.0, q.0, omega arith)

later_only : (tasks : List Task) (n x t : ℕ) (i : PlanItem) (xs : List PlanItem) → i.job.task ≡ n →
    ((k : PlanItem) → Has xs k → i.job.task ≡ k.job.task → i.arrival + (its_task tasks k).period ≤ k.arrival) →
    total (of (due tasks x t) n) its_cost xs ≤ total (of (due tasks (i.arrival + (task_of tasks n).period) t) n) its_cost xs
later_only tasks n x t i xs e apart =
    let from = i.arrival + (task_of tasks n).period in
    total_le (of (due tasks x t) n) (of (due tasks from t) n) its_cost its_cost xs (λ k is h.
    let p = of_parts (due tasks x t) n k h in
    let q = due_parts tasks x t k p.1 in
    let a = apart k is (e ∙ sym p.0) in
    let r : (its_task tasks k).period ≡ (task_of tasks n).period = ap (λ (m : ℕ). (task_of tasks m).period) p.0 in
    (of_from (due tasks from t) n k p.0 (due_from tasks from t k (omega arith) q.1), omega arith))

chain_first : (tasks : List Task) (n x t d : ℕ) (i : PlanItem) (xs : List PlanItem) → of (due tasks x t) n i ≡ true →
    t + (task_of tasks n).period < suc d * (task_of tasks n).period + x + within (task_of tasks n) →
    i.cost ≤ (its_task tasks i).cost →
    ((d' : ℕ) → t + (task_of tasks n).period < suc d' * (task_of tasks n).period + (i.arrival + (task_of tasks n).period) + within (task_of tasks n) →
    total (of (due tasks (i.arrival + (task_of tasks n).period) t) n) its_cost xs ≤ d' * (task_of tasks n).cost) →
    ((k : PlanItem) → Has xs k → i.job.task ≡ k.job.task → i.arrival + (its_task tasks k).period ≤ k.arrival) →
    total (of (due tasks x t) n) its_cost (i ∷ xs) ≤ d * (task_of tasks n).cost
chain_first tasks n x t zero i xs passes h most rest apart = let p = passing tasks n x t i passes in absurd (omega arith)
chain_first tasks n x t (suc d) i xs passes h most rest apart =
    let p = passing tasks n x t i passes in
    let e = total_yes (of (due tasks x t) n) its_cost i xs passes in
    let c : (its_task tasks i).cost ≡ (task_of tasks n).cost = ap (λ (m : ℕ). (task_of tasks m).cost) p.0 in
    let r = rest d (omega arith) in
    let l = later_only tasks n x t i xs p.0 apart in
    omega arith

-- the jobs of one task, of which d can arrive and be due in time
chain : (tasks : List Task) (before xs : List PlanItem) → IsLegalAfter tasks before xs → (n x t d : ℕ) →
    t + (task_of tasks n).period < suc d * (task_of tasks n).period + x + within (task_of tasks n) →
    total (of (due tasks x t) n) its_cost xs ≤ d * (task_of tasks n).cost
chain tasks before [] legal n x t d h = let z = total-nil (of (due tasks x t) n) its_cost in omega arith
chain tasks before (i ∷ xs) legal n x t d h =
    ⊎_elim
    (λ (passes : of (due tasks x t) n i ≡ true). chain_first tasks n x t d i xs passes h legal.0.most
    (λ d' h'. chain tasks (i ∷ before) xs legal.1 n (i.arrival + (task_of tasks n).period) t d' h')
    (λ k is same. apart_after tasks (i ∷ before) xs legal.1 i k (inl refl) is same))
    (λ (fails : of (due tasks x t) n i ≡ false).
    let e = total_no (of (due tasks x t) n) its_cost i xs fails in
    let rest = chain tasks (i ∷ before) xs legal.1 n x t d h in
    omega arith)
    (cases_Bool (of (due tasks x t) n i))

div_above : (m p : ℕ) → 1 ≤ p → m < suc (m / p) * p
div_above m p h = omega arith

room : (r t x p w : ℕ) → x ≤ t → w ≤ p → t - x + p - w < r → t + p < r + x + w
room r t x p w a b h = omega arith

-- one task's jobs cost no more than its part of the demand
task_demand : (tasks : List Task) (plan : List PlanItem) → IsLegal tasks plan → (n x t : ℕ) → x ≤ t → IsUsable (task_of tasks n) →
    total (of (due tasks x t) n) its_cost plan ≤ due_within (task_of tasks n) (t - x) * (task_of tasks n).cost
task_demand tasks plan legal n x t le is =
    let τ = task_of tasks n in
    let d = due_within τ (t - x) in
    let e = due_within_is τ (t - x) in
    let a = is.in_period in
    let b = is.due in
    let m = t - x + τ.period - within τ in
    let f = div_above m τ.period (omega arith) in
    let g : suc d * τ.period ≡ suc (m / τ.period) * τ.period = ap (λ (z : ℕ). suc z * τ.period) e in
    let h : m < suc d * τ.period = subst (λ (z : ℕ). m < z) (sym g) f in
    chain tasks [] plan legal n x t d (room (suc d * τ.period) t x τ.period (within τ) le a h)

-- an item that passes, of a task above k
pub above : (PlanItem → Bool) → ℕ → PlanItem → Bool
above p k i = ltb k i.job.task && p i

pub above_parts : (p : PlanItem → Bool) (k : ℕ) (i : PlanItem) → above p k i ≡ true → (k < i.job.task) × (p i ≡ true)
unfolding above
above_parts p k i h = let q = and_parts (ltb k i.job.task) (p i) h in (ltb-true k i.job.task q.0, q.1)

pub above_from : (p : PlanItem → Bool) (k : ℕ) (i : PlanItem) → k < i.job.task → p i ≡ true → above p k i ≡ true
unfolding above
above_from p k i a h = and_from (ltb k i.job.task) (p i) (lt-ltb k i.job.task a) h

pub demand-cons : (task : Task) (tasks : List Task) (t : ℕ) → demand (task ∷ tasks) t ≡ due_within task t * task.cost + demand tasks t
unfolding demand
demand-cons task tasks t = refl

by_task : (p : PlanItem → Bool) (plan : List PlanItem) (span : ℕ) (tasks : List Task) (k : ℕ) →
    ((i : PlanItem) → Has plan i → i.job.task ≤ k + length tasks) →
    ((m : ℕ) → m < length tasks → total (of p (suc (k + m))) its_cost plan ≤ due_within (get_or tasks m no_task) span * (get_or tasks m no_task).cost) →
    total (above p k) its_cost plan ≤ demand tasks span
by_task p plan span [] k most each =
    let z = total_none (above p k) its_cost plan (λ i is h. let q = above_parts p k i h in let w = most i is in omega arith) in
    omega arith
by_task p plan span (task ∷ tasks) k most each =
    let split = total_split (above p k) (of p (suc k)) (above p (suc k)) its_cost plan (λ i is h.
    let q = above_parts p k i h in
    ⊎_elim
    (λ (e : i.job.task ≡ suc k). inl (of_from p (suc k) i e q.1))
    (λ (ne : i.job.task ≡ suc k → ⊥). inr (above_from p (suc k) i (omega arith) q.1))
    (cases_eq i.job.task (suc k))) in
    let first = each 0 (omega arith) in
    let e : total (of p (suc (k + 0))) its_cost plan ≡ total (of p (suc k)) its_cost plan = ap (λ (m : ℕ). total (of p m) its_cost plan) (omega arith) in
    let rest = by_task p plan span tasks (suc k) (λ i is. let w = most i is in omega arith) (λ m lt.
    let a = each (suc m) (omega arith) in
    let b : total (of p (suc (k + suc m))) its_cost plan ≡ total (of p (suc (suc k + m))) its_cost plan = ap (λ (m : ℕ). total (of p m) its_cost plan) (omega arith) in
    omega arith) in
    let c = demand-cons task tasks span in
    omega arith

has_at : (tasks : List Task) (m : ℕ) → m < length tasks → Has tasks (get_or tasks m no_task)
has_at [] m lt = absurd (omega arith)
has_at (task ∷ tasks) zero lt = inl refl
has_at (task ∷ tasks) (suc m) lt = inr (has_at tasks m (omega arith))

pub has_task : (tasks : List Task) (n : ℕ) → 1 ≤ n → n ≤ length tasks → Has tasks (task_of tasks n)
unfolding task_of
has_task tasks zero a b = absurd (omega arith)
has_task tasks (suc n) a b = has_at tasks n (omega arith)

-- an item's task is in the set
pub has_item : (tasks : List Task) (plan : List PlanItem) → IsLegal tasks plan → (i : PlanItem) → Has plan i → Has tasks (its_task tasks i)
has_item tasks plan legal i is = let g = good_item tasks plan legal i is in has_task tasks i.job.task g.from_one g.in_set

pub task_of-suc : (tasks : List Task) (n : ℕ) → task_of tasks (suc n) ≡ get_or tasks n no_task
unfolding task_of
task_of-suc tasks n = refl

pub due_cost : (tasks : List Task) → AreUsable tasks → (plan : List PlanItem) → IsLegal tasks plan → (x t : ℕ) → x ≤ t → total (due tasks x t) its_cost plan ≤ demand tasks (t - x)
due_cost tasks set plan legal x t le =
    let p = due tasks x t in
    let all = total_le p (above p 0) its_cost its_cost plan (λ i is h. (above_from p 0 i (good_item tasks plan legal i is).from_one h, omega arith)) in
    let parts = by_task p plan (t - x) tasks 0 (λ i is. let g = (good_item tasks plan legal i is).in_set in omega arith) (λ m lt.
    let P : Task → Type 0 = λ τ. total (of p (suc (0 + m))) its_cost plan ≤ due_within τ (t - x) * τ.cost in
    let e : total (of p (suc (0 + m))) its_cost plan ≡ total (of p (suc m)) its_cost plan = ap (λ (m : ℕ). total (of p m) its_cost plan) (omega arith) in
    let one = task_demand tasks plan legal (suc m) x t le (set (task_of tasks (suc m)) (has_task tasks (suc m) (omega arith) (omega arith))) in
    subst P (task_of-suc tasks m) (omega arith)) in
    omega arith

-- the task that a set has at a number
pub task_read : (tasks : List Task) (n : ℕ) (task : Task) → numbered tasks n ≡ Some task → task_of tasks n ≡ task
task_read tasks zero task at = absurd (none-some task at)
task_read tasks (suc n) task at = task_of-suc tasks n ∙ get_or_from_slice_get tasks n task no_task at

-- a task's number
pub has_number : (tasks : List Task) (task : Task) → Has tasks task → (n : ℕ) × (numbered tasks n ≡ Some task)
has_number [] task is = absurd is
has_number (x ∷ xs) task is =
    ⊎_elim
    (λ (e : task ≡ x). (1, ap (λ (t : Task). Some t) (sym e)))
    (λ (k : Has xs task). let r = has_number xs task k in number_more r.0 r.1)
    is
  where
    number_more : (n : ℕ) → numbered xs n ≡ Some task → (m : ℕ) × (numbered (x ∷ xs) m ≡ Some task)
    number_more zero at = absurd (none-some task at)
    number_more (suc n) at = (suc (suc n), at)
