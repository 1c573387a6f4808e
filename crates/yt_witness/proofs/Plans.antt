-- The jobs of a pattern: how many they are, and when they arrive.
use Rattle.std.proofs.Common.{◌≡◌, ℕ, zero, suc, ◌+◌, ◌-◌, ◌*◌, ◌/◌, ◌<◌, ◌≤◌, get_or, drop, take, length, slice_get, Option, Some, None, List, [], ◌∷◌, refl, sym, ap, subst, ◌∙◌, inl, inr, ⊎_elim, arith, drop-cons}
use Rattle.std.proofs.Math.Nat.{div-mul-le_self}
use Rattle.std.specs.List.{All, sum_by}
use Rattle.std.specs.Prelude.{IsSomeAnd}
use Rattle.std.proofs.lemmas.Bool.{cases_eq}
use Rattle.std.proofs.lemmas.List.{drop_all, take_all}
use Rattle.std.proofs.lemmas.List.Sums.{sum_by_more, sum_by_more_le}
use Rattle.std.proofs.lemmas.Option.{get_or_from_slice_get, none-some, slice_get-get_or, slice_get_within}
use Rattle.yt_list.specs.Numbered.{numbered}
use Rattle.yt_set.specs.declared.task.Task.{Task}
use Rattle.yt_set.specs.Tasks.{LacksRoom, floor_of}
use Rattle.yt_log.specs.declared.plan.PlanItem.{PlanItem}
use Rattle.yt_log.specs.Patterns.{Arrivals, all_arriving, item_before, jobs_arriving}
use Rattle.yt_log.specs.Tasks.{Has, no_task}
use Rattle.yt_log.proofs.Lemmas.{has_append, has_sorted}
use Rattle.yt_order.specs.Sorting.{sort_by}
use Rattle.yt_witness.specs.declared.pattern.Pattern.{Pattern}
use Rattle.yt_witness.specs.declared.pattern.Pattern.TheVariants.{All as Everyone, Blocker}
use Rattle.yt_witness.specs.Inside.Merging.{with_all}
use Rattle.yt_witness.specs.Witnesses.{IsPatternOf, arrivals_of, horizon, job_count, plan_of}
use Rattle.yt_witness.proofs.Merging.{job_arrives, sorted_front}
use Rattle.yt_witness.proofs.Places.{all_at, blocker_at, length_arrivals, of, other_at}

-- the jobs of one more task
pub count_more : (all : List Arrivals) (n : ℕ) (a : Arrivals) (jobs : ℕ) → slice_get all n ≡ Some a → jobs ≡ sum_by (λ x. x.count) (take n all) → jobs + a.count ≡ sum_by (λ x. x.count) (take (n + 1) all)
count_more all n a jobs at is =
    let more = sum_by_more (λ (x : Arrivals). x.count) all n a (slice_get_within all n a at) in
    let same : (get_or all n a).count ≡ a.count = ap (λ (x : Arrivals). x.count) (get_or_from_slice_get all n a a at) in
    omega arith

-- of all tasks
pub count_all : (all : List Arrivals) (n jobs : ℕ) → length all ≤ n → jobs ≡ sum_by (λ x. x.count) (take n all) → jobs ≡ sum_by (λ x. x.count) all
count_all all n jobs le is = is ∙ ap (sum_by (λ (x : Arrivals). x.count)) (take_all n all le)

-- the jobs of a task are among those of all
pub one_of_all : (tasks : List Task) (pattern : Pattern) (k : ℕ) (a : Arrivals) → slice_get (arrivals_of tasks pattern) k ≡ Some a → a.count ≤ job_count tasks pattern
one_of_all tasks pattern k a at =
    let all = arrivals_of tasks pattern in
    let sum = sum_by_more_le (λ (x : Arrivals). x.count) all k a (slice_get_within all k a at) in
    let same : (get_or all k a).count ≡ a.count = ap (λ (x : Arrivals). x.count) (get_or_from_slice_get all k a a at) in
    omega arith

-- the arrivals from a place on: those there, and the others
arrivals_left : (xs : List Arrivals) (k : ℕ) (a : Arrivals) → slice_get xs k ≡ Some a → drop k xs ≡ a ∷ drop (suc k) xs
arrivals_left xs k a at = drop-cons xs k a (slice_get_within xs k a at) ∙ ap (λ (x : Arrivals). x ∷ drop (suc k) xs) (get_or_from_slice_get xs k a a at)

-- the jobs of one more task, in front of those of the tasks behind it
one_more : (all : List Arrivals) (k : ℕ) (a : Arrivals) (items : List PlanItem) → slice_get all k ≡ Some a → items ≡ sort_by item_before (all_arriving (suc (suc k)) (drop (suc k) all)) →
    with_all (jobs_arriving (suc k) a a.count) items ≡ sort_by item_before (all_arriving (suc k) (drop k all))
one_more all k a items at is =
    ap (with_all (jobs_arriving (suc k) a a.count)) is
    ∙ sym (sorted_front (jobs_arriving (suc k) a a.count) (all_arriving (suc (suc k)) (drop (suc k) all)))
    ∙ ap (λ (xs : List Arrivals). sort_by item_before (all_arriving (suc k) xs)) (sym (arrivals_left all k a at))

-- no jobs are behind those of all tasks
pub none_behind : (all : List Arrivals) (n : ℕ) → length all ≤ n → sort_by item_before (all_arriving (suc n) (drop n all)) ≡ []
none_behind all n le = ap (λ (xs : List Arrivals). sort_by item_before (all_arriving (suc n) xs)) (drop_all n all le)

-- the jobs of a task, and those of the tasks behind it
pub one_task : (all : List Arrivals) (task : ℕ) (a : Arrivals) (jobs items : List PlanItem) → numbered all task ≡ Some a → jobs ≡ jobs_arriving task a a.count →
    items ≡ sort_by item_before (all_arriving (suc task) (drop task all)) → with_all jobs items ≡ sort_by item_before (all_arriving (suc (task - 1)) (drop (task - 1) all))
one_task all zero a jobs items at its is = absurd (none-some a at)
one_task all (suc k) a jobs items at its is =
    let less : suc k - 1 ≡ k = omega arith in
    subst (λ (n : ℕ). with_all jobs items ≡ sort_by item_before (all_arriving (suc n) (drop n all))) (sym less)
    (ap (λ (xs : List PlanItem). with_all xs items) its ∙ one_more all k a items at is)

-- the jobs of these arrivals are due by h
abbrev pub EndBy : ℕ → Arrivals → Type 0
EndBy h a = a.first + a.count * a.step ≤ h + a.step

ends_early : (h n : ℕ) (all : List Arrivals) → ((k : ℕ) (a : Arrivals) → slice_get all k ≡ Some a → EndBy h a) → (e : PlanItem) → Has (all_arriving n all) e → e.arrival ≤ h
ends_early h n [] ends e is = absurd is
ends_early h n (a ∷ all) ends e is =
    ⊎_elim
    (λ (here : Has (jobs_arriving n a a.count) e).
    let by = job_arrives n a a.count e here in
    let most = ends 0 a refl in
    omega arith)
    (λ (there : Has (all_arriving (suc n) all) e). ends_early h (suc n) all (λ k b at. ends (suc k) b at) e there)
    (has_append (jobs_arriving n a a.count) (all_arriving (suc n) all) e is)

task_there : (tasks : List Task) (k : ℕ) → k < length tasks → slice_get tasks k ≡ Some (get_or tasks k no_task)
task_there tasks k lt = slice_get-get_or tasks k no_task lt

same_arrivals : (xs : List Arrivals) (k : ℕ) (a b : Arrivals) → slice_get xs k ≡ Some a → slice_get xs k ≡ Some b → a ≡ b
same_arrivals xs k a b p q = let e = sym p ∙ q in cc

-- a span in which a task lacks room isn't empty
pub lacking_some : (tasks : List Task) (span : ℕ) (task : Task) → LacksRoom tasks span task → 1 ≤ span
lacking_some tasks span task lacks = some (floor_of tasks task.resource) lacks.0
  where
    some : (o : Option ℕ) → IsSomeAnd o (λ floor. floor < span) → 1 ≤ span
    some None h = absurd h
    some (Some floor) h = omega arith

ends_by : (tasks : List Task) (pattern : Pattern) → IsPatternOf tasks pattern → (k : ℕ) (a : Arrivals) → slice_get (arrivals_of tasks pattern) k ≡ Some a → EndBy (horizon pattern) a
ends_by tasks (Everyone upto) is k a at =
    let count = length_arrivals tasks (Everyone upto) in
    let within = slice_get_within (arrivals_of tasks (Everyone upto)) k a at in
    let task = get_or tasks k no_task in
    let there = task_there tasks k (omega arith) in
    let told = all_at tasks upto (suc k) task there in
    let same = same_arrivals (arrivals_of tasks (Everyone upto)) k a (of task 0 (upto / task.period)) at told in
    let most = div-mul-le_self upto task.period in
    subst (λ (b : Arrivals). EndBy upto b) (sym same) (omega arith)
ends_by tasks (Blocker i span) is k a at =
    let count = length_arrivals tasks (Blocker i span) in
    let within = slice_get_within (arrivals_of tasks (Blocker i span)) k a at in
    let task = get_or tasks k no_task in
    let there = task_there tasks k (omega arith) in
    let some = lacking_some tasks span is.task is.lacks in
    ⊎_elim
    (λ (e : suc k ≡ i).
    let told = blocker_at tasks i span (suc k) task there e in
    let same = same_arrivals (arrivals_of tasks (Blocker i span)) k a (of task 0 1) at told in
    subst (λ (b : Arrivals). EndBy span b) (sym same) (omega arith))
    (λ (ne : suc k ≡ i → ⊥).
    let told = other_at tasks i span (suc k) task there ne in
    let same = same_arrivals (arrivals_of tasks (Blocker i span)) k a (of task 1 ((span - 1) / task.period)) at told in
    let most = div-mul-le_self (span - 1) task.period in
    subst (λ (b : Arrivals). EndBy span b) (sym same) (omega arith))
    (cases_eq (suc k) i)

-- each job of a pattern's plan arrives by the horizon
arrives_early : (tasks : List Task) (pattern : Pattern) → IsPatternOf tasks pattern → (e : PlanItem) → Has (plan_of tasks pattern) e → e.arrival ≤ horizon pattern
arrives_early tasks pattern is e has =
    ends_early (horizon pattern) 1 (arrivals_of tasks pattern) (ends_by tasks pattern is) e (has_sorted item_before (all_arriving 1 (arrivals_of tasks pattern)) e has)

has_get : {X : Type 0} (xs : List X) (k : ℕ) (d : X) → k < length xs → Has xs (get_or xs k d)
has_get [] k d lt = absurd (omega arith)
has_get (x ∷ xs) zero d lt = inl refl
has_get (x ∷ xs) (suc k) d lt = inr (has_get xs k d (omega arith))

-- so all of them arrive early enough for a legal plan
pub all_early : (tasks : List Task) (pattern : Pattern) → IsPatternOf tasks pattern → (most : ℕ) → horizon pattern ≤ most → All (λ (e : PlanItem). e.arrival ≤ most) (plan_of tasks pattern)
all_early tasks pattern is most le k d lt =
    let by = arrives_early tasks pattern is (get_or (plan_of tasks pattern) k d) (has_get (plan_of tasks pattern) k d lt) in
    omega arith
