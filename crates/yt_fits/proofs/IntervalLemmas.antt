-- Where jobs that keep their resources leave room for others.
use Rattle.std.proofs.Common.{◌≡◌, ℕ, ◌+◌, ◌-◌, ◌*◌, ◌<◌, ◌≤◌, Bool, true, false, cond, eqb, eq-eqb, min, List, [], ◌∷◌, length, map, take, slice_get, slice_index_or, Option, Some, None, refl, sym, ap, subst, ◌∙◌, ⊎_elim, arith}
use Rattle.std.specs.Prelude.{IsSomeAnd}
use Rattle.std.proofs.lemmas.Bool.{cases_eq, cases_lt}
use Rattle.std.proofs.lemmas.List.{take_all}
use Rattle.std.proofs.lemmas.List.Elements.{All-append, All-filter, All-map}
use Rattle.std.proofs.lemmas.List.Sums.{sum_by_more, sum_by-cons}
use Rattle.std.proofs.lemmas.Option.{get_or_from_slice_get, slice_get_within}
use Rattle.std.specs.List.{All, fold, reduce, sum_by}
use Rattle.yt_list.specs.Numbered.{numbered}
use Rattle.yt_list.proofs.Lemmas.{numbered_next, numbered_there}
use Rattle.yt_set.specs.declared.task.Task.{Task}
use Rattle.yt_set.specs.Tasks.{FitsInterval, LacksRoom, LeavesRoom, demand_bound, floor_of, jobs_due, users_of, within}
use Rattle.yt_set.proofs.Lemmas.{AreDueInPeriods, IsDueInPeriod, all_first, all_one, all_rest, none_due, same_jobs_due}
use Rattle.yt_fits.specs.declared.interval.Breach.{Breach}
use Rattle.yt_fits.specs.Intervals.{HaveRoom, IsLowestBreach}
use Rattle.yt_fits.specs.Inside.Streams.{IsBeforeNext}
use Rattle.yt_fits.proofs.MultipleLemmas.{take_next}

-- what holds of two numbers holds of the lesser, and so of the least of many

min_keeps : (P : ℕ → Type 0) (a b : ℕ) → P a → P b → P (min a b)
min_keeps P a b p q =
    ⊎_elim
    (λ (h : a < b). let e : a ≡ min a b = omega arith in subst P e p)
    (λ (h : b ≤ a). let e : b ≡ min a b = omega arith in subst P e q)
    (cases_lt a b)

fold_keeps : (P : ℕ → Type 0) (a : ℕ) (xs : List ℕ) → P a → All P xs → P (fold min a xs)
fold_keeps P a [] p all = p
fold_keeps P a (x ∷ xs) p all = fold_keeps P (min a x) xs (min_keeps P a x p (all_first P x xs all)) (all_rest P x xs all)

reduce_keeps : (P : ℕ → Type 0) (xs : List ℕ) (n : ℕ) → All P xs → reduce min xs ≡ Some n → P n
reduce_keeps P [] n all e = cc
reduce_keeps P (x ∷ xs) n all e = let same : fold min x xs ≡ n = cc in subst P same (fold_keeps P x xs (all_first P x xs all) (all_rest P x xs all))

-- so what holds of each task's `within` holds of a floor
pub floor_keeps : (P : ℕ → Type 0) (tasks : List Task) (r floor : ℕ) → All (λ t. P (within t)) tasks → floor_of tasks r ≡ Some floor → P floor
floor_keeps P tasks r floor all e = by (eqb r 0) e
  where
    by : (b : Bool) → cond b None (reduce min (map within (users_of tasks r))) ≡ Some floor → P floor
    by true q = cc
    by false q = reduce_keeps P (map within (users_of tasks r)) floor (All-map P within (users_of tasks r) (All-filter (λ t. eqb t.resource r) (λ t. P (within t)) tasks all)) q

-- what holds of the first n elements and of the next holds of one more, and of all once all are among them
pub all_next : {X : Type 0} (P : X → Type 0) (xs : List X) (n : ℕ) (x : X) → numbered xs (n + 1) ≡ Some x → All P (take n xs) → P x → All P (take (n + 1) xs)
all_next P xs n x at before here =
    subst (All P) (sym (take_next xs n x (sym (numbered_next xs n) ∙ at))) (All-append P (take n xs) (x ∷ []) before (all_one P x here))

pub all_taken : {X : Type 0} (P : X → Type 0) (xs : List X) (n : ℕ) → length xs ≤ n → All P (take n xs) → All P xs
all_taken P xs n out before = subst (All P) (take_all n xs out) before

-- and where it holds of each for one bound, it does for a greater
pub all_wider : {X : Type 0} (P Q : X → Type 0) (xs : List X) → ((x : X) → P x → Q x) → All P xs → All Q xs
all_wider P Q xs wider before = λ k d lt. wider (slice_index_or xs k d) (before k d lt)

-- the demand with one more task
pub demand_next : (tasks : List Task) (n t : ℕ) (task : Task) → slice_get tasks n ≡ Some task → demand_bound (take (n + 1) tasks) t ≡ demand_bound (take n tasks) t + jobs_due task t * task.cost
demand_next tasks n t task at =
    sum_by_more (λ (x : Task). jobs_due x t * x.cost) tasks n task (slice_get_within tasks n task at)
    ∙ ap (λ (x : Task). demand_bound (take n tasks) t + jobs_due x t * x.cost) (get_or_from_slice_get tasks n task task at)

pub same_sum : {X : Type 0} (f g : X → ℕ) (xs : List X) → All (λ x. f x ≡ g x) xs → sum_by f xs ≡ sum_by g xs
same_sum f g [] all = refl
same_sum f g (x ∷ xs) all =
    let here = all_first (λ y. f y ≡ g y) x xs all in
    let rest = same_sum f g xs (all_rest (λ y. f y ≡ g y) x xs all) in
    sum_by-cons f x xs ∙ ap (λ n. n + sum_by f xs) here ∙ ap (λ n. g x + n) rest ∙ sym (sum_by-cons g x xs)

-- up to the next point the demand stays the same
same_demand : (tasks : List Task) (point next t : ℕ) → AreDueInPeriods tasks → IsBeforeNext tasks point next → point ≤ t → t < next → demand_bound tasks t ≡ demand_bound tasks point
same_demand tasks point next t due before from to =
    same_sum (λ (x : Task). jobs_due x t * x.cost) (λ (x : Task). jobs_due x point * x.cost) tasks
    (λ k d lt. let x = slice_index_or tasks k d in ap (λ n. n * x.cost) (same_jobs_due x point next t (due k d lt) (before k d lt) from to))

behind_point : (task : Task) (point next : ℕ) → IsDueInPeriod task → next ≤ jobs_due task point * task.period + within task → within task < next → within task ≤ point
behind_point task point next is h less =
    ⊎_elim
    (λ (short : point < within task). let one : jobs_due task point * task.period ≡ 0 = ap (λ n. n * task.period) (none_due task point is short) ∙ (omega arith) in absurd (omega arith))
    (λ (long : within task ≤ point). long)
    (cases_lt point (within task))

-- no floor lies between
floor_behind : (tasks : List Task) (point next r floor : ℕ) → AreDueInPeriods tasks → IsBeforeNext tasks point next → floor_of tasks r ≡ Some floor → floor < next → floor ≤ point
floor_behind tasks point next r floor due before is less =
    floor_keeps (λ n. n < next → n ≤ point) tasks r floor
    (λ k d lt. let x = slice_index_or tasks k d in behind_point x point next (due k d lt) (before k d lt)) is less

pub some_and : (o : Option ℕ) (P Q : ℕ → Type 0) → ((n : ℕ) → o ≡ Some n → P n → Q n) → IsSomeAnd o P → IsSomeAnd o Q
some_and None P Q f h = absurd h
some_and (Some n) P Q f h = f n refl h

-- a task that lacks room in a span up to the next point lacks it in one a tick longer than the first
shorter : (tasks : List Task) (point next span : ℕ) (task : Task) → AreDueInPeriods tasks → IsBeforeNext tasks point next → point + 2 ≤ span → span ≤ next → LacksRoom tasks span task → LacksRoom tasks (point + 1) task
shorter tasks point next span task due before from to lacks =
    let same = same_demand tasks point next (span - 1) due before (omega arith) (omega arith) in
    let here : demand_bound tasks (point + 1 - 1) ≡ demand_bound tasks point = ap (demand_bound tasks) (omega arith) in
    let below = lacks.1 in
    let over = lacks.2 in (
      some_and (floor_of tasks task.resource) (λ n. n < span) (λ n. n < point + 1)
          (λ n is less. let behind = floor_behind tasks point next task.resource n due before is (omega arith) in omega arith) lacks.0,
      omega arith,
      omega arith,
    )

-- so where none lacks room up to there, none does up to the next point
pub room_between : (tasks : List Task) (point next : ℕ) → AreDueInPeriods tasks → IsBeforeNext tasks point next → ((span : ℕ) → span ≤ point + 1 → HaveRoom tasks span tasks) → (span : ℕ) → span ≤ next → HaveRoom tasks span tasks
room_between tasks point next due before rooms span h =
    ⊎_elim
    (λ (short : span < point + 2). rooms span (omega arith))
    (λ (long : point + 2 ≤ span). λ k d lt lacks. rooms (point + 1) (omega arith) k d lt (shorter tasks point next span (slice_index_or tasks k d) due before long h lacks))
    (cases_lt span (point + 2))

-- one more span
pub room_more : (tasks : List Task) (point : ℕ) → ((span : ℕ) → span ≤ point → HaveRoom tasks span tasks) → HaveRoom tasks (point + 1) tasks → (span : ℕ) → span ≤ point + 1 → HaveRoom tasks span tasks
room_more tasks point before here span h =
    ⊎_elim
    (λ (e : span ≡ point + 1). subst (λ s. HaveRoom tasks s tasks) (sym e) here)
    (λ (ne : span ≡ point + 1 → ⊥). before span (omega arith))
    (cases_eq span (point + 1))

-- where the span is empty
pub room_at_zero : (tasks : List Task) (span : ℕ) → span ≤ 0 → HaveRoom tasks span tasks
room_at_zero tasks span none = λ k d lt lacks. nothing (floor_of tasks (slice_index_or tasks k d).resource) lacks.0
  where
    nothing : (o : Option ℕ) → IsSomeAnd o (λ n. n < span) → ⊥
    nothing None h = h
    nothing (Some n) h = omega arith

-- a task that lacks room is under a resource
has_resource : (tasks : List Task) (span : ℕ) (task : Task) → LacksRoom tasks span task → 1 ≤ task.resource
has_resource tasks span task lacks =
    ⊎_elim
    (λ (e : task.resource ≡ 0). absurd (subst (λ b. IsSomeAnd (cond b None (reduce min (map within (users_of tasks task.resource)))) (λ n. n < span)) (eq-eqb task.resource 0 e) lacks.0))
    (λ (ne : task.resource ≡ 0 → ⊥). omega arith)
    (cases_eq task.resource 0)

-- in spans as long as the longest time to a deadline none lacks room
pub room_beyond : (tasks : List Task) (longest point : ℕ) → All (λ task. 1 ≤ task.resource → within task ≤ longest) tasks → longest ≤ point + 1 → ((span : ℕ) → span ≤ point → HaveRoom tasks span tasks) → (span : ℕ) → HaveRoom tasks span tasks
room_beyond tasks longest point all end before span =
    ⊎_elim
    (λ (long : point < span).
    λ k d lt lacks.
    let task = slice_index_or tasks k d in
    let short = all k d lt (has_resource tasks span task lacks) in
    let below : span < within task = lacks.1 in
    omega arith)
    (λ (short : span ≤ point). before span short)
    (cases_lt point span)

-- one more task
pub room_next : (tasks : List Task) (span n : ℕ) (task : Task) → slice_get tasks n ≡ Some task → HaveRoom tasks span (take n tasks) → (LacksRoom tasks span task → ⊥) → HaveRoom tasks span (take (n + 1) tasks)
room_next tasks span n task at before here =
    let P : Task → Type 0 = λ t. LacksRoom tasks span t → ⊥ in
    subst (All P) (sym (take_next tasks n task at)) (All-append P (take n tasks) (task ∷ []) before (all_one P task here))

-- where none lacks room, each leaves it
pub fits_from_room : (tasks : List Task) → ((span : ℕ) → HaveRoom tasks span tasks) → FitsInterval tasks
fits_from_room tasks rooms = λ k d lt span lacks. rooms span k d lt lacks

pub breach_unfits : (tasks : List Task) (breach : Breach) → IsLowestBreach tasks breach → FitsInterval tasks → ⊥
breach_unfits tasks breach is fits =
    let n = breach.task - 1 in
    let at = (numbered_there tasks breach.task is.task is.there).1 in
    let leaves = subst (LeavesRoom tasks) (get_or_from_slice_get tasks n is.task is.task at) (fits n is.task (slice_get_within tasks n is.task at)) in
    leaves breach.len is.lacks
