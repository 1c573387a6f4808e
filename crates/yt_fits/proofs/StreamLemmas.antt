-- Tasks whose jobs are due at the same points, taken together.
use Rattle.std.proofs.Common.{◌≡◌, ℕ, ◌+◌, ◌-◌, ◌*◌, ◌/◌, ◌<◌, ◌≤◌, List, [], ◌∷◌, ◌++◌, length, drop, slice_index_or, slice_set, refl, sym, ap, subst, ◌∙◌, ⊎_elim, arith}
use Rattle.std.proofs.lemmas.Bool.{cases_eq, cases_lt}
use Rattle.std.proofs.lemmas.List.{get_or-set_other, get_or-set_same, get_or_default, length-append, length-set, take-append-le, take_all}
use Rattle.std.proofs.lemmas.List.Elements.{All-append, All-contains, All-set, All-weaker, Contains-append_left, Contains-get_or, Contains-push}
use Rattle.std.proofs.lemmas.List.Sums.{sum_by-append, sum_by-cons, sum_by-le, sum_by-set}
use Rattle.std.proofs.lemmas.Nat.{mul-le}
use Rattle.std.proofs.Math.Nat.{div-eq_of_lt-le}
use Rattle.std.specs.List.{All, refill, sum_by}
use Rattle.yt_set.specs.declared.task.Task.{Task}
use Rattle.yt_set.specs.Limits.{most_ticks}
use Rattle.yt_set.specs.Tasks.{IsTask, demand_bound, jobs_due, within}
use Rattle.yt_set.proofs.Lemmas.{all_one}
use Rattle.yt_fits.specs.declared.stream.Stream.{Stream}
use Rattle.yt_fits.specs.Inside.Streams.{AreStreamsOf, IsBeforeNext, IsPaced, cost_counted, due_in, next_of}
use Rattle.yt_fits.specs.Inside.Walks.{stream_at}
use Rattle.yt_fits.proofs.IntervalLemmas.{same_sum}

abbrev pub nothing : Stream
nothing = record { cost = 0; period = 0; within = 0; jobs = 0 }

-- what holds of a list with one more holds of the list and of that one
all_before : {X : Type 0} (P : X → Type 0) (xs : List X) (x : X) → All P (xs ++ x ∷ []) → All P xs
all_before P xs x all = λ k d lt. All-contains P (xs ++ x ∷ []) (slice_index_or xs k d) all (Contains-append_left xs (x ∷ []) (slice_index_or xs k d) (Contains-get_or xs k d lt))

all_last : {X : Type 0} (P : X → Type 0) (xs : List X) (x : X) → All P (xs ++ x ∷ []) → P x
all_last P xs x all = All-contains P (xs ++ x ∷ []) x all (Contains-push xs x)

-- what holds of a list in which one was changed held of it before, if it then did of that one
pub all_unset : {X : Type 0} (P : X → Type 0) (xs : List X) (i : ℕ) (x none : X) → i < length xs → (P x → P (slice_index_or xs i none)) → All P (slice_set xs i x) → All P xs
all_unset P xs i x none inside back all =
    λ k d lt.
    ⊎_elim
    (λ (at : k ≡ i).
    let new : P x = subst P (get_or-set_same xs i x none inside) (all i none (omega (arith, length-set xs i x))) in
    let read : slice_index_or xs i none ≡ slice_index_or xs k d = ap (λ (n : ℕ). slice_index_or xs n none) (sym at) ∙ get_or_default xs k none d lt in
    subst P read (back new))
    (λ (ne : k ≡ i → ⊥). subst P (get_or-set_other xs i k x d ne) (all k d (omega (arith, length-set xs i x))))
    (cases_eq k i)

-- a number is at most its limit, and so at most that of a longer list
paced_wider : (streams : List Stream) (cost more : ℕ) → cost ≤ more → All (λ s. IsPaced s cost) streams → All (λ s. IsPaced s more) streams
paced_wider streams cost more h all =
    All-weaker (λ s. IsPaced s cost) (λ s. IsPaced s more)
    (λ (s : Stream) is. let cheap = is.cheap in record { due = is.due; in_period = is.in_period; short = is.short; some = is.some; cheap = omega arith })
    streams all

longer : (tasks : List Task) (task : Task) → length (tasks ++ task ∷ []) ≡ length tasks + 1
longer tasks task = length-append tasks (task ∷ [])

-- the demand with one more task
demand_more : (tasks : List Task) (task : Task) (t : ℕ) → demand_bound (tasks ++ task ∷ []) t ≡ demand_bound tasks t + jobs_due task t * task.cost
demand_more tasks task t =
    let f = λ (x : Task). jobs_due x t * x.cost in
    let one : sum_by f (task ∷ []) ≡ f task + sum_by f [] = sum_by-cons f task [] in
    let none : sum_by f [] ≡ 0 = refl in
    let joined : sum_by f (tasks ++ task ∷ []) ≡ sum_by f tasks + sum_by f (task ∷ []) = sum_by-append f tasks (task ∷ []) in
    omega arith

streams_more : (streams : List Stream) (s : Stream) (t : ℕ) → sum_by (λ (x : Stream). due_in x t * x.cost) (streams ++ s ∷ []) ≡ sum_by (λ (x : Stream). due_in x t * x.cost) streams + due_in s t * s.cost
streams_more streams s t =
    let f = λ (x : Stream). due_in x t * x.cost in
    let one : sum_by f (s ∷ []) ≡ f s + sum_by f [] = sum_by-cons f s [] in
    let none : sum_by f [] ≡ 0 = refl in
    let joined : sum_by f (streams ++ s ∷ []) ≡ sum_by f streams + sum_by f (s ∷ []) = sum_by-append f streams (s ∷ []) in
    omega arith

-- a stream goes at the pace of a task: as many of its jobs are due in each span
pub record GoesAs (task : Task) (s : Stream) : Type 0 where
  pub period : s.period ≡ task.period
  pub due : s.within ≡ within task

same_due : (task : Task) (s : Stream) (t : ℕ) → GoesAs task s → due_in s t ≡ jobs_due task t
same_due task s t goes =
    ap (λ (p : ℕ). (t + p - s.within) / p) goes.period ∙ ap (λ (w : ℕ). (t + task.period - w) / task.period) goes.due

before_as : (task : Task) (s : Stream) (point next : ℕ) → GoesAs task s → next ≤ due_in s point * s.period + s.within → next ≤ jobs_due task point * task.period + within task
before_as task s point next goes h =
    let same : due_in s point * s.period + s.within ≡ jobs_due task point * task.period + within task =
    ap (λ (n : ℕ). n * s.period + s.within) (same_due task s point goes)
    ∙ ap (λ (p : ℕ). jobs_due task point * p + s.within) goes.period
    ∙ ap (λ (w : ℕ). jobs_due task point * task.period + w) goes.due in
    omega arith

ahead_as : (task : Task) (s : Stream) (point next : ℕ) → GoesAs task s → next ≤ jobs_due task point * task.period + within task → next ≤ due_in s point * s.period + s.within
ahead_as task s point next goes h =
    let same : due_in s point * s.period + s.within ≡ jobs_due task point * task.period + within task =
    ap (λ (n : ℕ). n * s.period + s.within) (same_due task s point goes)
    ∙ ap (λ (p : ℕ). jobs_due task point * p + s.within) goes.period
    ∙ ap (λ (w : ℕ). jobs_due task point * task.period + w) goes.due in
    omega arith

-- a task that is in no stream comes as a new one
pub join_new : (tasks : List Task) (streams : List Stream) (task : Task) (s : Stream) → IsTask task → GoesAs task s → s.cost ≡ task.cost → AreStreamsOf tasks streams → AreStreamsOf (tasks ++ task ∷ []) (streams ++ s ∷ [])
join_new tasks streams task s is goes cost are =
    let more = longer tasks task in
    let also : length (streams ++ s ∷ []) ≡ length streams + 1 = length-append streams (s ∷ []) in
    let few = are.few in
    let period = goes.period in
    let due = goes.due in
    let least = is.0 in
    let most = is.1 in
    let positive = is.2 in
    let short = is.3 in
    record {
      few = omega arith;
      paced = All-append (λ x. IsPaced x (length (tasks ++ task ∷ []) * most_ticks)) streams (s ∷ [])
          (paced_wider streams (length tasks * most_ticks) (length (tasks ++ task ∷ []) * most_ticks) (omega arith) are.paced)
          (all_one (λ x. IsPaced x (length (tasks ++ task ∷ []) * most_ticks)) s
          (record { due = omega arith; in_period = omega arith; short = omega arith; some = omega arith; cheap = omega arith }));
      demand = λ t.
          let old = are.demand t in
          let same : due_in s t * s.cost ≡ jobs_due task t * task.cost = ap (λ (n : ℕ). n * s.cost) (same_due task s t goes) ∙ ap (λ (n : ℕ). jobs_due task t * n) cost in
          let left = streams_more streams s t in
          let right = demand_more tasks task t in
          omega arith;
      all = λ point next h.
          let P : Stream → Type 0 = λ x. next ≤ due_in x point * x.period + x.within in
          let Q : Task → Type 0 = λ x. next ≤ jobs_due x point * x.period + within x in
          All-append Q tasks (task ∷ []) (are.all point next (all_before P streams s h)) (all_one Q task (before_as task s point next goes (all_last P streams s h)));
    }

-- one that is in a stream makes it dearer
pub join_old : (tasks : List Task) (streams : List Stream) (task : Task) (i : ℕ) (s : Stream) → IsTask task → i < length streams → GoesAs task (stream_at streams i) → s.period ≡ (stream_at streams i).period → s.within ≡ (stream_at streams i).within
    → s.cost ≡ (stream_at streams i).cost + task.cost → AreStreamsOf tasks streams → AreStreamsOf (tasks ++ task ∷ []) (slice_set streams i s)
join_old tasks streams task i s is inside goes period due cost are =
    let old = stream_at streams i in
    let more = longer tasks task in
    let also : length (slice_set streams i s) ≡ length streams = length-set streams i s in
    let few = are.few in
    let was = are.paced i nothing inside in
    let d = was.due in
    let p = was.in_period in
    let m = was.short in
    let o = was.some in
    let c = was.cheap in
    let dear = is.1 in
    let now : GoesAs task s = record { period = period ∙ goes.period; due = due ∙ goes.due } in
    let wide : length tasks * most_ticks + most_ticks ≤ length (tasks ++ task ∷ []) * most_ticks = omega arith in
    record {
      few = omega arith;
      paced = All-set (λ x. IsPaced x (length (tasks ++ task ∷ []) * most_ticks)) streams i s
          (record { due = omega arith; in_period = omega arith; short = omega arith; some = omega arith; cheap = omega arith })
          (paced_wider streams (length tasks * most_ticks) (length (tasks ++ task ∷ []) * most_ticks) (omega arith) are.paced);
      demand = λ t.
          let f = λ (x : Stream). due_in x t * x.cost in
          let sums : sum_by f (slice_set streams i s) + f old ≡ sum_by f streams + f s = sum_by-set f streams i s nothing inside in
          let before : sum_by f streams ≡ demand_bound tasks t = are.demand t in
          let here : due_in s t * s.cost ≡ jobs_due task t * old.cost + jobs_due task t * task.cost = ap (λ (n : ℕ). n * s.cost) (same_due task s t now) ∙ ap (λ (n : ℕ). jobs_due task t * n) cost ∙ spread (jobs_due task t) old.cost task.cost in
          let there : due_in old t * old.cost ≡ jobs_due task t * old.cost = ap (λ (n : ℕ). n * old.cost) (same_due task old t goes) in
          let right = demand_more tasks task t in
          omega arith;
      all = λ point next h.
          let P : Stream → Type 0 = λ x. next ≤ due_in x point * x.period + x.within in
          let Q : Task → Type 0 = λ x. next ≤ jobs_due x point * x.period + within x in
          let here : P s = subst P (get_or-set_same streams i s nothing inside) (h i nothing (omega arith)) in
          let task_too : Q task = before_as task s point next now here in
          All-append Q tasks (task ∷ [])
          (are.all point next (all_unset P streams i s nothing inside (λ (x : P s). back point next task_too) h))
          (all_one Q task task_too);
    }
  where
    spread : (a b c : ℕ) → a * (b + c) ≡ a * b + a * c
    spread a b c = omega arith

    back : (point next : ℕ) → next ≤ jobs_due task point * task.period + within task → next ≤ due_in (stream_at streams i) point * (stream_at streams i).period + (stream_at streams i).within
    back point next h = ahead_as task (stream_at streams i) point next goes h

-- a list that is written back where as many were lent is that list
pub refilled : {X : Type 0} (n : ℕ) (xs ws : List X) → n ≡ length ws → refill n xs ws ≡ ws
refilled n xs ws e =
    let few : n ≤ length ws = omega arith in
    let many : length ws ≤ n = omega arith in
    take-append-le n ws (drop (length ws) xs) few ∙ take_all n ws many

-- a stream with the cost of one more task
abbrev pub with_cost : Stream → Task → Stream
with_cost s task = record { cost = s.cost + task.cost; period = s.period; within = s.within; jobs = s.jobs }

-- where the list was read and lent to be changed
pub join_lent : (tasks : List Task) (streams read lent : List Stream) (task : Task) (i : ℕ) → read ≡ streams → lent ≡ streams → IsTask task → i < length read → (stream_at read i).period ≡ task.period → (stream_at read i).within ≡ within task
    → AreStreamsOf tasks streams → AreStreamsOf (tasks ++ task ∷ []) (refill (length streams) streams (slice_set lent i (with_cost (stream_at lent i) task)))
join_lent tasks streams read lent task i e f is inside period due are =
    let here : i < length streams = subst (λ (l : List Stream). i < length l) e inside in
    let goes : GoesAs task (stream_at streams i) = record {
      period = subst (λ (l : List Stream). (stream_at l i).period ≡ task.period) e period;
      due = subst (λ (l : List Stream). (stream_at l i).within ≡ within task) e due;
    } in
    let s = with_cost (stream_at streams i) task in
    let joined = join_old tasks streams task i s is here goes refl refl refl are in
    let whole : refill (length streams) streams (slice_set streams i s) ≡ slice_set streams i s = refilled (length streams) streams (slice_set streams i s) (sym (length-set streams i s)) in
    subst (λ (l : List Stream). AreStreamsOf (tasks ++ task ∷ []) (refill (length streams) streams (slice_set l i (with_cost (stream_at l i) task)))) (sym f)
    (subst (AreStreamsOf (tasks ++ task ∷ [])) (sym whole) joined)

pub none_lent : (streams read lent : List Stream) (task : Task) (i : ℕ) → read ≡ streams → lent ≡ streams → i < length read → All (λ s. s.jobs ≡ 0) streams → All (λ s. s.jobs ≡ 0) (refill (length streams) streams (slice_set lent i (with_cost (stream_at lent i) task)))
none_lent streams read lent task i e f inside none =
    let here : i < length streams = subst (λ (l : List Stream). i < length l) e inside in
    let s = with_cost (stream_at streams i) task in
    let zero_there : (stream_at streams i).jobs ≡ 0 = none i nothing here in
    let still = All-set (λ (x : Stream). x.jobs ≡ 0) streams i s zero_there none in
    let whole : refill (length streams) streams (slice_set streams i s) ≡ slice_set streams i s = refilled (length streams) streams (slice_set streams i s) (sym (length-set streams i s)) in
    subst (λ (l : List Stream). All (λ (x : Stream). x.jobs ≡ 0) (refill (length streams) streams (slice_set l i (with_cost (stream_at l i) task)))) (sym f)
    (subst (All (λ (x : Stream). x.jobs ≡ 0)) (sym whole) still)

-- no tasks have no streams
pub streams_none : AreStreamsOf [] []
streams_none = record {
  few = omega arith;
  paced = λ k d lt. absurd (omega arith);
  demand = λ t. refl;
  all = λ point next h k d lt. absurd (omega arith);
}

-- as many jobs as are counted are due where the next is behind the point, and isn't so by more than a period
jobs_here : (c p w point : ℕ) → 1 ≤ w → w ≤ p → point < c * p + w → c * p + w ≤ point + p → (point + p - w) / p ≡ c
jobs_here c p w point some short from to =
    let least : c * p ≤ point + p - w = omega arith in
    let one : (c + 1) * p ≡ c * p + p = omega arith in
    let most : point + p - w < (c + 1) * p = omega arith in
    div-eq_of_lt-le p least most

-- where all next points are behind a point, and none by more than its period
pub record AreNext (streams : List Stream) (point : ℕ) : Type 0 where
  pub ahead : All (λ s. point < next_of s) streams
  pub near : All (λ s. next_of s ≤ point + s.period) streams

stream_here : (tasks : List Task) (streams : List Stream) (point : ℕ) → AreStreamsOf tasks streams → AreNext streams point → All (λ s. due_in s point ≡ s.jobs) streams
stream_here tasks streams point are next =
    λ k d lt.
    let s = slice_index_or streams k d in
    let is = are.paced k d lt in
    jobs_here s.jobs s.period s.within point is.due is.in_period (next.ahead k d lt) (next.near k d lt)

-- what is counted is the demand of the point
pub demand_here : (tasks : List Task) (streams : List Stream) (point : ℕ) → AreStreamsOf tasks streams → AreNext streams point → cost_counted streams ≡ demand_bound tasks point
demand_here tasks streams point are next =
    same_sum (λ (s : Stream). s.jobs * s.cost) (λ (s : Stream). due_in s point * s.cost) streams
    (λ k d lt. ap (λ (n : ℕ). n * (slice_index_or streams k d).cost) (sym (stream_here tasks streams point are next k d lt)))
    ∙ are.demand point

-- and no job more of a task is due before the least of the next points
pub before_least : (tasks : List Task) (streams : List Stream) (point least : ℕ) → AreStreamsOf tasks streams → AreNext streams point → All (λ s. least ≤ next_of s) streams → IsBeforeNext tasks point least
before_least tasks streams point least are next all =
    are.all point least
    (λ k d lt.
    let s = slice_index_or streams k d in
    let P : ℕ → Type 0 = λ n. least ≤ n * s.period + s.within in
    subst P (sym (stream_here tasks streams point are next k d lt)) (all k d lt))

-- what is counted has a bound
jobs_few : (c p w point : ℕ) → 1 ≤ p → 1 ≤ w → c * p + w ≤ point + p → c ≤ point + 1
jobs_few c p w point some due near =
    ⊎_elim
    (λ (many : point + 1 < c).
    let a : (point + 2) * p ≤ c * p = mul-le (point + 2) p c p (omega arith) (omega arith) in
    let b : (point + 1) * 1 ≤ (point + 1) * p = mul-le (point + 1) 1 (point + 1) p (omega arith) some in
    let e : (point + 2) * p ≡ (point + 1) * p + p = omega arith in
    absurd (omega arith))
    (λ (few : c ≤ point + 1). few)
    (cases_lt (point + 1) c)

pub jobs_small : (tasks : List Task) (streams : List Stream) (point i : ℕ) → AreStreamsOf tasks streams → All (λ s. next_of s ≤ point + s.period) streams → i < length streams → (stream_at streams i).jobs ≤ point + 1
jobs_small tasks streams point i are near inside =
    let s = stream_at streams i in
    let is = are.paced i nothing inside in
    let some = is.due in
    let period = is.in_period in
    jobs_few s.jobs s.period s.within point (omega arith) some (near i nothing inside)

pub cost_small : (tasks : List Task) (streams : List Stream) (point : ℕ) → length tasks ≤ 64 → AreStreamsOf tasks streams → All (λ s. next_of s ≤ point + s.period) streams → point ≤ 1000000 → cost_counted streams ≤ 5000000000000000
cost_small tasks streams point few are near short =
    let each : All (λ s. s.jobs * s.cost ≤ 1000001 * 64000000) streams =
    λ k d lt.
    let s = slice_index_or streams k d in
    let is = are.paced k d lt in
    let some = is.due in
    let period = is.in_period in
    let cheap = is.cheap in
    let jobs : s.jobs ≤ point + 1 = jobs_few s.jobs s.period s.within point (omega arith) some (near k d lt) in
    mul-le s.jobs s.cost 1000001 64000000 (omega arith) (omega arith) in
    let all : cost_counted streams ≤ length streams * (1000001 * 64000000) = sum_by-le (λ (s : Stream). s.jobs * s.cost) (1000001 * 64000000) streams each in
    let fewer = are.few in
    omega arith
