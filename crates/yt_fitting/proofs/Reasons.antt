-- Tasks fit, or there is a reason why they don't.
use Rattle.std.proofs.Common.{◌≡◌, ℕ, zero, suc, ◌+◌, ◌-◌, ◌<◌, ◌≤◌, ⊎_elim, List, [], length, take, Some, refl, subst, sym, ◌∙◌, arith}
use Rattle.std.proofs.lemmas.Bool.{cases_eq, cases_lt}
use Rattle.std.proofs.lemmas.List.{take_all}
use Rattle.std.proofs.lemmas.Option.{slice_get_cases}
use Rattle.std.proofs.Math.Seq.{take-length}
use Rattle.yt_fits.specs.declared.interval.Breach.{Breach}
use Rattle.yt_fits.specs.declared.unfit.Unfit.{Unfit}
use Rattle.yt_fits.specs.declared.unfit.Unfit.TheVariants.{Hyperperiod, Overload, Interval}
use Rattle.yt_fits.specs.Intervals.{HaveRoom, IsFirstBreach}
use Rattle.yt_fits.specs.Loads.{IsFirstWide, hyperperiod_limit, load_sum}
use Rattle.yt_fits.specs.Unfits.{IsReason}
use Rattle.yt_fits.proofs.Lemmas.{fits_from_room, room_next}
use Rattle.yt_list.proofs.Lemmas.{numbered_next}
use Rattle.yt_set.specs.declared.task.Task.{Task}
use Rattle.yt_set.specs.Tasks.{Fits, LacksRoom, hyperperiod, load, multiple_from, need_of}

-- a number that passes a bound is behind a first one that does
first_over : (m : ℕ) (f : ℕ → ℕ) (n : ℕ) → m < f n → ((k : ℕ) → k ≤ n → m < f k → ((j : ℕ) → j < k → f j ≤ m) → ⊥) → ⊥
first_over m f n over none =
    let below = none_below (suc n) (omega arith) n (omega arith) in
    omega (arith, below, over)
  where
    none_below : (k : ℕ) → k ≤ suc n → (j : ℕ) → j < k → f j ≤ m
    none_below zero le j lt = absurd (omega (arith, lt))
    none_below (suc k) le j lt =
        let before : (i : ℕ) → i < k → f i ≤ m = none_below k (omega (arith, le)) in
        ⊎_elim
        (λ (e : j ≡ k). subst (λ i. f i ≤ m) (sym e)
        (⊎_elim
        (λ (here : m < f k). absurd (none k (omega (arith, le)) here before))
        (λ (fine : f k ≤ m). fine)
        (cases_lt m (f k))))
        (λ (ne : j ≡ k → ⊥). before j (omega (arith, lt, ne)))
        (cases_eq j k)

-- of no tasks it is 1
multiple_of_none : hyperperiod [] ≡ 1
unfolding multiple_from
multiple_of_none = refl

none_wide : (tasks : List Task) → hyperperiod_limit tasks < hyperperiod (take 0 tasks) → ⊥
none_wide tasks over =
    let one : hyperperiod_limit tasks < 1 = subst (λ h. hyperperiod_limit tasks < h) multiple_of_none over in
    omega (arith, one)

-- a hyperperiod that is too great is so from a first task on
wide_from : (tasks : List Task) → hyperperiod_limit tasks < hyperperiod tasks → ((n : ℕ) → IsFirstWide tasks n → ⊥) → ⊥
wide_from tasks over none =
    first_over (hyperperiod_limit tasks) (λ k. hyperperiod (take k tasks)) (length tasks) (subst (λ (ts : List Task). hyperperiod_limit tasks < hyperperiod ts) (sym (take-length tasks)) over) by
  where
    by : (k : ℕ) → k ≤ length tasks → hyperperiod_limit tasks < hyperperiod (take k tasks) → ((j : ℕ) → j < k → hyperperiod (take j tasks) ≤ hyperperiod_limit tasks) → ⊥
    by zero le here before = none_wide tasks here
    by (suc k) le here before = none (suc k) (record { positive = omega arith; there = le; wide = here; first = before })

-- where no breach is the first, each task has room in each span
room_of_all : (tasks : List Task) → ((breach : Breach) → IsFirstBreach tasks breach → ⊥) → (span : ℕ) → HaveRoom tasks span tasks
room_of_all tasks none span = up_to (suc span) span (omega arith)
  where
    fewer : (span : ℕ) → ((shorter : ℕ) → shorter < span → HaveRoom tasks shorter tasks) → (n : ℕ) → HaveRoom tasks span (take n tasks)
    fewer span before zero = λ k d lt. absurd (omega (arith, lt))
    fewer span before (suc n) =
        let first = fewer span before n in
        ⊎_elim
        (λ there.
        let task : Task = there.0 in
        let less : n ≡ n + 1 - 1 = omega arith in
        let more : n + 1 ≡ suc n = omega arith in
        let room : LacksRoom tasks span task → ⊥ = λ lacks. none (record { task = n + 1; len = span; need = need_of tasks task span }) (record {
          lowest = record {
            task = task;
            there = numbered_next tasks n ∙ there.2;
            lacks = lacks;
            need = refl;
            lowest = subst (λ k. HaveRoom tasks span (take k tasks)) less first;
          };
          shortest = before;
        }) in
        subst (λ k. HaveRoom tasks span (take k tasks)) more (room_next tasks span n task there.2 first room))
        (λ beyond.
        let short : length tasks ≤ suc n = omega (arith, beyond.0) in
        subst (λ (ts : List Task). HaveRoom tasks span ts) (sym (take_all (suc n) tasks short))
        (subst (λ (ts : List Task). HaveRoom tasks span ts) (take_all n tasks beyond.0) first))
        (slice_get_cases tasks n).1

    up_to : (end : ℕ) (span : ℕ) → span < end → HaveRoom tasks span tasks
    up_to zero span lt = absurd (omega (arith, lt))
    up_to (suc end) span lt =
        let before : (shorter : ℕ) → shorter < span → HaveRoom tasks shorter tasks = λ shorter less. up_to end shorter (omega (arith, lt, less)) in
        subst (λ (ts : List Task). HaveRoom tasks span ts) (take-length tasks) (fewer span before (length tasks))

-- tasks without a reason fit
pub fit_or_reason : (tasks : List Task) → ((why : Unfit) → IsReason tasks why → ⊥) → (hyperperiod tasks ≤ hyperperiod_limit tasks → Fits tasks → ⊥) → ⊥
fit_or_reason tasks none unfit =
    ⊎_elim
    (λ (wide : hyperperiod_limit tasks < hyperperiod tasks). wide_from tasks wide (λ n is. none (Hyperperiod n) (is, wide)))
    (λ (narrow : hyperperiod tasks ≤ hyperperiod_limit tasks).
    ⊎_elim
    (λ (over : hyperperiod tasks < load tasks (hyperperiod tasks)). none (Overload (load_sum tasks)) (refl, narrow, λ fits. omega (arith, over, fits)))
    (λ (loads : load tasks (hyperperiod tasks) ≤ hyperperiod tasks).
    unfit narrow (record { loads = loads; intervals = fits_from_room tasks (room_of_all tasks (λ breach is. none (Interval breach) (is, narrow, loads))) }))
    (cases_lt (hyperperiod tasks) (load tasks (hyperperiod tasks))))
    (cases_lt (hyperperiod_limit tasks) (hyperperiod tasks))
