-- The last job of each task, as items come.
use Rattle.std.proofs.Common.{◌≡◌, ◌≢◌, ℕ, ◌+◌, ◌-◌, ◌<◌, ◌≤◌, cond, eqb, List, [], ◌∷◌, length, get_or, set, Some, refl, sym, ap, ap₂, subst, ◌∙◌, ⊎_elim, inl, inr, arith, eq-eqb, ne_eqb, slice_get}
use Rattle.std.proofs.lemmas.Bool.{cases_eq, cond-true, cond-false}
use Rattle.std.proofs.lemmas.List.{get_or-set_same, get_or-set_other, length-set}
use Rattle.std.proofs.lemmas.Option.{same_Some, slice_get_within, slice_get-get_or, get_or_from_slice_get}
use Rattle.yt_list.proofs.Lemmas.{numbered_place}
use Rattle.yt_list.specs.Numbered.{numbered}
use Rattle.yt_log.specs.declared.plan.PlanItem.{PlanItem}
use Rattle.yt_log.specs.declared.last_jobs.LastJob.{LastJob}
use Rattle.yt_log.specs.Tasks.{Has}
use Rattle.yt_log.specs.Plan.{jobs_of}
use Rattle.yt_log.specs.LastJobs.{last_of, last_job}
use Rattle.yt_log.specs.Inside.LastJobs.{AreLast}
use Rattle.yt_log.proofs.Plans.{jobs_of-cons}

abbrev pub none : LastJob
none = record { number = 0; arrival = 0 }

abbrev pub seen : PlanItem → LastJob
seen item = record { number = item.job.number; arrival = item.arrival }

last_none : (task : ℕ) → last_job task [] ≡ none
unfolding jobs_of last_of
last_none task = refl

pub last_of-cons : (task : ℕ) (x : PlanItem) (before : List PlanItem) → last_of task (x ∷ before) ≡ cond (eqb x.job.task task) x.arrival (last_of task before)
unfolding last_of
last_of-cons task x before = refl

pub last_of-same : (x : PlanItem) (before : List PlanItem) → last_of x.job.task (x ∷ before) ≡ x.arrival
last_of-same x before = last_of-cons x.job.task x before ∙ cond-true _ x.arrival _ (eq-eqb x.job.task x.job.task refl)

pub last_of-other : (task : ℕ) (x : PlanItem) (before : List PlanItem) → x.job.task ≢ task → last_of task (x ∷ before) ≡ last_of task before
last_of-other task x before ne = last_of-cons task x before ∙ cond-false _ x.arrival _ (ne_eqb x.job.task task ne)

pub jobs_of-same : (x : PlanItem) (before : List PlanItem) → jobs_of x.job.task (x ∷ before) ≡ jobs_of x.job.task before + 1
jobs_of-same x before =
    let one : cond {A = ℕ} (eqb x.job.task x.job.task) 1 0 ≡ 1 = cond-true _ 1 0 (eq-eqb x.job.task x.job.task refl) in
    let c = jobs_of-cons x.job.task x before in
    omega arith

pub jobs_of-other : (task : ℕ) (x : PlanItem) (before : List PlanItem) → x.job.task ≢ task → jobs_of task (x ∷ before) ≡ jobs_of task before
jobs_of-other task x before ne =
    let zip : cond {A = ℕ} (eqb x.job.task task) 1 0 ≡ 0 = cond-false _ 1 0 (ne_eqb x.job.task task ne) in
    let c = jobs_of-cons task x before in
    omega arith

pub none_last : (jobs : List LastJob) → ((k : ℕ) → k < 64 → slice_get jobs k ≡ Some none) → AreLast jobs []
none_last jobs h = λ task a b. numbered_place jobs task a ∙ h (task - 1) (omega arith) ∙ ap (λ (j : LastJob). Some j) (sym (last_none task))

-- the jobs with an item's, where it has the next number
pub see_last : (jobs : List LastJob) (before : List PlanItem) (x : PlanItem) → 1 ≤ x.job.task → x.job.task ≤ 64 → x.job.number ≡ jobs_of x.job.task before + 1 →
    AreLast jobs before → AreLast (set jobs (x.job.task - 1) (seen x)) (x ∷ before)
see_last jobs before x low high number are = λ task a b.
    let place = x.job.task - 1 in
    let was : slice_get jobs (task - 1) ≡ Some (last_job task before) = sym (numbered_place jobs task a) ∙ are task a b in
    let long : task - 1 < length jobs = slice_get_within jobs (task - 1) _ was in
    let same_long : length (set jobs place (seen x)) ≡ length jobs = length-set jobs place (seen x) in
    let read : slice_get (set jobs place (seen x)) (task - 1) ≡ Some (get_or (set jobs place (seen x)) (task - 1) none) = slice_get-get_or _ (task - 1) none (omega arith) in
    numbered_place _ task a ∙ read ∙ ap (λ (j : LastJob). Some j) (⊎_elim
    (λ (e : x.job.task ≡ task).
    let P : ℕ → Type 0 = λ n. get_or (set jobs place (seen x)) (n - 1) none ≡ last_job n (x ∷ before) in
    let made : ℕ → ℕ → LastJob = λ n t. record { number = n; arrival = t } in
    subst P e
    (get_or-set_same jobs place (seen x) none (omega arith) ∙ ap₂ made (number ∙ sym (jobs_of-same x before)) (sym (last_of-same x before))))
    (λ (ne : x.job.task ≢ task).
    let made : ℕ → ℕ → LastJob = λ n t. record { number = n; arrival = t } in
    get_or-set_other jobs place (task - 1) (seen x) none (λ e. ne (omega arith)) ∙
    get_or_from_slice_get jobs (task - 1) _ none was ∙
    ap₂ made (sym (jobs_of-other task x before ne)) (sym (last_of-other task x before ne)))
    (cases_eq x.job.task task))

-- what is kept for a task is its last job
pub last_at : (jobs : List LastJob) (before : List PlanItem) (task : ℕ) (last : LastJob) → 1 ≤ task → task ≤ 64 → AreLast jobs before → numbered jobs task ≡ Some last → last ≡ last_job task before
last_at jobs before task last low few are got = same_Some last (last_job task before) (sym got ∙ are task low few)

-- the last of a task is one of its items
pub last_item : (task : ℕ) (before : List PlanItem) → 1 ≤ jobs_of task before → (e : PlanItem) × (Has before e) × (e.job.task ≡ task) × (e.arrival ≡ last_of task before)
unfolding jobs_of
last_item task [] some = absurd (omega arith)
last_item task (x ∷ before) some =
    ⊎_elim
    (λ (e : x.job.task ≡ task).
    let P : ℕ → Type 0 = λ n. x.arrival ≡ last_of n (x ∷ before) in
    (x, inl refl, e, subst P e (sym (last_of-same x before))))
    (λ (ne : x.job.task ≢ task).
    let rest = last_item task before (omega (arith, some, jobs_of-other task x before ne)) in
    (rest.0, inr rest.1, rest.2, rest.3 ∙ sym (last_of-other task x before ne)))
    (cases_eq x.job.task task)

-- no item of a task arrives after the task's last
abbrev pub IsNewest : List PlanItem → Type 0
IsNewest before = (e : PlanItem) → Has before e → e.arrival ≤ last_of e.job.task before

pub newest_more : (before : List PlanItem) (x : PlanItem) → IsNewest before → ((e : PlanItem) → Has before e → e.arrival ≤ x.arrival) → IsNewest (x ∷ before)
newest_more before x newest order e is =
    ⊎_elim
    (λ (q : e ≡ x).
    let P : PlanItem → Type 0 = λ y. y.arrival ≤ last_of y.job.task (x ∷ before) in
    subst P (sym q) (omega (arith, last_of-same x before)))
    (λ (k : Has before e).
    ⊎_elim
    (λ (same : x.job.task ≡ e.job.task).
    let P : ℕ → Type 0 = λ n. e.arrival ≤ last_of n (x ∷ before) in
    let le = order e k in
    subst P same (omega (arith, last_of-same x before)))
    (λ (ne : x.job.task ≢ e.job.task). let le = newest e k in omega (arith, last_of-other e.job.task x before ne))
    (cases_eq x.job.task e.job.task))
    is

-- an item is one of those of its task
pub counted_item : (before : List PlanItem) (e : PlanItem) → Has before e → 1 ≤ jobs_of e.job.task before
counted_item [] e is = absurd is
counted_item (x ∷ before) e is =
    ⊎_elim
    (λ (q : e ≡ x).
    let P : PlanItem → Type 0 = λ y. 1 ≤ jobs_of y.job.task (x ∷ before) in
    subst P (sym q) (omega (arith, jobs_of-same x before)))
    (λ (k : Has before e). let c = jobs_of-cons e.job.task x before in let n = counted_item before e k in omega arith)
    is

-- a task without items has none last
pub last_of-none : (task : ℕ) (before : List PlanItem) → jobs_of task before ≤ 0 → last_of task before ≡ 0
unfolding last_of
last_of-none task [] none = refl
last_of-none task (x ∷ before) none =
    ⊎_elim
    (λ (e : x.job.task ≡ task).
    let P : ℕ → Type 0 = λ n. jobs_of n (x ∷ before) ≤ 0 in
    let no = subst P (sym e) none in
    absurd (omega (arith, jobs_of-same x before)))
    (λ (ne : x.job.task ≢ task). last_of-other task x before ne ∙ last_of-none task before (omega (arith, jobs_of-other task x before ne)))
    (cases_eq x.job.task task)
