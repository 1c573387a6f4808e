-- Lists of segments: the jobs of their ticks, their order, and one more run at their end.
use Rattle.std.proofs.Common.{◌≡◌, ℕ, ◌-◌, ◌<◌, ◌≤◌, ◌⊎◌, true, false, cond, ◌&&◌, eqb, ltb, leb, List, [], ◌∷◌, ◌++◌, length, get_or, set, Option, Some, None, refl, sym, ap, ◌∙◌, inl, inr, ⊎_elim, arith, eq-eqb, eqb-true}
use Rattle.std.proofs.lemmas.Bool.{cases_Bool, both_ways, cond-true, cond-false, and_parts, and_from, and_left, and_right, le-leb, lt-leb, lt-ltb, le-ltb}
use Rattle.std.proofs.lemmas.List.{get_or_at, set_at, length_push, get_or_read}
use Rattle.yt_log.specs.declared.job.Job.{Job}
use Rattle.yt_log.specs.declared.job.Segment.{Segment}
use Rattle.yt_log.specs.Plan.{same_job}
use Rattle.yt_log.specs.Segments.{ends_in, with_run, AreInOrder, job_at}
use Rattle.yt_log.proofs.Jobs.{same_job_refl, same_job_true}

-- the job of a tick of the first segment
pub job_at_here : (x : Segment) (xs : List Segment) (t : ℕ) → x.from ≤ t → t < x.to → job_at (x ∷ xs) t ≡ Some x.job
unfolding job_at
job_at_here x xs t a b = cond-true (leb x.from t && ltb t x.to) (Some x.job) (job_at xs t) (and_from _ _ (le-leb x.from t a) (lt-ltb t x.to b))

-- the job of a tick that the first segment has not
pub job_at_before : (x : Segment) (xs : List Segment) (t : ℕ) → t < x.from → job_at (x ∷ xs) t ≡ job_at xs t
unfolding job_at
job_at_before x xs t a = cond-false (leb x.from t && ltb t x.to) (Some x.job) (job_at xs t) (and_left _ _ (lt-leb x.from t a))

pub job_at_after : (x : Segment) (xs : List Segment) (t : ℕ) → x.to ≤ t → job_at (x ∷ xs) t ≡ job_at xs t
unfolding job_at
job_at_after x xs t a = cond-false (leb x.from t && ltb t x.to) (Some x.job) (job_at xs t) (and_right _ _ (le-ltb t x.to a))

pub job_at-nil : (t : ℕ) → job_at [] t ≡ None
unfolding job_at
job_at-nil t = refl

-- what comes after a front matters by its ticks alone
pub job_at-append_same : (front xs ys : List Segment) (t : ℕ) → job_at xs t ≡ job_at ys t → job_at (front ++ xs) t ≡ job_at (front ++ ys) t
unfolding job_at
job_at-append_same [] xs ys t e = e
job_at-append_same (x ∷ front) xs ys t e = ap (λ (o : Option Job). cond (leb x.from t && ltb t x.to) (Some x.job) o) (job_at-append_same front xs ys t e)

-- a front without the tick doesn't matter
pub job_at-append_right : (front xs : List Segment) (t : ℕ) → job_at front t ≡ None → job_at (front ++ xs) t ≡ job_at xs t
unfolding job_at
job_at-append_right [] xs t e = refl
job_at-append_right (x ∷ front) xs t e =
    ⊎_elim
    (λ (h : (leb x.from t && ltb t x.to) ≡ true). let some : Some x.job ≡ None = sym (cond-true (leb x.from t && ltb t x.to) (Some x.job) (job_at front t) h) ∙ e in cc)
    (λ (h : (leb x.from t && ltb t x.to) ≡ false).
    let rest : job_at front t ≡ None = sym (cond-false (leb x.from t && ltb t x.to) (Some x.job) (job_at front t) h) ∙ e in
    cond-false (leb x.from t && ltb t x.to) (Some x.job) (job_at (front ++ xs) t) h ∙ job_at-append_right front xs t rest)
    (cases_Bool (leb x.from t && ltb t x.to))

-- segments in order end at `high`, and begin at `low`
pub le_of_in_order : (low high : ℕ) (xs : List Segment) → AreInOrder low xs high → low ≤ high
le_of_in_order low high [] h = h
le_of_in_order low high (x ∷ xs) h = let rest = le_of_in_order x.to high xs h.2 in omega (arith, h.0, h.1)

pub in_order_lower : (lower low high : ℕ) (xs : List Segment) → lower ≤ low → AreInOrder low xs high → AreInOrder lower xs high
in_order_lower lower low high [] a h = omega arith
in_order_lower lower low high (x ∷ xs) a h = (omega (arith, h.0), h.1, h.2)

pub in_order_higher : (low high higher : ℕ) (xs : List Segment) → high ≤ higher → AreInOrder low xs high → AreInOrder low xs higher
in_order_higher low high higher [] a h = omega arith
in_order_higher low high higher (x ∷ xs) a h = (h.0, h.1, in_order_higher x.to high higher xs a h.2)

-- two lists in order, one after the other
pub in_order_append : (low mid high : ℕ) (xs ys : List Segment) → AreInOrder low xs mid → AreInOrder mid ys high → AreInOrder low (xs ++ ys) high
in_order_append low mid high [] ys a b = in_order_lower low mid high ys a b
in_order_append low mid high (x ∷ xs) ys a b = (a.0, a.1, in_order_append x.to mid high xs ys a.2 b)

-- the same, parted
pub in_order_parts : (low high : ℕ) (xs ys : List Segment) → AreInOrder low (xs ++ ys) high → (mid : ℕ) × AreInOrder low xs mid × AreInOrder mid ys high
in_order_parts low high [] ys h = (low, omega arith, h)
in_order_parts low high (x ∷ xs) ys h = let rest = in_order_parts x.to high xs ys h.2 in (rest.0, (h.0, h.1, rest.1), rest.2)

-- no segment has a tick from `high` on
pub job_at-past : (low high : ℕ) (xs : List Segment) (t : ℕ) → AreInOrder low xs high → high ≤ t → job_at xs t ≡ None
job_at-past low high [] t h a = job_at-nil t
job_at-past low high (x ∷ xs) t h a =
    let most = le_of_in_order x.to high xs h.2 in
    job_at_after x xs t (omega arith) ∙ job_at-past x.to high xs t h.2 a

-- the last segment ends at `from` and is of the job
pub record Continues (segments : List Segment) (from : ℕ) (job : Job) : Type 0 where
  pub front : List Segment
  pub last : Segment
  pub is : segments ≡ front ++ last ∷ []
  pub meets : last.to ≡ from
  pub same : last.job ≡ job

-- the segment of the ticks from `from` to before `to`
abbrev pub run_of : ℕ → ℕ → Job → Segment
run_of from to job = record { from = from; to = to; job = job }

-- what is asked of the last segment, where there is one
pub ends_in-last : (segments : List Segment) (end : ℕ) (job : Job) (last : Segment) → 0 < length segments → last ≡ get_or segments (length segments - 1) last →
    ends_in segments end job ≡ (eqb last.to end && same_job last.job job)
unfolding ends_in
ends_in-last [] end job last some at = absurd (omega arith)
ends_in-last (first ∷ others) end job last some at =
    let segments = first ∷ others in
    let place : length segments - 1 ≡ length others = omega arith in
    let read : get_or segments (length others) first ≡ last =
    ap (λ (n : ℕ). get_or segments n first) (sym place) ∙ sym (get_or_read segments (length segments - 1) last (omega arith) at first) in
    ap (λ (s : Segment). eqb s.to end && same_job s.job job) read

pub ends_in-nil : (end : ℕ) (job : Job) → ends_in [] end job ≡ false
unfolding ends_in
ends_in-nil end job = refl

pub some_from_ends_in : (segments : List Segment) (end : ℕ) (job : Job) → ends_in segments end job ≡ true → 0 < length segments
some_from_ends_in [] end job h = absurd (both_ways (ends_in [] end job) (ends_in-nil end job) h)
some_from_ends_in (first ∷ others) end job h = omega arith

-- a run of the last segment's job that begins where it ends
pub with_run-longer : (segments : List Segment) (from to : ℕ) (job : Job) (last : Segment) → ends_in segments from job ≡ true → last ≡ get_or segments (length segments - 1) last →
    with_run segments from to job ≡ set segments (length segments - 1) (record last { to = to })
unfolding with_run
with_run-longer segments from to job last here at =
    let some = some_from_ends_in segments from job here in
    let read = sym (get_or_read segments (length segments - 1) last (omega arith) at (run_of from to job)) in
    cond-true _ _ _ here ∙ ap (λ (s : Segment). set segments (length segments - 1) (record s { to = to })) read

-- any other run
pub with_run-apart : (segments : List Segment) (from to : ℕ) (job : Job) → ends_in segments from job ≡ false →
    with_run segments from to job ≡ segments ++ run_of from to job ∷ []
unfolding with_run
with_run-apart segments from to job h = cond-false _ _ _ h

-- the last segment's place
last_read : (front : List Segment) (last : Segment) → last ≡ get_or (front ++ last ∷ []) (length (front ++ last ∷ []) - 1) last
last_read front last =
    let segments = front ++ last ∷ [] in
    let place : length segments - 1 ≡ length front = omega (arith, length_push front last) in
    sym (ap (λ (n : ℕ). get_or segments n last) place ∙ get_or_at front last [] last (length front) refl)

ends_in-push : (front : List Segment) (last : Segment) (end : ℕ) (job : Job) → ends_in (front ++ last ∷ []) end job ≡ (eqb last.to end && same_job last.job job)
ends_in-push front last end job = ends_in-last (front ++ last ∷ []) end job last (omega (arith, length_push front last)) (last_read front last)

-- a run of the last segment's job that begins where it ends goes on with it
pub with_run-continues : (segments : List Segment) (from to : ℕ) (job : Job) (c : Continues segments from job) →
    with_run segments from to job ≡ c.front ++ record (c.last) { to = to } ∷ []
with_run-continues segments from to job c =
    let front = c.front in
    let last = c.last in
    let longer : Segment = record last { to = to } in
    let whole = front ++ last ∷ [] in
    let here : ends_in whole from job ≡ true =
    ends_in-push front last from job ∙ and_from _ _ (eq-eqb last.to from c.meets) (ap (λ (j : Job). same_job j job) c.same ∙ same_job_refl job) in
    let place : length whole - 1 ≡ length front = omega (arith, length_push front last) in
    ap (λ (ss : List Segment). with_run ss from to job) c.is ∙
    with_run-longer whole from to job last here (last_read front last) ∙
    ap (λ (n : ℕ). set whole n longer) place ∙
    set_at front last [] longer (length front) refl

record Ends (segments : List Segment) : Type 0 where
  front : List Segment
  last : Segment
  is : segments ≡ front ++ last ∷ []

cases_end : (segments : List Segment) → (segments ≡ []) ⊎ Ends segments
cases_end [] = inl refl
cases_end (x ∷ xs) =
    ⊎_elim
    (λ (e : xs ≡ []). inr (record { front = []; last = x; is = ap (λ (ss : List Segment). x ∷ ss) e }))
    (λ (e : Ends xs). inr (record { front = x ∷ e.front; last = e.last; is = ap (λ (ss : List Segment). x ∷ ss) e.is }))
    (cases_end xs)

-- a run begins a segment of its own, whenever it ends
abbrev pub Begins : List Segment → ℕ → Job → Type 0
Begins segments from job = (to : ℕ) → with_run segments from to job ≡ segments ++ run_of from to job ∷ []

-- a run goes on with the last segment, or begins one
pub cases_run : (segments : List Segment) (from : ℕ) (job : Job) → Continues segments from job ⊎ Begins segments from job
cases_run segments from job =
    ⊎_elim
    (λ (here : ends_in segments from job ≡ true).
    ⊎_elim
    (λ (e : segments ≡ []). absurd (omega (arith, some_from_ends_in segments from job here, ap length e)))
    (λ (e : Ends segments).
    let parts = and_parts (eqb e.last.to from) (same_job e.last.job job) (sym (ends_in-push e.front e.last from job) ∙ ap (λ (ss : List Segment). ends_in ss from job) (sym e.is) ∙ here) in
    inl (record { front = e.front; last = e.last; is = e.is; meets = eqb-true e.last.to from parts.0; same = same_job_true e.last.job job parts.1 }))
    (cases_end segments))
    (λ (apart : ends_in segments from job ≡ false). inr (λ to. with_run-apart segments from to job apart))
    (cases_Bool (ends_in segments from job))
