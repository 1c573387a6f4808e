-- What the segments of a log are, and that they tell its ticks.
use Rattle.std.proofs.Common.{◌≡◌, ℕ, zero, suc, ◌+◌, ◌-◌, ◌<◌, ◌≤◌, List, [], ◌∷◌, ◌++◌, length, take, replicate, Option, Some, None, refl, sym, ap, ap₂, ◌∙◌, subst, ⊎_elim, arith}
use Rattle.std.proofs.lemmas.Bool.{cases_lt}
use Rattle.std.proofs.lemmas.List.{append-nil, append_assoc, get_or_append_left, get_or_at, length_push, length-append, length-replicate, replicate_more, take_all, take_more}
use Rattle.yt_log.specs.declared.job.Job.{Job}
use Rattle.yt_log.specs.declared.job.Segment.{Segment}
use Rattle.yt_log.specs.Ticks.{Ticks, tick}
use Rattle.yt_log.specs.Segments.{with_run, with_tick, segments_below, segments_of, AreInOrder, job_at, ticks_of}
use Rattle.yt_log.proofs.SegmentLists.{job_at_here, job_at_before, job_at-append_same, job_at-append_right, job_at-past, in_order_append, in_order_parts, in_order_higher, run_of, Continues, Begins, cases_run, with_run-continues}

-- a run keeps the segments in order
pub with_run-in_order : (segments : List Segment) (from to : ℕ) (job : Job) → from < to → AreInOrder 0 segments from → AreInOrder 0 (with_run segments from to job) to
with_run-in_order segments from to job lt order =
    let P : List Segment → Type 0 = λ ss. AreInOrder 0 ss to in
    ⊎_elim
    (λ (c : Continues segments from job).
    let Q : List Segment → Type 0 = λ ss. AreInOrder 0 ss from in
    let parts = in_order_parts 0 from c.front (c.last ∷ []) (subst Q c.is order) in
    let meets = c.meets in
    subst P (sym (with_run-continues segments from to job c))
    (in_order_append 0 parts.0 to c.front (record (c.last) { to = to } ∷ []) parts.1 (parts.2.0, omega (arith, parts.2.1), omega arith)))
    (λ (b : Begins segments from job).
    subst P (sym (b to)) (in_order_append 0 from to segments (run_of from to job ∷ []) order (omega arith, lt, omega arith)))
    (cases_run segments from job)

-- it leaves the ticks before it
pub job_at-with_run_before : (segments : List Segment) (from to : ℕ) (job : Job) (t : ℕ) → from < to → t < from → job_at (with_run segments from to job) t ≡ job_at segments t
job_at-with_run_before segments from to job t lt before =
    let read = λ (ss : List Segment). job_at ss t in
    ⊎_elim
    (λ (c : Continues segments from job).
    let last = c.last in
    let meets : last.to ≡ from = c.meets in
    let same : job_at (record last { to = to } ∷ []) t ≡ job_at (last ∷ []) t =
    ⊎_elim
    (λ (a : t < last.from). job_at_before (record last { to = to }) [] t a ∙ sym (job_at_before last [] t a))
    (λ (a : last.from ≤ t). job_at_here (record last { to = to }) [] t a (omega arith) ∙ sym (job_at_here last [] t a (omega arith)))
    (cases_lt t last.from) in
    ap read (with_run-continues segments from to job c) ∙ job_at-append_same c.front (record last { to = to } ∷ []) (last ∷ []) t same ∙ ap read (sym c.is))
    (λ (b : Begins segments from job).
    ap read (b to) ∙ job_at-append_same segments (run_of from to job ∷ []) [] t (job_at_before (run_of from to job) [] t before) ∙ ap read (append-nil segments))
    (cases_run segments from job)

-- its ticks go to its job
pub job_at-with_run : (segments : List Segment) (from to : ℕ) (job : Job) (t : ℕ) → from ≤ t → t < to → AreInOrder 0 segments from → job_at (with_run segments from to job) t ≡ Some job
job_at-with_run segments from to job t low high order =
    let read = λ (ss : List Segment). job_at ss t in
    ⊎_elim
    (λ (c : Continues segments from job).
    let last = c.last in
    let meets : last.to ≡ from = c.meets in
    let Q : List Segment → Type 0 = λ ss. AreInOrder 0 ss from in
    let parts = in_order_parts 0 from c.front (last ∷ []) (subst Q c.is order) in
    let begun : last.from ≤ t = omega (arith, parts.2.1) in
    ap read (with_run-continues segments from to job c) ∙
    job_at-append_right c.front (record last { to = to } ∷ []) t (job_at-past 0 parts.0 c.front t parts.1 (omega (arith, parts.2.0))) ∙
    job_at_here (record last { to = to }) [] t begun high ∙
    ap (λ (j : Job). Some j) c.same)
    (λ (b : Begins segments from job).
    ap read (b to) ∙ job_at-append_right segments (run_of from to job ∷ []) t (job_at-past 0 from segments t order low) ∙ job_at_here (run_of from to job) [] t low high)
    (cases_run segments from job)

-- one run and then another of the same job is one run
pub with_run-with_run : (segments : List Segment) (from mid to : ℕ) (job : Job) → with_run (with_run segments from mid job) mid to job ≡ with_run segments from to job
with_run-with_run segments from mid to job =
    let again = λ (ss : List Segment). with_run ss mid to job in
    ⊎_elim
    (λ (c : Continues segments from job).
    let longer : Segment = record (c.last) { to = mid } in
    let next : Continues (c.front ++ longer ∷ []) mid job = record { front = c.front; last = longer; is = refl; meets = refl; same = c.same } in
    ap again (with_run-continues segments from mid job c) ∙ with_run-continues (c.front ++ longer ∷ []) mid to job next ∙ sym (with_run-continues segments from to job c))
    (λ (b : Begins segments from job).
    let run = run_of from mid job in
    let next : Continues (segments ++ run ∷ []) mid job = record { front = segments; last = run; is = refl; meets = refl; same = refl } in
    ap again (b mid) ∙ with_run-continues (segments ++ run ∷ []) mid to job next ∙ sym (b to))
    (cases_run segments from job)

with_tick-in_order : (segments : List Segment) (t : ℕ) (x : Option Job) → AreInOrder 0 segments t → AreInOrder 0 (with_tick segments t x) (suc t)
unfolding with_tick
with_tick-in_order segments t None order = in_order_higher 0 t (suc t) segments (omega arith) order
with_tick-in_order segments t (Some job) order = with_run-in_order segments t (suc t) job (omega arith) order

job_at-with_tick_before : (segments : List Segment) (t : ℕ) (x : Option Job) (u : ℕ) → u < t → job_at (with_tick segments t x) u ≡ job_at segments u
unfolding with_tick
job_at-with_tick_before segments t None u h = refl
job_at-with_tick_before segments t (Some job) u h = job_at-with_run_before segments t (suc t) job u (omega arith) h

job_at-with_tick : (segments : List Segment) (t : ℕ) (x : Option Job) → AreInOrder 0 segments t → job_at (with_tick segments t x) t ≡ x
unfolding with_tick
job_at-with_tick segments t None order = job_at-past 0 t segments t order (omega arith)
job_at-with_tick segments t (Some job) order = job_at-with_run segments t (suc t) job t (omega arith) (omega arith) order

pub segments_below-zero : (log : Ticks) → segments_below log 0 ≡ []
unfolding segments_below
segments_below-zero log = refl

pub segments_below-suc : (log : Ticks) (t : ℕ) → segments_below log (suc t) ≡ with_tick (segments_below log t) t (tick log t)
unfolding segments_below
segments_below-suc log t = refl

-- the segments of the ticks below t are in order, and none has a tick from t on
pub segments_below-in_order : (log : Ticks) (t : ℕ) → AreInOrder 0 (segments_below log t) t
unfolding segments_below
segments_below-in_order log zero = omega arith
segments_below-in_order log (suc t) = with_tick-in_order (segments_below log t) t (tick log t) (segments_below-in_order log t)

-- they tell each tick below t
pub job_at-segments_below : (log : Ticks) (t u : ℕ) → u < t → job_at (segments_below log t) u ≡ tick log u
unfolding segments_below
job_at-segments_below log zero u h = absurd (omega arith)
job_at-segments_below log (suc t) u h =
    let order = segments_below-in_order log t in
    ⊎_elim
    (λ (a : u < t). job_at-with_tick_before (segments_below log t) t (tick log t) u a ∙ job_at-segments_below log t u a)
    (λ (a : t ≤ u).
    let e : t ≡ u = omega arith in
    let P : ℕ → Type 0 = λ n. job_at (with_tick (segments_below log t) t (tick log t)) n ≡ tick log n in
    subst P e (job_at-with_tick (segments_below log t) t (tick log t) order))
    (cases_lt u t)

tick-append : (log more : Ticks) (t : ℕ) → t < length log → tick (log ++ more) t ≡ tick log t
unfolding tick
tick-append log more t h = get_or_append_left log more None t h

tick-push : (log : Ticks) (x : Option Job) → tick (log ++ x ∷ []) (length log) ≡ x
unfolding tick
tick-push log x = get_or_at log x [] None (length log) refl

-- the segments of the ticks below t hang on these ticks alone
pub segments_below-append : (log more : Ticks) (t : ℕ) → t ≤ length log → segments_below (log ++ more) t ≡ segments_below log t
unfolding segments_below
segments_below-append log more zero h = refl
segments_below-append log more (suc t) h =
    ap₂ (λ (ss : List Segment) (x : Option Job). with_tick ss t x) (segments_below-append log more t (omega arith)) (tick-append log more t (omega arith))

-- the segments after one more tick
pub segments_of-push : (log : Ticks) (x : Option Job) → segments_of (log ++ x ∷ []) ≡ with_tick (segments_of log) (length log) x
segments_of-push log x =
    let n : length (log ++ x ∷ []) ≡ suc (length log) = omega (arith, length_push log x) in
    ap (λ (t : ℕ). segments_below (log ++ x ∷ []) t) n ∙
    segments_below-suc (log ++ x ∷ []) (length log) ∙
    ap₂ (λ (ss : List Segment) (y : Option Job). with_tick ss (length log) y) (segments_below-append log (x ∷ []) (length log) (omega arith)) (tick-push log x)

pub length-ticks_of : (segments : List Segment) (until : ℕ) → length (ticks_of segments until) ≡ until
unfolding ticks_of
length-ticks_of segments zero = refl
length-ticks_of segments (suc until) = omega (arith, length_push (ticks_of segments until) (job_at segments until), length-ticks_of segments until)

ticks_of-take : (segments : List Segment) (log : Ticks) (n : ℕ) → n ≤ length log → ((u : ℕ) → u < n → job_at segments u ≡ tick log u) → ticks_of segments n ≡ take n log
unfolding ticks_of tick
ticks_of-take segments log zero h told = refl
ticks_of-take segments log (suc n) h told =
    let next : n + 1 ≡ suc n = omega arith in
    ap₂ (λ (front : Ticks) (x : Option Job). front ++ x ∷ []) (ticks_of-take segments log n (omega arith) (λ u lt. told u (omega arith))) (told n (omega arith)) ∙
    sym (take_more log n None (omega arith)) ∙
    ap (λ (m : ℕ). take m log) next

-- the segments of a log tell its ticks
pub ticks_of-segments_of : (log : Ticks) → ticks_of (segments_of log) (length log) ≡ log
ticks_of-segments_of log = ticks_of-take (segments_of log) log (length log) (omega arith) (λ u h. job_at-segments_below log (length log) u h) ∙ take_all (length log) log (omega arith)

-- idle ticks add no segment
pub segments_of-append_idle : (log : Ticks) (n : ℕ) → segments_of (log ++ replicate n None) ≡ segments_of log
unfolding with_tick
segments_of-append_idle log zero = ap segments_of (append-nil log)
segments_of-append_idle log (suc n) =
    let front = log ++ replicate n None in
    let idle : Ticks = None ∷ [] in
    let next : n + 1 ≡ suc n = omega arith in
    let cut : log ++ replicate (suc n) None ≡ front ++ idle =
    ap (λ (m : ℕ). log ++ replicate m None) (sym next) ∙ ap (λ (ts : Ticks). log ++ ts) (sym (replicate_more n None)) ∙ sym (append_assoc log (replicate n None) idle) in
    ap segments_of cut ∙ segments_of-push front None ∙ segments_of-append_idle log n

pub segments_of-idle : (n : ℕ) → segments_of (replicate n None) ≡ []
segments_of-idle n = segments_of-append_idle [] n ∙ segments_below-zero []

-- ticks that go to one job add one run
pub segments_of-append_run : (log : Ticks) (job : Job) (n : ℕ) → segments_of (log ++ replicate (suc n) (Some job)) ≡ with_run (segments_of log) (length log) (length log + suc n) job
unfolding with_tick
segments_of-append_run log job zero =
    let one : suc (length log) ≡ length log + 1 = omega arith in
    segments_of-push log (Some job) ∙ ap (λ (to : ℕ). with_run (segments_of log) (length log) to job) one
segments_of-append_run log job (suc n) =
    let front = log ++ replicate (suc n) (Some job) in
    let last : Ticks = Some job ∷ [] in
    let next : suc n + 1 ≡ suc (suc n) = omega arith in
    let cut : log ++ replicate (suc (suc n)) (Some job) ≡ front ++ last =
    ap (λ (m : ℕ). log ++ replicate m (Some job)) (sym next) ∙ ap (λ (ts : Ticks). log ++ ts) (sym (replicate_more (suc n) (Some job))) ∙ sym (append_assoc log (replicate (suc n) (Some job)) last) in
    let long : length front ≡ length log + suc n = length-append log (replicate (suc n) (Some job)) ∙ ap (λ (m : ℕ). length log + m) (length-replicate (suc n) (Some job)) in
    let end : suc (length log + suc n) ≡ length log + suc (suc n) = omega arith in
    ap segments_of cut ∙
    segments_of-push front (Some job) ∙
    ap₂ (λ (ss : List Segment) (mid : ℕ). with_run ss mid (suc mid) job) (segments_of-append_run log job n) long ∙
    with_run-with_run (segments_of log) (length log) (length log + suc n) (suc (length log + suc n)) job ∙
    ap (λ (to : ℕ). with_run (segments_of log) (length log) to job) end

-- a run of another job than the last tick's is a segment of its own
pub segments_of-append_new_run : (log : Ticks) (job : Job) (n : ℕ) → (tick log (length log - 1) ≡ Some job → ⊥) →
    segments_of (log ++ replicate (suc n) (Some job)) ≡ segments_of log ++ record { from = length log; to = length log + suc n; job = job } ∷ []
segments_of-append_new_run log job n other =
    let from = length log in
    let segments = segments_of log in
    ⊎_elim
    (λ (c : Continues segments from job).
    let last = c.last in
    let meets : last.to ≡ from = c.meets in
    let Q : List Segment → Type 0 = λ ss. AreInOrder 0 ss from in
    let parts = in_order_parts 0 from c.front (last ∷ []) (subst Q c.is (segments_below-in_order log from)) in
    let t = from - 1 in
    let begun : last.from ≤ t = omega (arith, parts.2.1) in
    let ran : t < last.to = omega (arith, parts.2.1) in
    absurd (other
    (sym (job_at-segments_below log from t (omega (arith, parts.2.1))) ∙
    ap (λ (ss : List Segment). job_at ss t) c.is ∙
    job_at-append_right c.front (last ∷ []) t (job_at-past 0 parts.0 c.front t parts.1 (omega (arith, parts.2.0))) ∙
    job_at_here last [] t begun ran ∙
    ap (λ (j : Job). Some j) c.same)))
    (λ (b : Begins segments from job). segments_of-append_run log job n ∙ b (from + suc n))
    (cases_run segments from job)
