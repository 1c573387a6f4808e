-- The segments of a log are the one list that tells it.
use Rattle.std.proofs.Common.{◌≡◌, ℕ, zero, suc, ◌<◌, ◌≤◌, List, [], ◌∷◌, ◌++◌, length, take, Option, Some, None, refl, sym, ap, ap₂, subst, ◌∙◌, ⊎_elim, arith}
use Rattle.std.proofs.lemmas.Bool.{cases_lt}
use Rattle.std.proofs.lemmas.List.{get_or_append_left, get_or_at, get_or_past, get_or-take, length_push, length-take-le}
use Rattle.yt_log.specs.declared.job.Job.{Job}
use Rattle.yt_log.specs.declared.job.Segment.{Segment}
use Rattle.yt_log.specs.Segments.{with_tick, segments_below, segments_of, job_at, ticks_of}
use Rattle.yt_log.specs.Tasks.{Has}
use Rattle.yt_log.specs.Ticks.{Ticks, tick}
use Rattle.yt_log.proofs.Lemmas.{Begins, Continues, cases_run, run_of, segments_below-in_order, segments_below-suc, ticks_of-segments_of, with_run-continues}
use Rattle.yt_schedule_laws.specs.LogSegments.{NoneGoOn, AreSegmentsOf, IsMaximal, SegmentsTellTheLog}
use Rattle.yt_schedule_laws.proofs.ListsOfSegments.{begins, ends, is_there, lists_are_one}

-- the log of n ticks that go to these jobs
abbrev made : (ℕ → Option Job) → ℕ → Ticks
made f zero = []
made f (suc n) = made f n ++ f n ∷ []

made_long : (f : ℕ → Option Job) (n : ℕ) → length (made f n) ≡ n
made_long f zero = refl
made_long f (suc n) = omega (arith, length_push (made f n) (f n), made_long f n)

made_at : (f : ℕ → Option Job) (n u : ℕ) → u < n → tick (made f n) u ≡ f u
unfolding tick
made_at f zero u lt = absurd (omega arith)
made_at f (suc n) u lt =
    let long = made_long f n in
    ⊎_elim
    (λ (l : u < n). get_or_append_left (made f n) (f n ∷ []) None u (omega arith) ∙ made_at f n u l)
    (λ (l : n ≤ u). let e : u ≡ n = omega arith in get_or_at (made f n) (f n) [] None u (omega arith) ∙ ap f (sym e))
    (cases_lt u n)

ticks_made : (segments : List Segment) (n : ℕ) → ticks_of segments n ≡ made (job_at segments) n
unfolding ticks_of
ticks_made segments zero = refl
ticks_made segments (suc n) = ap (λ (log : Ticks). log ++ job_at segments n ∷ []) (ticks_made segments n)

-- the segments below a tick hang on the ticks below it alone
below_same : (a b : Ticks) (t : ℕ) → ((u : ℕ) → u < t → tick a u ≡ tick b u) → segments_below a t ≡ segments_below b t
unfolding segments_below
below_same a b zero same = refl
below_same a b (suc t) same = ap₂ (λ (ss : List Segment) (x : Option Job). with_tick ss t x) (below_same a b t (λ u lt. same u (omega arith))) (same t (omega arith))

-- they tell each tick below it
told : (log : Ticks) (stop u : ℕ) → u < stop → job_at (segments_below log stop) u ≡ tick log u
told log stop u lt =
    let cut = made (tick log) stop in
    let ss = segments_below log stop in
    let long = made_long (tick log) stop in
    let same : segments_of cut ≡ ss = ap (segments_below cut) long ∙ below_same cut log stop (λ v l. made_at (tick log) stop v l) in
    let whole : ticks_of ss stop ≡ cut = sym (ap₂ ticks_of same long) ∙ ticks_of-segments_of cut in
    sym (made_at (job_at ss) stop u lt) ∙ ap (λ (l : Ticks). tick l u) (sym (ticks_made ss stop) ∙ whole) ∙ made_at (tick log) stop u lt

-- one segment more, which doesn't go on with the last one
none_go_on_push : (ss : List Segment) (t : ℕ) (job : Job) → NoneGoOn ss → (Continues ss t job → ⊥) → NoneGoOn (ss ++ run_of t (suc t) job ∷ [])
none_go_on_push [] t job h anew = tt
none_go_on_push (a ∷ []) t job h anew = ((λ meets same. anew (record { front = []; last = a; is = refl; meets = meets; same = same })), tt)
none_go_on_push (a ∷ b ∷ rest) t job h anew =
    (h.0, none_go_on_push (b ∷ rest) t job h.1 (λ c. anew (record { front = a ∷ c.front; last = c.last; is = ap (λ (xs : List Segment). a ∷ xs) c.is; meets = c.meets; same = c.same })))

-- a longer last segment
none_go_on_longer : (front : List Segment) (last : Segment) (to : ℕ) → NoneGoOn (front ++ last ∷ []) → NoneGoOn (front ++ record last { to = to } ∷ [])
none_go_on_longer [] last to h = tt
none_go_on_longer (a ∷ []) last to h = (h.0, tt)
none_go_on_longer (a ∷ b ∷ front) last to h = (h.0, none_go_on_longer (b ∷ front) last to h.1)

begins_anew : (ss : List Segment) (t : ℕ) (job : Job) → Begins ss t job → Continues ss t job → ⊥
begins_anew ss t job b c =
    let longer : Segment = record (c.last) { to = suc t } in
    let e : ss ++ run_of t (suc t) job ∷ [] ≡ c.front ++ longer ∷ [] = sym (b (suc t)) ∙ with_run-continues ss t (suc t) job c in
    absurd (omega (arith, ap length e, ap length c.is, length_push ss (run_of t (suc t) job), length_push c.front longer, length_push c.front c.last))

none_go_on_tick : (ss : List Segment) (t : ℕ) (x : Option Job) → NoneGoOn ss → NoneGoOn (with_tick ss t x)
unfolding with_tick
none_go_on_tick ss t None h = h
none_go_on_tick ss t (Some job) h =
    ⊎_elim
    (λ (c : Continues ss t job). subst NoneGoOn (sym (with_run-continues ss t (suc t) job c)) (none_go_on_longer c.front c.last (suc t) (subst NoneGoOn c.is h)))
    (λ (b : Begins ss t job). subst NoneGoOn (sym (b (suc t))) (none_go_on_push ss t job h (begins_anew ss t job b)))
    (cases_run ss t job)

none_go_on : (log : Ticks) (t : ℕ) → NoneGoOn (segments_below log t)
unfolding segments_below
none_go_on log zero = tt
none_go_on log (suc t) = none_go_on_tick (segments_below log t) t (tick log t) (none_go_on log t)

are : (log : Ticks) (stop : ℕ) → AreSegmentsOf log stop (segments_below log stop)
are log stop = record { in_order = segments_below-in_order log stop; jobs = told log stop; longest = none_go_on log stop }

one : (log : Ticks) (stop : ℕ) (segments : List Segment) → AreSegmentsOf log stop segments → segments ≡ segments_below log stop
one log stop segments is =
    lists_are_one 0 stop segments (segments_below log stop) is.in_order (segments_below-in_order log stop) is.longest (none_go_on log stop)
    (λ t a b. is.jobs t b ∙ sym (told log stop t b))

maximal : (log : Ticks) (stop : ℕ) (segment : Segment) → Has (segments_below log stop) segment → IsMaximal log stop segment
maximal log stop segment has =
    let ss = segments_below log stop in
    let order = segments_below-in_order log stop in
    let none = none_go_on log stop in
    let there = is_there 0 stop ss order segment has in
    let some = there.some in
    let before = there.before in
    record {
      some = some;
      within = before;
      runs = λ t a b. sym (told log stop t (omega arith)) ∙ there.runs t a b;
      begins = λ t at e. begins 0 stop ss order none segment has t at (told log stop t (omega arith) ∙ e);
      ends = λ lt e. ends 0 stop ss order none segment has (told log stop segment.to lt ∙ e);
    }

cut : (log : Ticks) (stop : ℕ) → stop ≤ length log → segments_below log stop ≡ segments_of (take stop log)
unfolding tick
cut log stop le =
    below_same log (take stop log) stop (λ u lt. sym (get_or-take stop log u None lt)) ∙ ap (segments_below (take stop log)) (sym (length-take-le stop log le))

none_past : (log : Ticks) (t : ℕ) → length log ≤ t → tick log t ≡ None
unfolding tick
none_past log t le = get_or_past log t None le

whole : (log : Ticks) (stop : ℕ) → length log ≤ stop → segments_below log stop ≡ segments_of log
unfolding with_tick
whole log zero le = ap (segments_below log) (omega arith)
whole log (suc stop) le =
    ⊎_elim
    (λ (lt : length log < suc stop).
    segments_below-suc log stop ∙ ap (with_tick (segments_below log stop) stop) (none_past log stop (omega arith)) ∙ whole log stop (omega arith))
    (λ (ge : suc stop ≤ length log). ap (segments_below log) (omega arith))
    (cases_lt (length log) (suc stop))

pub segments_tell_the_log : SegmentsTellTheLog
segments_tell_the_log = record {
  are = λ log. are log (length log);
  one = λ log. one log (length log);
  are_below = are;
  one_below = one;
  maximal = maximal;
  cut = cut;
  whole = whole;
}
