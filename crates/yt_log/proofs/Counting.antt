-- What segments count, and that a log's segments count what it has done.
use Rattle.std.proofs.Common.{◌≡◌, ℕ, zero, suc, ◌+◌, ◌-◌, ◌<◌, ◌≤◌, min, Bool, true, false, cond, List, [], ◌∷◌, length, drop, get_or, Option, Some, None, refl, sym, ap, subst, ◌∙◌, ⊎_elim, arith, ◌&&◌, eqb, ltb, eq-eqb, lt-ltb}
use Rattle.std.proofs.lemmas.Bool.{and_from, both_ways, cases_lt, cond-false, false_from_ne_true}
use Rattle.std.proofs.lemmas.List.{drop_more, drop-drop, get_or_past}
use Rattle.yt_log.specs.declared.job.Job.{Job}
use Rattle.yt_log.specs.declared.job.Segment.{Segment}
use Rattle.yt_log.specs.Plan.{same_job}
use Rattle.yt_log.specs.Ticks.{Ticks, tick, names, done}
use Rattle.yt_log.specs.Segments.{AreInOrder, job_at, segments_of}
use Rattle.yt_log.specs.Inside.Counts.{share, ticks_below, AreOrdered, IsNoLater, no_segment, segment_at}
use Rattle.yt_log.proofs.Jobs.{same_job_true}
use Rattle.yt_log.proofs.Ticks.{done-zero, done-suc}
use Rattle.yt_log.proofs.SegmentLists.{job_at_here, job_at_before, job_at_after, job_at-nil, job_at-past}
use Rattle.yt_log.proofs.SegmentLemmas.{segments_below-in_order, job_at-segments_below}

pub ticks_below-cons : (s : Segment) (ss : List Segment) (job : Job) (t : ℕ) → ticks_below (s ∷ ss) job t ≡ share s job t + ticks_below ss job t
unfolding ticks_below
ticks_below-cons s ss job t = refl

pub ticks_below-nil : (job : Job) (t : ℕ) → ticks_below [] job t ≡ 0
unfolding ticks_below
ticks_below-nil job t = refl

share_most : (b : Bool) (m n : ℕ) → m ≤ n → cond b m 0 ≤ n
share_most true m n h = h
share_most false m n h = omega arith

-- segments give no ticks before the first
pub ticks_below_none : (low high : ℕ) (ss : List Segment) (job : Job) (t : ℕ) → AreInOrder low ss high → t ≤ low → ticks_below ss job t ≡ 0
ticks_below_none low high [] job t order h = ticks_below-nil job t
ticks_below_none low high (s ∷ ss) job t order h =
    let e = ticks_below-cons s ss job t in
    let a = order.0 in
    let b = order.1 in
    let m = share_most (same_job s.job job) (min s.to t - s.from) 0 (omega arith) in
    let rest = ticks_below_none s.to high ss job t order.2 (omega arith) in
    omega arith

-- no more than there are
pub ticks_below_most : (low high : ℕ) (ss : List Segment) (job : Job) (t : ℕ) → AreInOrder low ss high → ticks_below ss job t ≤ t - low
ticks_below_most low high [] job t order = let e = ticks_below-nil job t in omega arith
ticks_below_most low high (s ∷ ss) job t order =
    let e = ticks_below-cons s ss job t in
    let a = order.0 in
    let b = order.1 in
    let m = share_most (same_job s.job job) (min s.to t - s.from) (min s.to t - s.from) (omega arith) in
    let rest = ticks_below_most s.to high ss job t order.2 in
    omega arith

share_same : (b : Bool) (m n : ℕ) → m ≡ n → cond b m 0 ≡ cond b n 0
share_same b m n e = ap (λ (x : ℕ). cond b x 0) e

share_more : (b : Bool) (m n : ℕ) → m ≡ suc n → cond b m 0 ≡ cond b n 0 + cond b 1 0
share_more true m n e = omega arith
share_more false m n e = omega arith

names-some : (k j : Job) → names (Some k) j ≡ same_job k j
unfolding names
names-some k j = refl

names-none : (j : Job) → names None j ≡ false
unfolding names
names-none j = refl

-- whether a tick went to a job
abbrev one_tick : Option Job → Job → ℕ
one_tick o job = cond (names o job) 1 0

-- one tick more
pub ticks_below-suc : (low high : ℕ) (ss : List Segment) (job : Job) (t : ℕ) → AreInOrder low ss high → ticks_below ss job (suc t) ≡ ticks_below ss job t + one_tick (job_at ss t) job
ticks_below-suc low high [] job t order =
    let a = ticks_below-nil job t in
    let b = ticks_below-nil job (suc t) in
    let c : one_tick (job_at [] t) job ≡ 0 = ap (λ (o : Option Job). one_tick o job) (job_at-nil t) ∙ ap (λ (b : Bool). cond {A = ℕ} b 1 0) (names-none job) in
    omega arith
ticks_below-suc low high (s ∷ ss) job t order =
    let a = ticks_below-cons s ss job t in
    let b = ticks_below-cons s ss job (suc t) in
    let from = order.0 in
    let some = order.1 in
    let rest = ticks_below-suc s.to high ss job t order.2 in
    ⊎_elim
    (λ (before : t < s.from).
    let same = share_same (same_job s.job job) (min s.to (suc t) - s.from) (min s.to t - s.from) (omega arith) in
    let at : one_tick (job_at (s ∷ ss) t) job ≡ one_tick (job_at ss t) job = ap (λ (o : Option Job). one_tick o job) (job_at_before s ss t before) in
    omega arith)
    (λ (ge : s.from ≤ t).
    ⊎_elim
    (λ (here : t < s.to).
    let more = share_more (same_job s.job job) (min s.to (suc t) - s.from) (min s.to t - s.from) (omega arith) in
    let at : one_tick (job_at (s ∷ ss) t) job ≡ cond (same_job s.job job) 1 0 = ap (λ (o : Option Job). one_tick o job) (job_at_here s ss t ge here) ∙ ap (λ (b : Bool). cond {A = ℕ} b 1 0) (names-some s.job job) in
    let x = ticks_below_none s.to high ss job t order.2 (omega arith) in
    let y = ticks_below_none s.to high ss job (suc t) order.2 (omega arith) in
    omega arith)
    (λ (after : s.to ≤ t).
    let same = share_same (same_job s.job job) (min s.to (suc t) - s.from) (min s.to t - s.from) (omega arith) in
    let at : one_tick (job_at (s ∷ ss) t) job ≡ one_tick (job_at ss t) job = ap (λ (o : Option Job). one_tick o job) (job_at_after s ss t after) in
    omega arith)
    (cases_lt t s.to))
    (cases_lt t s.from)

-- the segments of a log tell each of its ticks
pub job_at-segments_of : (log : Ticks) (t : ℕ) → job_at (segments_of log) t ≡ tick log t
unfolding tick
job_at-segments_of log t =
    ⊎_elim
    (λ (lt : t < length log). job_at-segments_below log (length log) t lt)
    (λ (ge : length log ≤ t). job_at-past 0 (length log) (segments_of log) t (segments_below-in_order log (length log)) ge ∙ sym (get_or_past log t None ge))
    (cases_lt t (length log))

-- they give a job what the log has done of it
pub done_is_ticks : (log : Ticks) (job : Job) (t : ℕ) → done log job t ≡ ticks_below (segments_of log) job t
done_is_ticks log job zero = done-zero log job ∙ sym (ticks_below_none 0 (length log) (segments_of log) job 0 (segments_below-in_order log (length log)) (omega arith))
done_is_ticks log job (suc t) =
    let a = done-suc log job t in
    let b = ticks_below-suc 0 (length log) (segments_of log) job t (segments_below-in_order log (length log)) in
    let c : one_tick (job_at (segments_of log) t) job ≡ one_tick (tick log t) job = ap (λ (o : Option Job). one_tick o job) (job_at-segments_of log t) in
    let d = done_is_ticks log job t in
    omega arith

-- those in front that are of other jobs don't count
pub ticks_below-drop : (ss : List Segment) (job : Job) (t n : ℕ) → ((k : ℕ) → k < n → (segment_at ss k).job ≡ job → ⊥) → n ≤ length ss → ticks_below (drop n ss) job t ≡ ticks_below ss job t
unfolding segment_at
ticks_below-drop ss job t zero other h = refl
ticks_below-drop [] job t (suc n) other h = absurd (omega arith)
ticks_below-drop (s ∷ ss) job t (suc n) other h =
    let e = ticks_below-cons s ss job t in
    let none : share s job t ≡ 0 = cond-false (same_job s.job job) (min s.to t - s.from) 0 (false_from_ne_true (same_job s.job job) (λ b. other 0 (omega arith) (same_job_true s.job job b))) in
    let rest = ticks_below-drop ss job t n (λ k lt. other (suc k) (omega arith)) (omega arith) in
    omega arith

-- what is left of segments in order is in order
pub ordered_drop : (n : ℕ) (ss : List Segment) → AreOrdered ss → AreOrdered (drop n ss)
ordered_drop zero ss h = h
ordered_drop (suc n) [] h = h
ordered_drop (suc n) (s ∷ ss) h = ordered_drop n ss (s.to, h.1, h.2.2)

pub ordered_segments : (log : Ticks) → AreOrdered (segments_of log)
ordered_segments log = (0, length log, segments_below-in_order log (length log))

-- one segment more, in the order of a loop over them
pub counted_more : (ss : List Segment) (n : ℕ) (job : Job) (t : ℕ) → n < length ss → share (segment_at ss n) job t + ticks_below (drop (n + 1) ss) job t ≡ ticks_below (drop n ss) job t
unfolding segment_at
counted_more ss n job t lt = sym (ap (λ (xs : List Segment). ticks_below xs job t) (drop_more ss n no_segment lt) ∙ ticks_below-cons (get_or ss n no_segment) (drop (n + 1) ss) job t)

pub ordered_more : (ss : List Segment) (n : ℕ) → AreOrdered (drop n ss) → AreOrdered (drop (n + 1) ss)
ordered_more ss n h = let P : List Segment → Type 0 = AreOrdered in subst P (drop-drop 1 n ss) (ordered_drop 1 (drop n ss) h)

-- segments from t on give none below t
pub counted_all : (ss : List Segment) (n : ℕ) (job : Job) (t : ℕ) → n < length ss → AreOrdered (drop n ss) → t ≤ (segment_at ss n).from → ticks_below (drop n ss) job t ≡ 0
unfolding segment_at
counted_all ss n job t lt order before =
    let e = drop_more ss n no_segment lt in
    let P : List Segment → Type 0 = AreOrdered in
    let o = subst P e order in
    let from : AreInOrder (get_or ss n no_segment).from (get_or ss n no_segment ∷ drop (n + 1) ss) o.1 = (omega arith, o.2.1, o.2.2) in
    ap (λ (xs : List Segment). ticks_below xs job t) e ∙ ticks_below_none (get_or ss n no_segment).from o.1 _ job t from before

pub ticks_few : (ss : List Segment) (job : Job) (t : ℕ) → AreOrdered ss → ticks_below ss job t ≤ t
ticks_few ss job t o = let m = ticks_below_most o.0 o.1 ss job t o.2 in omega arith

-- the test that a segment is of a later job
pub no_later_from : (ss : List Segment) (n : ℕ) (job : Job) → ((eqb (segment_at ss n).job.task job.task) && ltb job.number (segment_at ss n).job.number) ≡ false → IsNoLater job (segment_at ss n)
no_later_from ss n job h same =
    ⊎_elim
    (λ (lt : job.number < (segment_at ss n).job.number). absurd (both_ways _ h (and_from (eqb (segment_at ss n).job.task job.task) (ltb job.number (segment_at ss n).job.number) (eq-eqb _ _ same) (lt-ltb _ _ lt))))
    (λ (ge : (segment_at ss n).job.number ≤ job.number). ge)
    (cases_lt job.number (segment_at ss n).job.number)
