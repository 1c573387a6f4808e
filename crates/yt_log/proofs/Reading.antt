-- Reading a log by its segments, from a tick on.
use Rattle.std.proofs.Common.{◌≡◌, ℕ, ◌+◌, ◌<◌, ◌≤◌, List, [], ◌∷◌, length, drop, Some, None, sym, ap, subst, ◌∙◌, arith}
use Rattle.std.proofs.lemmas.List.{drop_more, drop_all}
use Rattle.yt_log.specs.declared.job.Segment.{Segment}
use Rattle.yt_log.specs.Ticks.{Ticks}
use Rattle.yt_log.specs.Segments.{AreInOrder, job_at, segments_of}
use Rattle.yt_log.specs.Inside.Counts.{no_segment, segment_at}
use Rattle.yt_log.specs.Inside.Following.{IsStretch, Reads}
use Rattle.yt_log.proofs.SegmentLists.{job_at_here, job_at_before, job_at_after, job_at-nil, le_of_in_order, in_order_lower}
use Rattle.yt_log.proofs.SegmentLemmas.{segments_below-in_order}
use Rattle.yt_log.proofs.Counting.{job_at-segments_of}

-- what is left begins with the segment at the place
left_begins : (segments : List Segment) (next : ℕ) → next < length segments → drop next segments ≡ segment_at segments next ∷ drop (next + 1) segments
unfolding segment_at
left_begins segments next lt = drop_more segments next no_segment lt

-- the order of what is left, taken apart
pub record Begins (log : Ticks) (segments : List Segment) (next : ℕ) : Type 0 where
  pub is : drop next segments ≡ segment_at segments next ∷ drop (next + 1) segments
  pub some : (segment_at segments next).from < (segment_at segments next).to
  pub rest : AreInOrder (segment_at segments next).to (drop (next + 1) segments) (length log)

begins : (log : Ticks) (segments : List Segment) (t next : ℕ) → Reads log segments t next → next < length segments → Begins log segments next
begins log segments t next reads lt =
    let is = left_begins segments next lt in
    let P : List Segment → Type 0 = λ ss. AreInOrder 0 ss (length log) in
    let o = subst P is reads.ordered in
    record { is = is; some = o.1; rest = o.2 }

-- beyond the last segment the ticks are idle
pub idle_to_end : (log : Ticks) (segments : List Segment) (t next to : ℕ) → Reads log segments t next → t < length log → length segments ≤ next → to ≡ length log → IsStretch log t (record { job = None; to = to })
idle_to_end log segments t next to reads below past is = record {
  after = omega arith;
  within = omega arith;
  goes = λ u from lt. sym (reads.tells u from) ∙ ap (λ (ss : List Segment). job_at ss u) (drop_all next segments past) ∙ job_at-nil u;
}

-- before the segment too
pub idle_to_segment : (log : Ticks) (segments : List Segment) (t next : ℕ) → Reads log segments t next → next < length segments → t < (segment_at segments next).from → IsStretch log t (record { job = None; to = (segment_at segments next).from })
idle_to_segment log segments t next reads lt early =
    let b = begins log segments t next reads lt in
    let s = segment_at segments next in
    let some = b.some in
    let high = le_of_in_order s.to (length log) (drop (next + 1) segments) b.rest in
    record {
      after = early;
      within = omega arith;
      goes = λ u from under.
          sym (reads.tells u from)
          ∙ ap (λ (ss : List Segment). job_at ss u) b.is
          ∙ job_at_before s (drop (next + 1) segments) u under
          ∙ none_before s.to (length log) (drop (next + 1) segments) u b.rest (omega arith);
    }
  where
    none_before : (low high : ℕ) (ss : List Segment) (u : ℕ) → AreInOrder low ss high → u < low → job_at ss u ≡ None
    none_before low high [] u order lt = job_at-nil u
    none_before low high (s ∷ ss) u order lt = let a = order.0 in let b = order.1 in job_at_before s ss u (omega arith) ∙ none_before s.to high ss u order.2 (omega arith)

-- the ticks of the segment
pub job_to_end : (log : Ticks) (segments : List Segment) (t next : ℕ) → Reads log segments t next → next < length segments → (segment_at segments next).from ≤ t → IsStretch log t (record { job = Some (segment_at segments next).job; to = (segment_at segments next).to })
job_to_end log segments t next reads lt here =
    let b = begins log segments t next reads lt in
    let s = segment_at segments next in
    let high = le_of_in_order s.to (length log) (drop (next + 1) segments) b.rest in
    record {
      after = reads.ends lt;
      within = high;
      goes = λ u from under. sym (reads.tells u from) ∙ ap (λ (ss : List Segment). job_at ss u) b.is ∙ job_at_here s (drop (next + 1) segments) u (omega arith) under;
    }

-- the segment goes on, or the next one is read
pub reads_on : (log : Ticks) (segments : List Segment) (t next to : ℕ) → Reads log segments t next → t ≤ to → (next < length segments → to < (segment_at segments next).to) → Reads log segments to next
reads_on log segments t next to reads le under = record { tells = λ u from. reads.tells u (omega arith); ordered = reads.ordered; ends = under }

pub reads_next : (log : Ticks) (segments : List Segment) (t next to : ℕ) → Reads log segments t next → t ≤ to → next < length segments → (segment_at segments next).to ≤ to → to ≤ (segment_at segments next).to → Reads log segments to (next + 1)
reads_next log segments t next to reads le lt over under =
    let b = begins log segments t next reads lt in
    let s = segment_at segments next in
    record {
      tells = λ u from. sym (job_at_after s (drop (next + 1) segments) u (omega arith)) ∙ ap (λ (ss : List Segment). job_at ss u) (sym b.is) ∙ reads.tells u (omega arith);
      ordered = in_order_lower 0 s.to (length log) (drop (next + 1) segments) (omega arith) b.rest;
      ends = λ more.
          let P : List Segment → Type 0 = λ ss. AreInOrder s.to ss (length log) in
          let o = subst P (left_begins segments (next + 1) more) b.rest in
          let low = o.0 in
          let some = o.1 in
          omega arith;
    }

-- at first all segments are left
pub reads_first : (log : Ticks) → Reads log (segments_of log) 0 0
reads_first log =
    let order = segments_below-in_order log (length log) in
    record {
      tells = λ u from. job_at-segments_of log u;
      ordered = order;
      ends = λ lt.
          let P : List Segment → Type 0 = λ ss. AreInOrder 0 ss (length log) in
          let o = subst P (left_begins (segments_of log) 0 lt) order in
          let some = o.1 in
          omega arith;
    }

-- the same of the segments that a log gives
pub next_read : (log : Ticks) (segments : List Segment) (t next to : ℕ) → segments ≡ segments_of log → Reads log (segments_of log) t next → t ≤ to → (next < length (segments_of log) → to ≤ (segment_at (segments_of log) next).to) →
    next < length segments → (segment_at segments next).to ≤ to → Reads log (segments_of log) to (next + 1)
next_read log segments t next to is reads le short lt over =
    let P : List Segment → Type 0 = λ ss. next < length ss in
    let Q : List Segment → Type 0 = λ ss. (segment_at ss next).to ≤ to in
    reads_next log (segments_of log) t next to reads le (subst P is lt) (subst Q is over) (short (subst P is lt))

pub next_kept : (log : Ticks) (segments : List Segment) (t next to : ℕ) → segments ≡ segments_of log → Reads log (segments_of log) t next → t ≤ to → (next < length segments → to < (segment_at segments next).to) → Reads log (segments_of log) to next
next_kept log segments t next to is reads le under =
    let P : List Segment → Type 0 = λ ss. next < length ss → to < (segment_at ss next).to in
    reads_on log (segments_of log) t next to reads le (subst P is under)
