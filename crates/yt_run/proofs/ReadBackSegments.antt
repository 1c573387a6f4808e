-- What the segments of a log have: they lie within it, and their jobs are those of its ticks.
use Rattle.std.proofs.Common.{ℕ, zero, suc, ◌≡◌, ◌-◌, ◌<◌, ◌≤◌, List, [], ◌∷◌, ◌++◌, length, get_or, set, Option, Some, None, refl, arith}
use Rattle.std.specs.List.{All}
use Rattle.std.proofs.lemmas.Bool.{cond_both}
use Rattle.std.proofs.lemmas.List.Elements.{All-nil, All-set, All-push, All-get_or, All-weaker}
use Rattle.yt_log.specs.declared.job.Job.{Job}
use Rattle.yt_log.specs.declared.job.Segment.{Segment}
use Rattle.yt_log.specs.Segments.{ends_in, with_run, with_tick, segments_below, segments_of}
use Rattle.yt_log.specs.Ticks.{Ticks, tick}
use Rattle.yt_log.proofs.Lemmas.{run_of, some_from_ends_in}

-- what holds of each segment still does when ticks go to a job
with_run-keeps : (Q : Segment → Type 0) (segments : List Segment) (from to : ℕ) (job : Job) → All Q segments → ((s : Segment) → Q s → Q (record s { to = to })) → Q (run_of from to job) → All Q (with_run segments from to job)
unfolding with_run
with_run-keeps Q segments from to job all longer new =
    let last = get_or segments (length segments - 1) (run_of from to job) in
    cond_both (ends_in segments from job) (set segments (length segments - 1) (record last { to = to })) (segments ++ run_of from to job ∷ []) (All Q)
    (λ goes_on.
    let one = some_from_ends_in segments from job goes_on in
    let some : length segments - 1 < length segments = omega arith in
    All-set Q segments (length segments - 1) (record last { to = to }) (longer last (All-get_or Q segments (length segments - 1) (run_of from to job) some all)) all)
    (λ ends. All-push Q segments (run_of from to job) all new)

-- a segment lies below a tick, and its job passes
pub record IsSegmentBelow (P : Job → Type 0) (t : ℕ) (s : Segment) : Type 0 where
  pub from : s.from ≤ t
  pub to : s.to ≤ t
  pub job : P s.job

module _ (P : Job → Type 0) (log : Ticks) (pass : (t : ℕ) (job : Job) → tick log t ≡ Some job → P job) where
  with_tick-below : (t : ℕ) (segments : List Segment) (here : Option Job) → tick log t ≡ here → All (IsSegmentBelow P t) segments → All (IsSegmentBelow P (suc t)) (with_tick segments t here)
  unfolding with_tick
  with_tick-below t segments None at all = All-weaker (IsSegmentBelow P t) (IsSegmentBelow P (suc t)) (λ s within. record { from = omega arith; to = omega arith; job = within.job }) segments all
  with_tick-below t segments (Some job) at all =
      with_run-keeps (IsSegmentBelow P (suc t)) segments t (suc t) job
      (All-weaker (IsSegmentBelow P t) (IsSegmentBelow P (suc t)) (λ s within. record { from = omega arith; to = omega arith; job = within.job }) segments all)
      (λ s within. record { from = within.from; to = omega arith; job = within.job })
      (record { from = omega arith; to = omega arith; job = pass t job at })

  -- the segments of the ticks below t lie below t, and their jobs are those of ticks
  pub segments_below-IsSegmentBelow : (t : ℕ) → All (IsSegmentBelow P t) (segments_below log t)
  unfolding segments_below
  segments_below-IsSegmentBelow zero = All-nil (IsSegmentBelow P 0)
  segments_below-IsSegmentBelow (suc t) = with_tick-below t (segments_below log t) (tick log t) refl (segments_below-IsSegmentBelow t)

  -- and so do the segments of a log
  pub segments_of-IsSegmentBelow : All (IsSegmentBelow P (length log)) (segments_of log)
  segments_of-IsSegmentBelow = segments_below-IsSegmentBelow (length log)

  -- in short: what holds of the job of each tick holds of the job of each segment
  pub segments_of-jobs : All (λ s. P s.job) (segments_of log)
  segments_of-jobs = λ k d lt. (segments_of-IsSegmentBelow k d lt).job
