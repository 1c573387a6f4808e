-- A log's fields: the segments and the number of ticks that stand for its ticks.
use Rattle.std.proofs.Common.{◌≡◌, ℕ, zero, suc, ◌+◌, ◌-◌, ◌<◌, ◌≤◌, List, [], ◌∷◌, ◌++◌, length, replicate, Option, Some, None, refl, sym, ap, ap₂, ◌∙◌, subst, arith}
use Rattle.std.proofs.lemmas.List.{length-append, length-replicate}
use Rattle.yt_log.specs.declared.job.Job.{Job}
use Rattle.yt_log.specs.declared.job.Segment.{Segment}
use Rattle.yt_log.specs.Ticks.{Ticks}
use Rattle.yt_log.specs.Segments.{with_run, segments_of, ticks_of}
use Rattle.yt_log.proofs.SegmentLemmas.{segments_below-zero, length-ticks_of, ticks_of-segments_of, segments_of-append_idle, segments_of-append_run}

-- these fields tell the log
pub record Tells (segments : List Segment) (until : ℕ) (log : Ticks) : Type 0 where
  pub view : ticks_of segments until ≡ log
  pub invariant : segments ≡ segments_of (ticks_of segments until)

-- they are its segments and its length
pub Tells_segments : (segments : List Segment) (until : ℕ) (log : Ticks) → Tells segments until log → segments ≡ segments_of log
Tells_segments segments until log t = t.invariant ∙ ap segments_of t.view

pub Tells_until : (segments : List Segment) (until : ℕ) (log : Ticks) → Tells segments until log → until ≡ length log
Tells_until segments until log t = sym (length-ticks_of segments until) ∙ ap length t.view

pub Tells_from : (segments : List Segment) (until : ℕ) (log : Ticks) → segments ≡ segments_of log → until ≡ length log → Tells segments until log
Tells_from segments until log e n =
    let view = ap₂ ticks_of e n ∙ ticks_of-segments_of log in
    record { view = view; invariant = e ∙ ap segments_of (sym view) }

pub Tells_none : (segments : List Segment) → segments ≡ [] → Tells segments 0 []
Tells_none segments e = Tells_from segments 0 [] (e ∙ sym (segments_below-zero [])) refl

-- idle ticks change the number of ticks alone
pub Tells_idle : (segments : List Segment) (until to : ℕ) (log : Ticks) → Tells segments until log → until ≤ to → Tells segments to (log ++ replicate (to - length log) None)
Tells_idle segments until to log t le =
    let n = to - length log in
    Tells_from segments to (log ++ replicate n None)
    (Tells_segments segments until log t ∙ sym (segments_of-append_idle log n))
    (omega (arith, Tells_until segments until log t, length-append log (replicate n None), length-replicate {A = Option Job} n None))

-- ticks of one job add its run
pub Tells_run : (segments more : List Segment) (until ticks : ℕ) (log : Ticks) (job : Job) → Tells segments until log → 0 < ticks →
    more ≡ with_run segments until (until + ticks) job → Tells more (until + ticks) (log ++ replicate ticks (Some job))
Tells_run segments more until (suc n) log job t some e =
    let long = Tells_until segments until log t in
    let more_is : more ≡ with_run (segments_of log) (length log) (length log + suc n) job =
    e ∙ ap₂ (λ (ss : List Segment) (from : ℕ). with_run ss from (from + suc n) job) (Tells_segments segments until log t) long in
    Tells_from more (until + suc n) (log ++ replicate (suc n) (Some job))
    (more_is ∙ sym (segments_of-append_run log job n))
    (omega (arith, long, length-append log (replicate (suc n) (Some job)), length-replicate (suc n) (Some job)))
Tells_run segments more until zero log job t some e = absurd (omega arith)

-- one idle tick
pub Tells_idle_tick : (segments : List Segment) (until : ℕ) (log : Ticks) → Tells segments until log → Tells segments (until + 1) (log ++ None ∷ [])
Tells_idle_tick segments until log t =
    let long = Tells_until segments until log t in
    let one : until + 1 - length log ≡ 1 = omega arith in
    let P : ℕ → Type 0 = λ n. Tells segments (until + 1) (log ++ replicate n None) in
    subst P one (Tells_idle segments until (until + 1) log t (omega arith))
