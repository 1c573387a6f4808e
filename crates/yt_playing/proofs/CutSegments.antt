-- The lines of segments that are cut at a tick are those of the segments of the ticks below it.
use Rattle.std.proofs.Common.{◌≡◌, ℕ, zero, suc, ◌<◌, ◌≤◌, min, cond, ltb, drop, length, List, [], ◌∷◌, ◌++◌, Option, Some, None, refl, sym, ap, ap₂, subst, ◌∙◌, ⊎_elim, append_assoc, append-nil, arith}
use Rattle.std.proofs.lemmas.List.{drop_all}
use Rattle.std.proofs.lemmas.Bool.{cases_lt, cond-true, cond-false, le-ltb, lt-ltb}
use Rattle.yt_log.specs.declared.job.Job.{Job}
use Rattle.yt_log.specs.declared.job.Segment.{Segment}
use Rattle.yt_log.specs.Segments.{AreInOrder, segments_below, segments_of, with_run, with_tick}
use Rattle.yt_log.specs.Ticks.{Ticks, tick}
use Rattle.yt_log.proofs.Lemmas.{Begins, Continues, cases_run, run_of, segments_below-in_order, segments_below-suc, with_run-continues}
use Rattle.yt_playing.specs.Inside.Cut.{line_below, lines_below}
use Rattle.yt_playing.specs.Texts.{play_line, play_lines}

min_low : (a b : ℕ) → a ≤ b → min a b ≡ a
min_low a b h = omega arith

min_high : (a b : ℕ) → b ≤ a → min a b ≡ b
min_high a b h = omega arith

-- a segment that ends by the tick isn't cut
line_whole : (labels : List (List ℕ)) (stop : ℕ) (s : Segment) → s.from < stop → s.to ≤ stop → line_below labels stop s ≡ play_line labels s
line_whole labels stop s begun ends =
    cond-true (ltb s.from stop) (play_line labels (record s { to = min s.to stop })) [] (lt-ltb s.from stop begun)
    ∙ ap (λ (to : ℕ). play_line labels (record s { to = to })) (min_low s.to stop ends)

-- nothing is shown of one that begins at the tick or later
line_none : (labels : List (List ℕ)) (stop : ℕ) (s : Segment) → stop ≤ s.from → line_below labels stop s ≡ []
line_none labels stop s late = cond-false (ltb s.from stop) (play_line labels (record s { to = min s.to stop })) [] (le-ltb s.from stop late)

-- what a segment has beyond the tick doesn't matter
line_longer : (labels : List (List ℕ)) (stop : ℕ) (s : Segment) (to : ℕ) → stop ≤ s.to → stop ≤ to → line_below labels stop (record s { to = to }) ≡ line_below labels stop s
line_longer labels stop s to beyond later =
    let cut : min to stop ≡ min s.to stop = min_high to stop later ∙ sym (min_high s.to stop beyond) in
    ap (λ (end : ℕ). cond (ltb s.from stop) (play_line labels (record s { to = end })) []) cut

high_of : (low high : ℕ) (xs : List Segment) → AreInOrder low xs high → low ≤ high
high_of low high [] h = h
high_of low high (x ∷ xs) h = let most = high_of x.to high xs h.2 in omega (arith, h.0, h.1)

-- segments that end by the tick are shown whole
lines_whole : (labels : List (List ℕ)) (stop low : ℕ) (xs : List Segment) → AreInOrder low xs stop → lines_below labels stop xs ≡ play_lines labels xs
lines_whole labels stop low [] h = refl
lines_whole labels stop low (x ∷ xs) h =
    let most = high_of x.to stop xs h.2 in
    ap₂ (λ (a b : List ℕ). a ++ b) (line_whole labels stop x (omega (arith, h.1)) most) (lines_whole labels stop x.to xs h.2)

lines-append : (labels : List (List ℕ)) (stop : ℕ) (xs ys : List Segment) → lines_below labels stop (xs ++ ys) ≡ lines_below labels stop xs ++ lines_below labels stop ys
lines-append labels stop [] ys = refl
lines-append labels stop (x ∷ xs) ys = ap (λ (t : List ℕ). line_below labels stop x ++ t) (lines-append labels stop xs ys) ∙ sym (append_assoc (line_below labels stop x) (lines_below labels stop xs) (lines_below labels stop ys))

-- a run from the tick on changes nothing below it
run_beyond : (labels : List (List ℕ)) (stop : ℕ) (xs : List Segment) (from to : ℕ) (job : Job) → stop ≤ from → from ≤ to → lines_below labels stop (with_run xs from to job) ≡ lines_below labels stop xs
run_beyond labels stop xs from to job late longer =
    let lines = λ (ss : List Segment). lines_below labels stop ss in
    ⊎_elim
    (λ (c : Continues xs from job).
    let last = c.last in
    let meets : last.to ≡ from = c.meets in
    ap lines (with_run-continues xs from to job c)
    ∙ lines-append labels stop c.front (record last { to = to } ∷ [])
    ∙ ap (λ (t : List ℕ). lines_below labels stop c.front ++ (t ++ [])) (line_longer labels stop last to (omega arith) (omega arith))
    ∙ sym (lines-append labels stop c.front (last ∷ []))
    ∙ ap lines (sym c.is))
    (λ (b : Begins xs from job).
    ap lines (b to)
    ∙ lines-append labels stop xs (run_of from to job ∷ [])
    ∙ ap (λ (t : List ℕ). lines_below labels stop xs ++ (t ++ [])) (line_none labels stop (run_of from to job) late)
    ∙ append-nil (lines_below labels stop xs))
    (cases_run xs from job)

tick_beyond : (labels : List (List ℕ)) (stop : ℕ) (xs : List Segment) (t : ℕ) (x : Option Job) → stop ≤ t → lines_below labels stop (with_tick xs t x) ≡ lines_below labels stop xs
unfolding with_tick
tick_beyond labels stop xs t None late = refl
tick_beyond labels stop xs t (Some job) late = run_beyond labels stop xs t (suc t) job late (omega arith)

cut_whole : (labels : List (List ℕ)) (log : Ticks) (stop n : ℕ) → stop ≡ n → lines_below labels stop (segments_below log n) ≡ play_lines labels (segments_below log stop)
cut_whole labels log stop n e =
    let P : ℕ → Type 0 = λ m. lines_below labels stop (segments_below log m) ≡ play_lines labels (segments_below log stop) in
    subst P e (lines_whole labels stop 0 (segments_below log stop) (segments_below-in_order log stop))

-- the segments of more ticks, cut at a tick, are shown as those of the ticks below it
pub cut_lines : (labels : List (List ℕ)) (log : Ticks) (stop n : ℕ) → stop ≤ n → lines_below labels stop (segments_below log n) ≡ play_lines labels (segments_below log stop)
cut_lines labels log stop zero h = cut_whole labels log stop zero (omega arith)
cut_lines labels log stop (suc n) h =
    ⊎_elim
    (λ (a : stop < suc n).
    ap (λ (ss : List Segment). lines_below labels stop ss) (segments_below-suc log n)
    ∙ tick_beyond labels stop (segments_below log n) n (tick log n) (omega arith)
    ∙ cut_lines labels log stop n (omega arith))
    (λ (b : suc n ≤ stop). cut_whole labels log stop (suc n) (omega arith))
    (cases_lt stop (suc n))

-- what was put of the segments of a log, none of which is left, is all of the ticks below the tick
pub all_put : (labels : List (List ℕ)) (log : Ticks) (stop n : ℕ) (items : List Segment) (text old : List ℕ) → items ≡ segments_of log → stop ≤ length log → length items ≤ n →
    text ++ lines_below labels stop (drop n items) ≡ old ++ lines_below labels stop items → text ≡ old ++ play_lines labels (segments_below log stop)
all_put labels log stop n items text old is within out put =
    sym (append-nil text)
    ∙ ap (λ (xs : List Segment). text ++ lines_below labels stop xs) (sym (drop_all n items out))
    ∙ put
    ∙ ap (λ (xs : List Segment). old ++ lines_below labels stop xs) is
    ∙ ap (λ (t : List ℕ). old ++ t) (cut_lines labels log stop (length log) within)
