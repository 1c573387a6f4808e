-- A set has one pattern that shows that it doesn't fit.
use Rattle.std.proofs.Common.{◌≡◌, ℕ, ◌-◌, ◌<◌, ◌≤◌, List, get_or, take, length, Some, sym, ap, ap₂, subst, ◌∙◌, ⊎_elim, arith}
use Rattle.std.proofs.lemmas.Bool.{cases_lt}
use Rattle.std.proofs.lemmas.List.{get_or-take, length-take-le}
use Rattle.std.proofs.lemmas.Option.{get_or_from_slice_get, slice_get_within}
use Rattle.yt_list.proofs.Lemmas.{numbered_there}
use Rattle.yt_set.specs.declared.task.Task.{Task}
use Rattle.yt_set.specs.Tasks.{LacksRoom, hyperperiod}
use Rattle.yt_fits.specs.declared.interval.Breach.{Breach}
use Rattle.yt_fits.specs.declared.unfit.Unfit.{Unfit}
use Rattle.yt_fits.specs.declared.unfit.Unfit.TheVariants.{Hyperperiod, Overload, Interval}
use Rattle.yt_fits.specs.Intervals.{HaveRoom, IsFirstBreach}
use Rattle.yt_fits.specs.Loads.{hyperperiod_limit}
use Rattle.yt_fits.specs.Unfits.{IsReason}
use Rattle.yt_witness.specs.declared.pattern.Pattern.{Pattern}
use Rattle.yt_witness.specs.declared.pattern.Pattern.TheVariants.{All, Blocker}
use Rattle.yt_witness.specs.Witnesses.{pattern_of}

-- the task of a breach is not among those that have room in its span
lacks_at : (tasks some : List Task) (breach : Breach) (k : ℕ) (task : Task) → k < length some → get_or some k task ≡ task → LacksRoom tasks breach.len task → HaveRoom tasks breach.len some → ⊥
lacks_at tasks some breach k task lt at lacks room = room k task lt (subst (λ (t : Task). LacksRoom tasks breach.len t) (sym at) lacks)

-- no first breach is in a shorter span than another
no_shorter : (tasks : List Task) (a b : Breach) → IsFirstBreach tasks a → IsFirstBreach tasks b → a.len < b.len → ⊥
no_shorter tasks a b first second lt =
    let low = first.lowest in
    let n = a.task - 1 in
    let there = (numbered_there tasks a.task low.task low.there).1 in
    lacks_at tasks tasks a n low.task (slice_get_within tasks n low.task there) (get_or_from_slice_get tasks n low.task low.task there) low.lacks (second.shortest a.len lt)

-- nor of a lower task, in the same span
no_lower : (tasks : List Task) (a b : Breach) → IsFirstBreach tasks a → IsFirstBreach tasks b → a.len ≡ b.len → a.task < b.task → ⊥
no_lower tasks a b first second same lt =
    let low = first.lowest in
    let high = second.lowest in
    let n = a.task - 1 in
    let m = b.task - 1 in
    let place = numbered_there tasks a.task low.task low.there in
    let pos = place.0 in
    let some = slice_get_within tasks m high.task (numbered_there tasks b.task high.task high.there).1 in
    let long = length-take-le m tasks (omega arith) in
    let below : n < m = omega arith in
    let at = get_or-take m tasks n low.task below ∙ get_or_from_slice_get tasks n low.task low.task place.1 in
    let room = subst (λ (span : ℕ). HaveRoom tasks span (take m tasks)) (sym same) high.lowest in
    lacks_at tasks (take m tasks) a n low.task (omega arith) at low.lacks room

-- two first breaches are in the same span, of the same task
one_breach : (tasks : List Task) (a b : Breach) → IsFirstBreach tasks a → IsFirstBreach tasks b → ◌≡◌ {A = Pattern} (Blocker a.task a.len) (Blocker b.task b.len)
one_breach tasks a b first second =
    let len : a.len ≡ b.len = ⊎_elim
    (λ (l : a.len < b.len). absurd (no_shorter tasks a b first second l))
    (λ (l : b.len ≤ a.len). ⊎_elim
    (λ (m : b.len < a.len). absurd (no_shorter tasks b a second first m))
    (λ (m : a.len ≤ b.len). omega arith)
    (cases_lt b.len a.len))
    (cases_lt a.len b.len) in
    let task : a.task ≡ b.task = ⊎_elim
    (λ (l : a.task < b.task). absurd (no_lower tasks a b first second len l))
    (λ (l : b.task ≤ a.task). ⊎_elim
    (λ (m : b.task < a.task). absurd (no_lower tasks b a second first (sym len) m))
    (λ (m : a.task ≤ b.task). omega arith)
    (cases_lt b.task a.task))
    (cases_lt a.task b.task) in
    ap₂ (λ (t l : ℕ). Blocker t l) task len

-- two reasons of one set have one pattern
pub one_pattern : (tasks : List Task) (a b : Unfit) → IsReason tasks a → IsReason tasks b → (p q : Pattern) → pattern_of a ≡ Some p → pattern_of b ≡ Some q → p ≡ q
one_pattern tasks (Hyperperiod n) b is too p q given same = cc
one_pattern tasks (Overload sum) (Hyperperiod n) is too p q given same = cc
one_pattern tasks (Overload sum) (Overload more) is too p q given same =
    let e : sum.whole ≡ more.whole = ap (λ s. s.whole) (is.0 ∙ sym too.0) in
    let f : Some (All sum.whole) ≡ Some p = given in
    let g : Some (All more.whole) ≡ Some q = same in
    cc
one_pattern tasks (Overload sum) (Interval breach) is too p q given same = absurd (is.2 too.2)
one_pattern tasks (Interval breach) (Hyperperiod n) is too p q given same = cc
one_pattern tasks (Interval breach) (Overload sum) is too p q given same = absurd (too.2 is.2)
one_pattern tasks (Interval a) (Interval b) is too p q given same =
    let e = one_breach tasks a b is.0 too.0 in
    let f : Some (Blocker a.task a.len) ≡ Some p = given in
    let g : Some (Blocker b.task b.len) ≡ Some q = same in
    cc

-- a reason with a pattern is not that the hyperperiod is too great
pub no_pattern : (tasks : List Task) (why : Unfit) → IsReason tasks why → (p : Pattern) → pattern_of why ≡ Some p → hyperperiod_limit tasks < hyperperiod tasks → ⊥
no_pattern tasks (Hyperperiod n) is p given wide = cc
no_pattern tasks (Overload sum) is p given wide = omega (arith, wide, is.1)
no_pattern tasks (Interval breach) is p given wide = omega (arith, wide, is.1)
