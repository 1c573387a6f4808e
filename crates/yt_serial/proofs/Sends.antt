-- When the messages of one job's sends come.
use Rattle.std.proofs.Common.{◌≡◌, ℕ, zero, suc, ◌+◌, ◌*◌, ◌≤◌, ℤ, eqb, List, [], ◌∷◌, length, slice_get, Some, refl, sym, ap, subst, ◌∙◌, ⊎_elim, arith, eq-eqb, ne_eqb}
use Rattle.std.proofs.lemmas.Bool.{cases_eq, cond-true, cond-false}
use Rattle.std.proofs.lemmas.Option.{none-some, same_Some}
use Rattle.yt_graph.specs.declared.handled.SendItem.{SendItem}
use Rattle.yt_graph.specs.Cost.{one_if_same, sent_on}
use Rattle.yt_graph.specs.Sends.{messages_on}
use Rattle.yt_order.specs.Gaps.{at_gaps}
use Rattle.yt_serial.specs.PortMessages.{arriving, spaced}
use Rattle.yt_trace.specs.Traces.{PortMessage}
use Rattle.yt_serial.proofs.Spread.{IsSpread, spread_none, spread_first}

-- a message comes no earlier than the first may, and leaves its gap before the last's gap ends
pub record ComesWithin (time gap count : ℕ) (x : PortMessage) : Type 0 where
  pub starts : time ≤ x.time
  pub ends : x.time + gap ≤ time + count * gap

pub gaps_within : (time gap : ℕ) (sent : List (List ℤ)) (i : ℕ) (x : PortMessage) → slice_get (at_gaps arriving time gap sent) i ≡ Some x → ComesWithin time gap (length sent) x
gaps_within time gap [] i x h = absurd (none-some x h)
gaps_within time gap (values ∷ sent) zero x h =
    let e : time ≡ x.time = ap (λ (m : PortMessage). m.time) (same_Some (arriving time values) x h) in
    record { starts = omega arith; ends = omega arith }
gaps_within time gap (values ∷ sent) (suc i) x h =
    let r = gaps_within (time + gap) gap sent i x h in
    let a = r.starts in
    let b = r.ends in
    record { starts = omega arith; ends = omega arith }

pub gaps_spread : (time gap : ℕ) (sent : List (List ℤ)) → IsSpread gap (at_gaps arriving time gap sent)
gaps_spread time gap [] = spread_none gap
gaps_spread time gap (values ∷ sent) =
    spread_first gap (arriving time values) (at_gaps arriving (time + gap) gap sent) (λ i y h. (gaps_within (time + gap) gap sent i y h).starts) (gaps_spread (time + gap) gap sent)

pub gaps-length : (time gap : ℕ) (sent : List (List ℤ)) → length (at_gaps arriving time gap sent) ≡ length sent
gaps-length time gap [] = refl
gaps-length time gap (values ∷ sent) = ap suc (gaps-length (time + gap) gap sent)

-- how many messages were sent on an out
pub messages_on-length : (out : ℕ) (sends : List SendItem) → length (messages_on out sends) ≡ sent_on out sends
messages_on-length out [] = refl
messages_on-length out (s ∷ sends) =
    let r = messages_on-length out sends in
    ⊎_elim
    (λ (e : s.out ≡ out).
    let a : length (messages_on out (s ∷ sends)) ≡ suc (length (messages_on out sends)) =
    ap length (cond-true (eqb s.out out) (s.values ∷ messages_on out sends) (messages_on out sends) (eq-eqb s.out out e)) in
    let b : one_if_same out s.out ≡ 1 = cond-true (eqb out s.out) 1 0 (eq-eqb out s.out (sym e)) in
    omega arith)
    (λ (ne : s.out ≡ out → ⊥).
    let a : length (messages_on out (s ∷ sends)) ≡ length (messages_on out sends) =
    ap length (cond-false (eqb s.out out) (s.values ∷ messages_on out sends) (messages_on out sends) (ne_eqb s.out out ne)) in
    let b : one_if_same out s.out ≡ 0 = cond-false (eqb out s.out) 1 0 (ne_eqb out s.out (λ e. ne (sym e))) in
    omega arith)
    (cases_eq s.out out)

pub spaced-length : (out time gap : ℕ) (sends : List SendItem) → length (spaced out time gap sends) ≡ sent_on out sends
spaced-length out time gap sends = gaps-length time gap (messages_on out sends) ∙ messages_on-length out sends

pub spaced_within : (out time gap : ℕ) (sends : List SendItem) (i : ℕ) (x : PortMessage)
    → slice_get (spaced out time gap sends) i ≡ Some x → ComesWithin time gap (sent_on out sends) x
spaced_within out time gap sends i x h = subst (λ (n : ℕ). ComesWithin time gap n x) (messages_on-length out sends) (gaps_within time gap (messages_on out sends) i x h)

pub spaced_spread : (out time gap : ℕ) (sends : List SendItem) → IsSpread gap (spaced out time gap sends)
spaced_spread out time gap sends = gaps_spread time gap (messages_on out sends)
