-- The last time of each input, as messages come.
use Rattle.std.proofs.Common.{◌≡◌, ◌≢◌, ℕ, ◌-◌, ◌<◌, ◌≤◌, cond, eqb, List, [], ◌∷◌, ◌++◌, length, get_or, set, Option, None, Some, sym, ap, subst, ◌∙◌, ⊎_elim, arith, eq-eqb, ne_eqb, slice_get}
use Rattle.std.specs.Option.{unwrap_or}
use Rattle.std.proofs.lemmas.Bool.{cases_eq, cond-true, cond-false}
use Rattle.std.proofs.lemmas.List.{get_or-set_same, get_or-set_other, length-set}
use Rattle.std.proofs.lemmas.Option.{slice_get_within, slice_get-get_or, get_or_from_slice_get}
use Rattle.yt_list.proofs.Lemmas.{numbered_place}
use Rattle.yt_list.specs.Numbered.{numbered_or}
use Rattle.yt_trace.specs.declared.message.Message.{Message}
use Rattle.yt_trace.specs.TraceText.{last_time}
use Rattle.yt_trace.specs.Inside.Reading.{AreLast}
use Rattle.yt_trace.proofs.Adding.{last_from_push}

pub last_with : (input : ℕ) (trace : List Message) (m : Message) → last_time input (trace ++ m ∷ []) ≡ cond (eqb m.input input) (Some m.time) (last_time input trace)
last_with input trace m = last_from_push None input trace m

pub none_last : (times : List (Option ℕ)) → ((k : ℕ) → k < 16 → slice_get times k ≡ Some None) → AreLast times []
none_last times h = λ input a b. numbered_place times input a ∙ h (input - 1) (omega arith)

-- the times with a message's
pub see_last : (times : List (Option ℕ)) (trace : List Message) (m : Message) → 1 ≤ m.input → m.input ≤ 16 → AreLast times trace → AreLast (set times (m.input - 1) (Some m.time)) (trace ++ m ∷ [])
see_last times trace m low high are = λ input a b.
    let place = m.input - 1 in
    let new = set times place (Some m.time) in
    let was : slice_get times (input - 1) ≡ Some (last_time input trace) = sym (numbered_place times input a) ∙ are input a b in
    let long : input - 1 < length times = slice_get_within times (input - 1) _ was in
    let same_long : length new ≡ length times = length-set times place (Some m.time) in
    let read : slice_get new (input - 1) ≡ Some (get_or new (input - 1) None) = slice_get-get_or new (input - 1) None (omega arith) in
    numbered_place new input a ∙ read ∙ ap (λ (o : Option ℕ). Some o) (⊎_elim
    (λ (e : m.input ≡ input).
    let P : ℕ → Type 0 = λ n. get_or new (n - 1) None ≡ Some m.time in
    let here : place < length times = omega arith in
    subst P e (get_or-set_same times place (Some m.time) None here) ∙ sym (last_with input trace m ∙ cond-true (eqb m.input input) (Some m.time) (last_time input trace) (eq-eqb m.input input e)))
    (λ (ne : m.input ≢ input).
    get_or-set_other times place (input - 1) (Some m.time) None (λ e. ne (omega arith)) ∙
    get_or_from_slice_get times (input - 1) (last_time input trace) None was ∙
    sym (last_with input trace m ∙ cond-false (eqb m.input input) (Some m.time) (last_time input trace) (ne_eqb m.input input ne)))
    (cases_eq m.input input))

-- the time that is kept is that of the input's last message
pub last_is : (times : List (Option ℕ)) (trace : List Message) (input : ℕ) (last : Option ℕ) → 1 ≤ input → input ≤ 16 → AreLast times trace → last ≡ numbered_or times input None → last ≡ last_time input trace
last_is times trace input last low high are kept = kept ∙ ap (λ (o : Option (Option ℕ)). unwrap_or o None) (are input low high)

-- the times with those of a message of an input and a tick
pub see_at : (times : List (Option ℕ)) (trace : List Message) (m : Message) (input time : ℕ) → 1 ≤ input → input ≤ 16 → m.input ≡ input → m.time ≡ time → AreLast times trace →
    AreLast (set times (input - 1) (Some time)) (trace ++ m ∷ [])
see_at times trace m input time low high same when are =
    let seen = see_last times trace m (omega arith) (omega arith) are in
    subst (λ (i : ℕ). AreLast (set times (i - 1) (Some time)) (trace ++ m ∷ [])) same
    (subst (λ (t : ℕ). AreLast (set times (m.input - 1) (Some t)) (trace ++ m ∷ [])) when seen)
