-- A trace with one more message.
use Rattle.std.proofs.Common.{◌≡◌, ℕ, ◌+◌, ◌-◌, ◌<◌, ◌≤◌, Bool, true, false, cond, eqb, List, [], ◌∷◌, ◌++◌, length, get_or, Option, None, Some, refl, sym, ap, subst, ◌∙◌, ⊎_elim, arith, eqb-true, length-append}
use Rattle.std.specs.Prelude.{All}
use Rattle.std.proofs.lemmas.Bool.{cases_lt}
use Rattle.std.proofs.lemmas.List.{append-nil}
use Rattle.std.proofs.lemmas.List.Elements.{All-push}
use Rattle.std.proofs.lemmas.List.Quantifiers.{all_pairs_push}
use Rattle.yt_graph.specs.declared.graph.Input.{Input}
use Rattle.yt_graph.specs.Inputs.{period_in}
use Rattle.yt_trace.specs.declared.message.Message.{Message}
use Rattle.yt_trace.specs.Traces.{AreApart, AreInTimeOrder, IsMessageOf, IsTrace, KeepsPeriodsOf, PortMessage, latest_from, latest_time, messages_of}
use Rattle.yt_trace.specs.TraceText.{last_from, last_time, least_time}
use Rattle.yt_trace.specs.Inside.Reading.{AreLast, AreNewest, IsBy, IsNext, IsSoFar}

-- the last message is the one at the end
latest_at : (t : ℕ) (x : Message) (xs : List Message) (d : Message) → latest_from t (x ∷ xs) ≡ (get_or (x ∷ xs) (length xs) d).time
latest_at t x [] d = refl
latest_at t x (y ∷ ys) d = latest_at x.time y ys d

-- no message comes after the last one
pub behind : (trace : List Message) → AreInTimeOrder trace → (k : ℕ) (d : Message) → k < length trace → (get_or trace k d).time ≤ latest_time trace
behind [] order k d lt = absurd (omega arith)
behind (x ∷ xs) order k d lt =
    let last = latest_at 0 x xs d in
    ⊎_elim
    (λ (before : k < length xs). let le = order k (length xs) d before (omega arith) in omega arith)
    (λ (here : length xs ≤ k).
    let same : k ≡ length xs = omega arith in
    let P : ℕ → Type 0 = λ n. (get_or (x ∷ xs) n d).time ≤ latest_time (x ∷ xs) in
    subst P (sym same) (omega arith))
    (cases_lt k (length xs))

pub order_with : (trace : List Message) (m : Message) → AreInTimeOrder trace → latest_time trace ≤ m.time → AreInTimeOrder (trace ++ m ∷ [])
order_with trace m order le =
    all_pairs_push (λ (earlier later : Message). earlier.time ≤ later.time) trace m order (λ k d lt. let old = behind trace order k d lt in omega arith)

pub trace_with : (trace : List Message) (m : Message) → IsTrace trace → length trace < 200000 → m.time ≤ 4000000 → latest_time trace ≤ m.time → IsTrace (trace ++ m ∷ [])
trace_with trace m is room early le = record {
  few = omega (arith, length-append trace (m ∷ []));
  in_time = All-push (λ (x : Message). x.time ≤ 4000000) trace m is.in_time early;
  order = order_with trace m is.order le;
}

-- a message as its port sees it
abbrev at_port : Message → PortMessage
at_port m = record { time = m.time; values = m.values }

pub last_from_push : (t : Option ℕ) (input : ℕ) (trace : List Message) (m : Message) → last_from t input (trace ++ m ∷ []) ≡ cond (eqb m.input input) (Some m.time) (last_from t input trace)
last_from_push t input [] m = refl
last_from_push t input (x ∷ trace) m = last_from_push (cond (eqb x.input input) (Some x.time) t) input trace m

-- one more in front, or none
front : (x : PortMessage) (a b c : List PortMessage) (t : Bool) → a ≡ b ++ c → cond t (x ∷ a) a ≡ cond t (x ∷ b) b ++ c
front x a b c true e = ap (λ (l : List PortMessage). x ∷ l) e
front x a b c false e = e

messages_of_push : (input : ℕ) (trace : List Message) (m : Message) → messages_of input (trace ++ m ∷ []) ≡ messages_of input trace ++ cond (eqb m.input input) (at_port m ∷ []) []
messages_of_push input [] m = refl
messages_of_push input (x ∷ trace) m =
    front (at_port x) (messages_of input (trace ++ m ∷ [])) (messages_of input trace) (cond (eqb m.input input) (at_port m ∷ []) []) (eqb x.input input) (messages_of_push input trace m)

-- what is by the last one is a period before the next
by_last : (last : Option ℕ) (x period time : ℕ) → IsBy x last → least_time period last ≤ time → x + period ≤ time
by_last None x period time is le = absurd is
by_last (Some t) x period time is le = omega arith

apart_with : (inputs : List Input) (trace : List Message) (m : Message) → KeepsPeriodsOf inputs trace → AreNewest trace → least_time (period_in inputs m.input) (last_time m.input trace) ≤ m.time →
    (input : ℕ) → AreApart (period_in inputs input) (messages_of input (trace ++ m ∷ []))
apart_with inputs trace m keeps newest apart input =
    let period = period_in inputs input in
    let R : PortMessage → PortMessage → Type 0 = λ earlier later. earlier.time + period ≤ later.time in
    subst (AreApart period) (sym (messages_of_push input trace m)) (by (eqb m.input input) refl)
  where
    by : (b : Bool) → eqb m.input input ≡ b → AreApart (period_in inputs input) (messages_of input trace ++ cond b (at_port m ∷ []) [])
    by true e =
        let P : ℕ → Type 0 = λ i. least_time (period_in inputs i) (last_time i trace) ≤ m.time in
        let le = subst P (eqb-true m.input input e) apart in
        all_pairs_push (λ (earlier later : PortMessage). earlier.time + period_in inputs input ≤ later.time) (messages_of input trace) (at_port m) (keeps.apart input)
        (λ k d lt. by_last (last_time input trace) (get_or (messages_of input trace) k d).time (period_in inputs input) m.time (newest input k d lt) le)
    by false e = subst (AreApart (period_in inputs input)) (sym (append-nil (messages_of input trace))) (keeps.apart input)

pub keeps_with : (inputs : List Input) (trace : List Message) (m : Message) → KeepsPeriodsOf inputs trace → AreNewest trace →
    IsNext (record { inputs = inputs; trace = trace }) m.input m.time (length m.values) → KeepsPeriodsOf inputs (trace ++ m ∷ [])
keeps_with inputs trace m keeps newest next =
    let room = next.room in
    record {
      few = omega (arith, length-append trace (m ∷ []));
      messages = All-push (IsMessageOf inputs) trace m keeps.messages (record { width = next.wide; in_time = next.in_time });
      order = order_with trace m keeps.order next.order;
      apart = apart_with inputs trace m keeps newest next.apart;
    }

pub newest_with : (inputs : List Input) (trace : List Message) (m : Message) → AreNewest trace → least_time (period_in inputs m.input) (last_time m.input trace) ≤ m.time → AreNewest (trace ++ m ∷ [])
newest_with inputs trace m newest apart = λ input.
    let P : Option ℕ → List PortMessage → Type 0 = λ last xs. All (λ (e : PortMessage). IsBy e.time last) xs in
    subst (λ (last : Option ℕ). P last (messages_of input (trace ++ m ∷ []))) (sym (last_from_push None input trace m))
    (subst (P (cond (eqb m.input input) (Some m.time) (last_time input trace))) (sym (messages_of_push input trace m)) (by input (eqb m.input input) refl))
  where
    by : (input : ℕ) (b : Bool) → eqb m.input input ≡ b → All (λ (e : PortMessage). IsBy e.time (cond b (Some m.time) (last_time input trace))) (messages_of input trace ++ cond b (at_port m ∷ []) [])
    by input true e =
        let P : ℕ → Type 0 = λ i. least_time (period_in inputs i) (last_time i trace) ≤ m.time in
        let le = subst P (eqb-true m.input input e) apart in
        All-push (λ (x : PortMessage). x.time ≤ m.time) (messages_of input trace) (at_port m)
        (λ k d lt. let far = by_last (last_time input trace) (get_or (messages_of input trace) k d).time (period_in inputs input) m.time (newest input k d lt) le in omega arith)
        (omega arith)
    by input false e = subst (All (λ (x : PortMessage). IsBy x.time (last_time input trace))) (sym (append-nil (messages_of input trace))) (newest input)

-- the latest time is that of the message at the last place
pub latest_last : (t : ℕ) (xs : List Message) (x : Message) → 0 < length xs → x ≡ get_or xs (length xs - 1) x → x.time ≡ latest_from t xs
latest_last t [] x some at = absurd (omega arith)
latest_last t (y ∷ ys) x some at =
    let here : length (y ∷ ys) - 1 ≡ length ys = omega arith in
    ap (λ (i : Message). i.time) (at ∙ ap (λ (n : ℕ). get_or (y ∷ ys) n x) here) ∙ sym (latest_at t y ys x)

-- what was read, with one more message
pub so_far_with : (inputs : List Input) (trace after : List Message) (times new : List (Option ℕ)) (m : Message) → IsSoFar (record { inputs = inputs; trace = trace }) times →
    IsNext (record { inputs = inputs; trace = trace }) m.input m.time (length m.values) → after ≡ trace ++ m ∷ [] → AreLast new (trace ++ m ∷ []) → IsSoFar (record { inputs = inputs; trace = after }) new
so_far_with inputs trace after times new m is next same last =
    subst (λ (t : List Message). IsSoFar (record { inputs = inputs; trace = t }) new) (sym same)
    (record {
      are_inputs = is.are_inputs;
      keeps = keeps_with inputs trace m is.keeps is.newest next;
      last = last;
      newest = newest_with inputs trace m is.newest next.apart;
    })
