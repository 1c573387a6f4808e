-- How a line's fields are judged.
use Rattle.std.proofs.Common.{◌≡◌, ℕ, ◌+◌, ◌-◌, ◌^◌, ◌<◌, ◌≤◌, min, Bool, true, false, not, cond, eqb, ltb, List, [], ◌∷◌, ◌++◌, length, get_or, ℤ, Option, None, Some, Ok, Err, refl, sym, ap, ap₂, subst, ◌∙◌, ⊎_elim, arith}
use Rattle.std.specs.Prelude.{All, bytes_eq, map, IfSome, IsSomeAnd}
use Rattle.std.specs.Option.{option_map, unwrap_or}
use Rattle.std.proofs.lemmas.Bool.{cases_Bool, cases_lt, cond-true, cond-false, cond_both, lt-ltb}
use Rattle.std.proofs.lemmas.List.Elements.{All-head, All-tail}
use Rattle.std.proofs.lemmas.Option.{get_or_from_slice_get, slice_get_read, slice_get_within}
use Rattle.yt_base.specs.Digits.{is_digits, value_of}
use Rattle.yt_graph.specs.declared.graph.Input.{Input}
use Rattle.yt_graph.specs.Inputs.{period_in, width_in}
use Rattle.yt_graph.specs.Limits.{most_period}
use Rattle.yt_table.specs.Tables.{first_of}
use Rattle.yt_table.proofs.Lemmas.{numbered_from}
use Rattle.yt_trace.specs.declared.message.Message.{Message}
use Rattle.yt_trace.specs.declared.message_fault.MessageFault.{MessageFault}
use Rattle.yt_trace.specs.declared.message_fault.MessageFault.TheVariants.{Form, Late, Width}
use Rattle.yt_list.proofs.Lemmas.{numbered_next, numbered_there}
use Rattle.yt_list.specs.Numbered.{numbered, numbered_or}
use Rattle.yt_trace.specs.Traces.{KeepsPeriodsOf, latest_time}
use Rattle.yt_trace.specs.TraceText.{Said, judged, judged_input, judged_said, judged_number, last_from, last_time, least_time, message_fault, input_named, said_with, unless, values_of, with_message}
use Rattle.yt_trace.specs.Inside.Lines.{LineHead, capped, line_head}
use Rattle.yt_trace.specs.Inside.Reading.{IsFine, IsNext, IsSoFar, TraceSoFar, judged_so_far, so_far}
use Rattle.yt_trace.proofs.LastTimes.{last_is}

-- the input of a name, by its place
pub named_at : (inputs : List Input) (name : List ℕ) (place : ℕ) → Some place ≡ first_of name 0 (map (λ i. i.name) inputs) → input_named inputs name ≡ Some (place + 1)
named_at inputs name place first =
    let next : 1 + place ≡ place + 1 = omega arith in
    numbered_from (bytes_eq name) 1 (map (λ i. i.name) inputs) ∙ ap (option_map (λ n. 1 + n)) (sym first) ∙ ap (λ (n : ℕ). Some n) next

pub named_none : (inputs : List Input) (name : List ℕ) → None ≡ first_of name 0 (map (λ i. i.name) inputs) → input_named inputs name ≡ None
named_none inputs name first = numbered_from (bytes_eq name) 1 (map (λ i. i.name) inputs) ∙ ap (option_map (λ n. 1 + n)) (sym first)

pub at_place : (inputs all : List Input) (place : ℕ) (input : Input) → place < length inputs → all ≡ inputs → input ≡ get_or all place input → numbered inputs (place + 1) ≡ Some input
at_place inputs all place input within same at =
    numbered_next inputs place ∙ slice_get_read inputs (length inputs) place input refl within (at ∙ ap (λ (xs : List Input). get_or xs place input) same)

-- what has a number stands within the list
pub numbered_within : (inputs : List Input) (number : ℕ) (input : Input) → numbered inputs number ≡ Some input → (1 ≤ number) × (number ≤ length inputs)
numbered_within inputs number input is =
    let there = numbered_there inputs number input is in
    let within = slice_get_within inputs (number - 1) input there.1 in
    (there.0, omega arith)

late_first : (b l : Bool) (rest : Option MessageFault) → l ≡ true → cond b (Some Width) (cond l (Some Late) rest) ≡ Some (cond b Width Late)
late_first true l rest e = refl
late_first false l rest e = cond-true l _ _ e

-- past the last tick a message is late, unless its width is wrong
late_fault : (wide period : ℕ) (last : Option ℕ) (latest messages time width : ℕ) → 4000000 < time →
    message_fault wide period last latest messages time width ≡ Some (cond (not (eqb width wide)) Width Late)
late_fault wide period last latest messages time width late = late_first (not (eqb width wide)) (ltb 4000000 time) _ (lt-ltb 4000000 time late)

-- so all ticks past it are judged the same
past : (inputs : List Input) (trace : List Message) (values : List ℤ) (t u width : ℕ) (input : Option ℕ) → 4000000 < t → 4000000 < u →
    with_message trace t values (judged_number inputs trace t width input) ≡ with_message trace u values (judged_number inputs trace u width input)
past inputs trace values t u width None late also = refl
past inputs trace values t u width (Some n) late also =
    let at : ℕ → Option MessageFault = λ time. message_fault (width_in inputs n) (period_in inputs n) (last_time n trace) (latest_time trace) (length trace) time width in
    let one : at t ≡ Some (cond (not (eqb width (width_in inputs n))) Width Late) = late_fault (width_in inputs n) (period_in inputs n) (last_time n trace) (latest_time trace) (length trace) t width late in
    let two : at u ≡ Some (cond (not (eqb width (width_in inputs n))) Width Late) = late_fault (width_in inputs n) (period_in inputs n) (last_time n trace) (latest_time trace) (length trace) u width also in
    ap (λ (o : Option MessageFault). with_message trace t values (unless o n)) one ∙ sym (ap (λ (o : Option MessageFault). with_message trace u values (unless o n)) two)

-- and a number past 2 ^ 64 - 1 may stand for a greater one
capped_time : (inputs : List Input) (trace : List Message) (values : List ℤ) (time width : ℕ) (input : Option ℕ) →
    with_message trace time values (judged_number inputs trace time width input) ≡ with_message trace (min time (2 ^ 64 - 1)) values (judged_number inputs trace (min time (2 ^ 64 - 1)) width input)
capped_time inputs trace values time width input =
    ⊎_elim
    (λ (over : 2 ^ 64 - 1 < time). past inputs trace values time (min time (2 ^ 64 - 1)) width input (omega arith) (omega arith))
    (λ (le : time ≤ 2 ^ 64 - 1).
    let same : time ≡ min time (2 ^ 64 - 1) = omega arith in
    ap (λ (t : ℕ). with_message trace t values (judged_number inputs trace t width input)) same)
    (cases_lt (2 ^ 64 - 1) time)

some_head : (b : Bool) (x y : LineHead) → cond b (Some x) None ≡ Some y → (b ≡ true) × (x ≡ y)
some_head true x y e = (refl, let same : x ≡ y = cc in same)
some_head false x y e = absurd (cc)

-- a line is judged by what it was read as
pub judged_line : (inputs : List Input) (trace : List Message) (fields : List (List ℕ)) (head : LineHead) (values : List ℤ) → line_head fields ≡ Some head → values_of head.values ≡ Some values →
    judged inputs trace fields ≡ with_message trace head.time values (judged_input inputs trace head.time head.input (length values))
judged_line inputs trace [] head values is vs = absurd (cc)
judged_line inputs trace (time ∷ []) head values is vs = absurd (cc)
judged_line inputs trace (time ∷ name ∷ fields) head values is vs =
    let parts = some_head (is_digits time) (record { time = capped time; input = name; values = fields }) head is in
    let P : LineHead → Type 0 = λ h. values_of h.values ≡ Some values → judged inputs trace (time ∷ name ∷ fields) ≡ with_message trace h.time values (judged_input inputs trace h.time h.input (length values)) in
    subst P parts.1
    (λ (v : values_of fields ≡ Some values).
    ap (λ (o : Option Said). judged_said inputs trace o) (ap (said_with time name) v ∙ cond-true (is_digits time) _ _ parts.0) ∙
    capped_time inputs trace values (value_of time) (length values) (input_named inputs name))
    vs

-- where the time isn't digits, nothing is said
not_digits : (time name : List ℕ) (head : LineHead) (values : Option (List ℤ)) → cond (is_digits time) (Some head) None ≡ None → said_with time name values ≡ None
not_digits time name head None e = refl
not_digits time name head (Some values) e =
    ⊎_elim
    (λ (t : is_digits time ≡ true). let clash = sym (cond-true (is_digits time) (Some head) None t) ∙ e in absurd (cc))
    (λ (f : is_digits time ≡ false). cond-false (is_digits time) _ None f)
    (cases_Bool (is_digits time))

-- a line that isn't read has a fault of form
pub no_head : (inputs : List Input) (trace : List Message) (fields : List (List ℕ)) → line_head fields ≡ None → judged inputs trace fields ≡ Err Form
no_head inputs trace [] is = refl
no_head inputs trace (time ∷ []) is = refl
no_head inputs trace (time ∷ name ∷ fields) is =
    ap (judged_said inputs trace) (not_digits time name (record { time = capped time; input = name; values = fields }) (values_of fields) is)

pub no_values : (inputs : List Input) (trace : List Message) (fields : List (List ℕ)) (head : LineHead) → line_head fields ≡ Some head → values_of head.values ≡ None → judged inputs trace fields ≡ Err Form
no_values inputs trace [] head is vs = absurd (cc)
no_values inputs trace (time ∷ []) head is vs = absurd (cc)
no_values inputs trace (time ∷ name ∷ fields) head is vs =
    let parts = some_head (is_digits time) (record { time = capped time; input = name; values = fields }) head is in
    let P : LineHead → Type 0 = λ h. values_of h.values ≡ None → judged inputs trace (time ∷ name ∷ fields) ≡ Err Form in
    subst P parts.1 (λ (v : values_of fields ≡ None). ap (λ (o : Option (List ℤ)). judged_said inputs trace (said_with time name o)) v) vs

-- what the tests of an input's next message stand for
pub record IsTested (read : TraceSoFar) (number : ℕ) (name : List ℕ) (input : Input) (last : Option ℕ) (latest messages : ℕ) : Type 0 where
  pub found : input_named read.inputs name ≡ Some number
  pub at : numbered read.inputs number ≡ Some input
  pub last_is : last ≡ last_time number read.trace
  pub latest_is : latest ≡ latest_time read.trace
  pub counted : messages ≡ length read.trace

-- they judge it
pub tested_answer : (read : TraceSoFar) (number : ℕ) (name : List ℕ) (input : Input) (last : Option ℕ) (latest messages time width : ℕ) (o : Option MessageFault) →
    IsTested read number name input last latest messages → o ≡ message_fault input.width input.period last latest messages time width → judged_input read.inputs read.trace time name width ≡ unless o number
tested_answer read number name input last latest messages time width o t is =
    let wide : width_in read.inputs number ≡ input.width = ap (λ (i : Option Input). unwrap_or (option_map (λ i. i.width) i) 0) t.at in
    let period : period_in read.inputs number ≡ input.period = ap (λ (i : Option Input). unwrap_or (option_map (λ i. i.period) i) 0) t.at in
    ap (judged_number read.inputs read.trace time width) t.found ∙
    ap (λ (f : Option MessageFault). unless f number)
    (ap₂ (λ (w p : ℕ). message_fault w p (last_time number read.trace) (latest_time read.trace) (length read.trace) time width) wide period ∙
    ap (λ (l : Option ℕ). message_fault input.width input.period l (latest_time read.trace) (length read.trace) time width) (sym t.last_is) ∙
    ap₂ (λ (m n : ℕ). message_fault input.width input.period last m n time width) (sym t.latest_is) (sym t.counted) ∙ sym is)

-- without a fault it may come next
pub tested_next : (read : TraceSoFar) (number : ℕ) (name : List ℕ) (input : Input) (last : Option ℕ) (latest messages time width : ℕ) →
    IsTested read number name input last latest messages → IsFine input last latest messages time width → IsNext read number time width
tested_next read number name input last latest messages time width t fine =
    let there = numbered_within read.inputs number input t.at in
    let period : period_in read.inputs number ≡ input.period = ap (λ (i : Option Input). unwrap_or (option_map (λ i. i.period) i) 0) t.at in
    let order = fine.order in
    let room = fine.room in
    let latest_is = t.latest_is in
    let counted = t.counted in
    record {
      from_one = there.0;
      there = there.1;
      wide = subst (λ (o : Option Input). IsSomeAnd o (λ i. i.width ≡ width)) (sym t.at) (sym fine.wide);
      in_time = fine.in_time;
      order = omega arith;
      apart = subst (λ (p : ℕ). least_time p (last_time number read.trace) ≤ time) (sym period) (subst (λ (l : Option ℕ). least_time input.period l ≤ time) t.last_is fine.apart);
      room = omega arith;
    }

-- an input's last time is within the limit
pub last_early : (inputs : List Input) (trace : List Message) (input : ℕ) → KeepsPeriodsOf inputs trace → IfSome (last_time input trace) (λ t. t ≤ 4000000)
last_early inputs trace input keeps = early_from None input trace tt (λ k d lt. let here = keeps.messages k d lt in here.in_time)
  where
    early_from : (t : Option ℕ) (input : ℕ) (trace : List Message) → IfSome t (λ x. x ≤ 4000000) → All (λ (m : Message). m.time ≤ 4000000) trace → IfSome (last_from t input trace) (λ x. x ≤ 4000000)
    early_from t input [] first all = first
    early_from t input (m ∷ trace) first all =
        early_from (cond (eqb m.input input) (Some m.time) t) input trace
        (cond_both (eqb m.input input) (Some m.time) t (λ o. IfSome o (λ x. x ≤ 4000000)) (λ e. All-head (λ (x : Message). x.time ≤ 4000000) m trace all) (λ e. first))
        (All-tail (λ (x : Message). x.time ≤ 4000000) m trace all)

-- the tests are of what was read
pub tested_is : (read now : TraceSoFar) (times : List (Option ℕ)) (number : ℕ) (name : List ℕ) (input : Input) (last : Option ℕ) (latest messages : ℕ) → read ≡ now → IsSoFar read times →
    input_named now.inputs name ≡ Some number → numbered now.inputs number ≡ Some input → last ≡ numbered_or times number None → latest ≡ latest_time read.trace → messages ≡ length read.trace →
    IsTested now number name input last latest messages
tested_is read now times number name input last latest messages same so_far found at kept latest_is counted =
    let there = numbered_within now.inputs number input at in
    let here = subst (λ (r : TraceSoFar). IsSoFar r times) same so_far in
    let few = here.are_inputs.few in
    record {
      found = found;
      at = at;
      last_is = last_is times now.trace number last there.0 (omega (arith, there.1)) here.last kept;
      latest_is = latest_is ∙ ap (λ (r : TraceSoFar). latest_time r.trace) same;
      counted = counted ∙ ap (λ (r : TraceSoFar). length r.trace) same;
    }

-- so the input's last time and its period are within the limits
pub last_fits : (read now : TraceSoFar) (times : List (Option ℕ)) (number : ℕ) (input : Input) (last : Option ℕ) → read ≡ now → IsSoFar read times →
    numbered now.inputs number ≡ Some input → last ≡ numbered_or times number None → IfSome last (λ t. t ≤ 4000000)
last_fits read now times number input last same so_far at kept =
    let there = numbered_within now.inputs number input at in
    let here = subst (λ (r : TraceSoFar). IsSoFar r times) same so_far in
    let few = here.are_inputs.few in
    let is = last_is times now.trace number last there.0 (omega (arith, there.1)) here.last kept in
    subst (λ (o : Option ℕ). IfSome o (λ t. t ≤ 4000000)) (sym is) (last_early now.inputs now.trace number here.keeps)

pub period_fits : (read now : TraceSoFar) (times : List (Option ℕ)) (number : ℕ) (input : Input) → read ≡ now → IsSoFar read times → numbered now.inputs number ≡ Some input → input.period ≤ most_period
period_fits read now times number input same so_far at =
    let here = subst (λ (r : TraceSoFar). IsSoFar r times) same so_far in
    let there = numbered_there now.inputs number input at in
    subst (λ (i : Input). i.period ≤ most_period) (get_or_from_slice_get now.inputs (number - 1) input input there.1)
    (here.are_inputs.periods (number - 1) input (slice_get_within now.inputs (number - 1) input there.1))

-- what comes of a line whose input has a fault, or none
pub read_err : (read : TraceSoFar) (fields : List (List ℕ)) (head : LineHead) (values : List ℤ) (width : ℕ) (fault : MessageFault) → line_head fields ≡ Some head → values_of head.values ≡ Some values → width ≡ length values →
    judged_input read.inputs read.trace head.time head.input width ≡ Err fault → judged_so_far read fields ≡ Err fault
read_err read fields head values width fault is vs wide told =
    ap (so_far read.inputs)
    (judged_line read.inputs read.trace fields head values is vs ∙
    ap (with_message read.trace head.time values) (ap (judged_input read.inputs read.trace head.time head.input) (sym wide) ∙ told))

pub read_ok : (read : TraceSoFar) (fields : List (List ℕ)) (head : LineHead) (values : List ℤ) (width input : ℕ) → line_head fields ≡ Some head → values_of head.values ≡ Some values → width ≡ length values →
    judged_input read.inputs read.trace head.time head.input width ≡ Ok input →
    judged_so_far read fields ≡ Ok (record { inputs = read.inputs; trace = read.trace ++ record { time = head.time; input = input; values = values } ∷ [] })
read_ok read fields head values width input is vs wide told =
    ap (so_far read.inputs)
    (judged_line read.inputs read.trace fields head values is vs ∙
    ap (with_message read.trace head.time values) (ap (judged_input read.inputs read.trace head.time head.input) (sym wide) ∙ told))
