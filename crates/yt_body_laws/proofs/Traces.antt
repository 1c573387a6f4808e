-- The messages of a trace, and those that an input's ports know.
use Rattle.std.proofs.Common.{◌≡◌, ℕ, zero, suc, ◌<◌, ◌≤◌, eqb, get_or, List, [], ◌∷◌, slice_get, Some, refl, sym, ap, ◌∙◌, ⊎_elim, arith, eq-eqb, ne_eqb}
use Rattle.std.proofs.lemmas.Bool.{cases_eq, cond-true, cond-false}
use Rattle.std.proofs.lemmas.Option.{none-some, same_Some, slice_get_within, slice_get-get_or, get_or_from_slice_get}
use Rattle.yt_graph.specs.Picture.{GraphTree}
use Rattle.yt_list.specs.Numbered.{numbered}
use Rattle.yt_trace.specs.declared.message.Message.{Message}
use Rattle.yt_trace.specs.Traces.{AreInTimeOrder}
use Rattle.yt_serial.specs.Premises.{CanRun}
use Rattle.yt_serial.specs.PortMessages.{PortMessage, messages_of}
use Rattle.yt_serial.specs.SerialHandling.{Serial}
use Rattle.yt_interleave.specs.Interleaved.{RunState, known_at}
use Rattle.yt_interleave.specs.Moves.{Interleaves}
use Rattle.yt_interleave.proofs.Lemmas.{messages_wait}
use Rattle.yt_body_laws.specs.Placing.{IsFedBy}
use Rattle.yt_body_laws.specs.Reading.{NextIsFrom}

-- a message of the trace as one at a port
abbrev pub as_port : Message → PortMessage
as_port x = record { time = x.time; values = x.values }

-- two messages at one place are one
pub is_same : (trace : List Message) (k j : ℕ) (x y : Message) → k ≡ j → slice_get trace k ≡ Some x → slice_get trace j ≡ Some y → x ≡ y
is_same trace k j x y e at there = same_Some x y (sym at ∙ ap (slice_get trace) e ∙ there)

-- messages come in order
pub in_order : (trace : List Message) → AreInTimeOrder trace → (k j : ℕ) (x y : Message) → k < j → slice_get trace k ≡ Some x → slice_get trace j ≡ Some y → x.time ≤ y.time
in_order trace order k j x y lt at there =
    let p : (get_or trace k x).time ≡ x.time = ap (λ (m : Message). m.time) (get_or_from_slice_get trace k x x at) in
    let q : (get_or trace j x).time ≡ y.time = ap (λ (m : Message). m.time) (get_or_from_slice_get trace j y x there) in
    let h : (get_or trace k x).time ≤ (get_or trace j x).time = order k j x lt (slice_get_within trace j y there) in
    omega arith

-- so where the message at a place comes at a tick or later, each later one does
pub later_from : (trace : List Message) → AreInTimeOrder trace → (taken t : ℕ) → NextIsFrom trace taken t → (k : ℕ) (x : Message) → slice_get trace k ≡ Some x → taken ≤ k → t ≤ x.time
later_from trace order taken t next k x at le =
    let inside = slice_get_within trace k x at in
    let first : slice_get trace taken ≡ Some (get_or trace taken x) = slice_get-get_or trace taken x (omega arith) in
    let from = next (get_or trace taken x) first in
    ⊎_elim
    (λ (e : k ≡ taken). let same : x.time ≡ (get_or trace taken x).time = ap (λ (m : Message). m.time) (is_same trace k taken x (get_or trace taken x) e at first) in omega arith)
    (λ (ne : k ≡ taken → ⊥). let before = in_order trace order taken k (get_or trace taken x) x (omega arith) first at in omega arith)
    (cases_eq k taken)

of_yes : (input : ℕ) (x : Message) (trace : List Message) → x.input ≡ input → messages_of input (x ∷ trace) ≡ as_port x ∷ messages_of input trace
of_yes input x trace e = cond-true (eqb x.input input) (as_port x ∷ messages_of input trace) (messages_of input trace) (eq-eqb x.input input e)

of_no : (input : ℕ) (x : Message) (trace : List Message) → (x.input ≡ input → ⊥) → messages_of input (x ∷ trace) ≡ messages_of input trace
of_no input x trace ne = cond-false (eqb x.input input) (as_port x ∷ messages_of input trace) (messages_of input trace) (ne_eqb x.input input ne)

at_of : (ms ns : List PortMessage) (k : ℕ) (m : PortMessage) → ms ≡ ns → slice_get ns k ≡ Some m → slice_get ms k ≡ Some m
at_of ms ns k m e h = ap (λ (xs : List PortMessage). slice_get xs k) e ∙ h

-- an input's message is one of the trace
pub of_trace : (input : ℕ) (trace : List Message) (k : ℕ) (m : PortMessage) → slice_get (messages_of input trace) k ≡ Some m →
    (j : ℕ) × (x : Message) × (slice_get trace j ≡ Some x) × (as_port x ≡ m) × (x.input ≡ input)
of_trace input [] k m h = absurd (none-some m h)
of_trace input (x ∷ trace) k m h =
    ⊎_elim
    (λ (e : x.input ≡ input). by k e (λ i g. of_trace input trace i m g) (at_of (as_port x ∷ messages_of input trace) (messages_of input (x ∷ trace)) k m (sym (of_yes input x trace e)) h))
    (λ (ne : x.input ≡ input → ⊥).
    let rest = of_trace input trace k m (at_of (messages_of input trace) (messages_of input (x ∷ trace)) k m (sym (of_no input x trace ne)) h) in
    (suc rest.0, rest.1, rest.2, rest.3, rest.4))
    (cases_eq x.input input)
  where
    by : (k : ℕ) → x.input ≡ input →
        ((i : ℕ) → slice_get (messages_of input trace) i ≡ Some m → (j : ℕ) × (y : Message) × (slice_get trace j ≡ Some y) × (as_port y ≡ m) × (y.input ≡ input)) →
        slice_get (as_port x ∷ messages_of input trace) k ≡ Some m → (j : ℕ) × (y : Message) × (slice_get (x ∷ trace) j ≡ Some y) × (as_port y ≡ m) × (y.input ≡ input)
    by zero e later h = (0, x, refl, same_Some (as_port x) m h, e)
    by (suc i) e later h = let r = later i h in (suc r.0, r.1, r.2, r.3, r.4)

-- and one of the trace is one of its input
pub one_of : (input : ℕ) (trace : List Message) (k : ℕ) (x : Message) → slice_get trace k ≡ Some x → x.input ≡ input → (a : ℕ) × (slice_get (messages_of input trace) a ≡ Some (as_port x))
one_of input [] k x h e = absurd (none-some x h)
one_of input (y ∷ trace) zero x h e =
    let same : y ≡ x = same_Some y x h in
    (0, at_of (messages_of input (y ∷ trace)) (as_port y ∷ messages_of input trace) 0 (as_port x) (of_yes input y trace (ap (λ (z : Message). z.input) same ∙ e)) (ap (λ (z : Message). Some (as_port z)) same))
one_of input (y ∷ trace) (suc k) x h e =
    let rest = one_of input trace k x h e in
    ⊎_elim
    (λ (own : y.input ≡ input). (suc rest.0, at_of (messages_of input (y ∷ trace)) (as_port y ∷ messages_of input trace) (suc rest.0) (as_port x) (of_yes input y trace own) rest.1))
    (λ (ne : y.input ≡ input → ⊥). (rest.0, at_of (messages_of input (y ∷ trace)) (messages_of input trace) rest.0 (as_port x) (of_no input y trace ne) rest.1))
    (cases_eq y.input input)

-- two of the trace are two of their input, in this order
pub record AreTwoOf (input : ℕ) (trace : List Message) (x y : Message) : Type 0 where
  pub first : ℕ
  pub second : ℕ
  pub first_at : slice_get (messages_of input trace) first ≡ Some (as_port x)
  pub second_at : slice_get (messages_of input trace) second ≡ Some (as_port y)
  pub less : first < second

pub two_of : (input : ℕ) (trace : List Message) (k j : ℕ) (x y : Message) → slice_get trace k ≡ Some x → slice_get trace j ≡ Some y → x.input ≡ input → y.input ≡ input → k < j → AreTwoOf input trace x y
two_of input [] k j x y h g e f lt = absurd (none-some x h)
two_of input (z ∷ trace) k zero x y h g e f lt = absurd (omega arith)
two_of input (z ∷ trace) zero (suc j) x y h g e f lt =
    let first = one_of input (z ∷ trace) 0 x h e in
    let rest = one_of input trace j y g f in
    let same : z ≡ x = same_Some z x h in
    let yes = of_yes input z trace (ap (λ (w : Message). w.input) same ∙ e) in
    record {
      first = 0;
      second = suc rest.0;
      first_at = at_of (messages_of input (z ∷ trace)) (as_port z ∷ messages_of input trace) 0 (as_port x) yes (ap (λ (w : Message). Some (as_port w)) same);
      second_at = at_of (messages_of input (z ∷ trace)) (as_port z ∷ messages_of input trace) (suc rest.0) (as_port y) yes rest.1;
      less = omega arith;
    }
two_of input (z ∷ trace) (suc k) (suc j) x y h g e f lt =
    let rest = two_of input trace k j x y h g e f (omega arith) in
    let less = rest.less in
    ⊎_elim
    (λ (own : z.input ≡ input).
    let at = of_yes input z trace own in
    record {
      first = suc rest.first;
      second = suc rest.second;
      first_at = at_of (messages_of input (z ∷ trace)) (as_port z ∷ messages_of input trace) (suc rest.first) (as_port x) at rest.first_at;
      second_at = at_of (messages_of input (z ∷ trace)) (as_port z ∷ messages_of input trace) (suc rest.second) (as_port y) at rest.second_at;
      less = omega arith;
    })
    (λ (ne : z.input ≡ input → ⊥).
    let at = of_no input z trace ne in
    record {
      first = rest.first;
      second = rest.second;
      first_at = at_of (messages_of input (z ∷ trace)) (messages_of input trace) rest.first (as_port x) at rest.first_at;
      second_at = at_of (messages_of input (z ∷ trace)) (messages_of input trace) rest.second (as_port y) at rest.second_at;
      less = less;
    })
    (cases_eq z.input input)

-- a message of the trace is known at each port that its input feeds
pub as_known : (g : GraphTree) (trace : List Message) → CanRun g trace → (s : Serial) (r : RunState) → Interleaves g trace s r → (port : ℕ) (x : Message) → IsFedBy g port x.input →
    (k : ℕ) → slice_get trace k ≡ Some x → (n : ℕ) × (numbered (known_at r port) n ≡ Some (as_port x))
as_known g trace can s r is port x fed k at =
    let all = messages_wait.input g trace can s r is port fed.0 x.input fed.1 fed.2 in
    let a = one_of x.input trace k x at refl in
    (suc a.0, at_of (known_at r port) (messages_of x.input trace) a.0 (as_port x) all a.1)
