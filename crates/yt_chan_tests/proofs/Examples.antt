-- Runs on a few wires, call by call.
use Rattle.std.proofs.Common.{◌≡◌, ℕ, zero, suc, ◌+◌, ◌*◌, ◌/◌, ◌<◌, ◌≤◌, Bool, true, false, not, ◌&&◌, ◌||◌, cond, eqb, ltb, ℤ, List, [], ◌∷◌, ◌++◌, length, map, drop, get_or, refl, sym, ◌∙◌, ap, subst, arith, ⊎_elim, append-nil, append_assoc, length-append, eq-eqb, eqb-true, ne_eqb, ltb-true, lt-ltb}
use Rattle.std.specs.Prelude.{IfOk, Result, Ok, Err}
use Rattle.std.specs.List.{Contains, list_all, list_any}
use Rattle.std.proofs.lemmas.Bool.{cases_eq, cases_lt, cases_Bool, and_parts, or_cases, or_parts, both_ways, cond-true, cond-false, cond_both, not-true, not_from_false, not_from_true}
use Rattle.std.proofs.lemmas.List.{length-map, map-append}
use Rattle.std.proofs.lemmas.List.Elements.{Contains-get_or}
use Rattle.yt_log.specs.declared.job.Job.{Job}
use Rattle.yt_chan.specs.declared.wire.Wire.{Wire}
use Rattle.yt_chan.specs.declared.port.PortJob.{PortJob}
use Rattle.yt_chan.specs.declared.target.Arrived.{Arrived}
use Rattle.yt_chan.specs.declared.target.Arrived.TheVariants.{Port, Output}
use Rattle.yt_chan.specs.Changes.{AddsOpen, ClearsOpen, Delivers, EndsHandling, IsInitial, KeepsJobs, KeepsOpens, KeepsWaits, KeepsWires, PassesOn, StartsHandling, StartsHandlingAt}
use Rattle.yt_chan_tests.specs.Example.{CanClose, CanDeliver, IsKnown, IsPlain, Known, all_wait, at_start, begun, closed, delivered, is_fed_by, is_port, its_wire, one_wire, place_of, same_target, sent, three_ports, waits_on, wire_of, first_of_two, second_of_two}
use Rattle.yt_chan.specs.Pending.{Pending}
use Rattle.yt_chan.specs.State.{ChannelState, IsApart, IsNext, IsOfOneJob, NoneIsLate, job_at, open_at, passed_over, waits_at}
use Rattle.yt_chan.specs.Wires.{AreWires, IsWire, feeds, no_wire, width_of, wire_at, wire_of_out, wire_to}
use Rattle.yt_chan.proofs.Lemmas.{any_has, over_other, target_cases}

wide_ports : (k : ℕ) → k < 3 → get_or three_ports k 0 ≤ 8
wide_ports zero lt = omega arith
wide_ports (suc zero) lt = omega arith
wide_ports (suc (suc zero)) lt = omega arith
wide_ports (suc (suc (suc k))) lt = omega arith

-- one wire is sound
pub are_one : (w : Wire) → IsWire three_ports w → AreWires three_ports (w ∷ [])
are_one w is = record {
  many = omega arith;
  wide = wide_ports;
  each = each;
  outs = λ j k lt b. absurd (omega arith);
  sources = λ j k t lt b. absurd (omega arith);
}
  where
    each : (k : ℕ) → k < 1 → IsWire three_ports (wire_at (w ∷ []) k)
    each zero lt = is
    each (suc k) lt = absurd (omega arith)

-- two wires of two ports that feed other targets are sound
pub are_two : (w v : Wire) → IsWire three_ports w → IsWire three_ports v → (w.port ≡ v.port → ⊥) → ((t : Arrived) → feeds w t ≡ true → feeds v t ≡ true → ⊥) → AreWires three_ports (w ∷ v ∷ [])
are_two w v is also other far = record {
  many = omega arith;
  wide = wide_ports;
  each = each;
  outs = outs;
  sources = sources;
}
  where
    each : (k : ℕ) → k < 2 → IsWire three_ports (wire_at (w ∷ v ∷ []) k)
    each zero lt = is
    each (suc zero) lt = also
    each (suc (suc k)) lt = absurd (omega arith)

    outs : (j k : ℕ) → j < k → k < 2 → (wire_at (w ∷ v ∷ []) j).port ≡ (wire_at (w ∷ v ∷ []) k).port → (wire_at (w ∷ v ∷ []) j).out ≡ (wire_at (w ∷ v ∷ []) k).out → ⊥
    outs zero zero lt b = absurd (omega arith)
    outs zero (suc zero) lt b = λ same out. other same
    outs zero (suc (suc k)) lt b = absurd (omega arith)
    outs (suc j) k lt b = absurd (omega arith)

    sources : (j k : ℕ) (t : Arrived) → j < k → k < 2 → feeds (wire_at (w ∷ v ∷ []) j) t ≡ true → feeds (wire_at (w ∷ v ∷ []) k) t ≡ true → ⊥
    sources zero zero t lt b = absurd (omega arith)
    sources zero (suc zero) t lt b = far t
    sources zero (suc (suc k)) t lt b = absurd (omega arith)
    sources (suc j) k t lt b = absurd (omega arith)

pub start_is : (state : ChannelState) (wires : List Wire) → ((wire : Wire) → Contains wires wire → IsPlain wire) → IsInitial three_ports wires state → IsKnown state (at_start wires)
start_is state wires plain is = record {
  widths = is.ports;
  wires = is.wired;
  plain = plain;
  jobs = is.jobs;
  pending = is.waits;
  unsent = is.opens;
  fed = λ t h. refl;
}

-- what waits passes a test that all pass

at_place : {X : Type 0} (test : X → Bool) (xs : List X) (x : X) (k : ℕ) → list_all test xs ≡ true → k < length xs → get_or xs k x ≡ x → test x ≡ true
at_place test [] x k h lt e = absurd (omega arith)
at_place {X = X} test (y ∷ ys) x zero h lt e = subst (λ (z : X). test z ≡ true) e (and_parts (test y) (list_all test ys) h).0
at_place test (y ∷ ys) x (suc k) h lt e = at_place test ys x k (and_parts (test y) (list_all test ys) h).1 (omega arith) e

pub all_has : {X : Type 0} (test : X → Bool) (xs : List X) (x : X) → list_all test xs ≡ true → Contains xs x → test x ≡ true
all_has test xs x h has = at_place test xs x has.0 h has.1 has.2

-- an item that passes a test, where one does
any_one : {X : Type 0} (test : X → Bool) (xs : List X) → list_any test xs ≡ true → (x : X) × Contains xs x × (test x ≡ true)
any_one test [] h = absurd (both_ways false refl h)
any_one test (x ∷ xs) h =
    ⊎_elim
    (λ (here : test x ≡ true). (x, (zero, omega arith, refl), here))
    (λ (later : list_any test xs ≡ true). let one = any_one test xs later in (one.0, (suc one.1.0, (let lt = one.1.1 in omega arith), one.1.2), one.2))
    (or_cases (test x) (list_any test xs) h)

-- the wire that feeds a target, where one does
fed_at : (ws : List Wire) (t : Arrived) → is_fed_by ws t ≡ true → feeds (wire_at ws (wire_to ws t)) t ≡ true
fed_at [] t h = absurd (both_ways false refl h)
fed_at (w ∷ ws) t h =
    let P : ℕ → Type 0 = λ n. feeds (wire_at (w ∷ ws) n) t ≡ true in
    ⊎_elim
    (λ (here : feeds w t ≡ true).
    let z : wire_to (w ∷ ws) t ≡ 0 = cond-false (not (feeds w t)) _ _ (not_from_true (feeds w t) here) in
    subst P (sym z) here)
    (λ (other : feeds w t ≡ false).
    let c : wire_to (w ∷ ws) t ≡ 1 + wire_to ws t = cond-true (not (feeds w t)) _ _ (not_from_false (feeds w t) other) in
    let z : wire_to (w ∷ ws) t ≡ suc (wire_to ws t) = omega arith in
    let later : is_fed_by ws t ≡ true = ⊎_elim (λ (e : feeds w t ≡ true). absurd (both_ways (feeds w t) other e)) (λ (e : is_fed_by ws t ≡ true). e) (or_cases (feeds w t) (is_fed_by ws t) h) in
    subst P (sym z) (fed_at ws t later))
    (cases_Bool (feeds w t))

-- where none does, no wire is found
unfed : (ws : List Wire) (t : Arrived) → is_fed_by ws t ≡ false → wire_at ws (wire_to ws t) ≡ no_wire
unfed [] t h = refl
unfed (w ∷ ws) t h =
    let p = or_parts (feeds w t) (is_fed_by ws t) h in
    let c : wire_to (w ∷ ws) t ≡ 1 + wire_to ws t = cond-true (not (feeds w t)) _ _ (not_from_false (feeds w t) p.0) in
    let z : wire_to (w ∷ ws) t ≡ suc (wire_to ws t) = omega arith in
    ap (wire_at (w ∷ ws)) z ∙ unfed ws t p.1

-- a target for which a message waits is fed by a wire
pub is_fed : (state : ChannelState) (known : Known) (t : Arrived) (m : Pending) → IsKnown state known → Contains (waits_at state t) m → is_fed_by known.wires t ≡ true
is_fed state known t m is has =
    ⊎_elim
    (λ (h : is_fed_by known.wires t ≡ true). h)
    (λ (h : is_fed_by known.wires t ≡ false). let l = ap length (is.pending t ∙ is.fed t h) in let b = has.1 in absurd (omega arith))
    (cases_Bool (is_fed_by known.wires t))

-- what waits on a wire passes a test that all do
on_wire : (test : Pending → Bool) (known : Known) (w : Wire) (t : Arrived) (m : Pending) → waits_on test known w ≡ true → feeds w t ≡ true → Contains (known.waits t) m → test m ≡ true
on_wire test known w (Port n) m all h has =
    let p = and_parts (list_all (λ k. list_all test (known.waits (Port k))) w.ports) (list_all (λ k. list_all test (known.waits (Output k))) w.outputs) all in
    all_has test (known.waits (Port n)) m (all_has (λ k. list_all test (known.waits (Port k))) w.ports n p.0 (any_has w.ports n h)) has
on_wire test known w (Output n) m all h has =
    let p = and_parts (list_all (λ k. list_all test (known.waits (Port k))) w.ports) (list_all (λ k. list_all test (known.waits (Output k))) w.outputs) all in
    all_has test (known.waits (Output n)) m (all_has (λ k. list_all test (known.waits (Output k))) w.outputs n p.1 (any_has w.outputs n h)) has

pub each_waits : (test : Pending → Bool) (state : ChannelState) (known : Known) (t : Arrived) (m : Pending) → IsKnown state known → all_wait test known ≡ true → Contains (waits_at state t) m → test m ≡ true
each_waits test state known t m is all has =
    let C : List Pending → Type 0 = λ xs. Contains xs m in
    let f = any_one (λ w. feeds w t) known.wires (is_fed state known t m is has) in
    on_wire test known f.0 t m (all_has (waits_on test known) known.wires f.0 all f.1) f.2 (subst C (is.pending t) has)

-- a message is put, and others are sent

pub put_is : (old new : ChannelState) (known : Known) (port : ℕ) → IsKnown old known → KeepsWires old new → StartsHandling old new port → KeepsWaits old new → KeepsOpens old new → IsKnown new (begun known port)
put_is old new known port is wires handles waits opens = record {
  widths = wires.0 ∙ is.widths;
  wires = wires.1 ∙ is.wires;
  plain = is.plain;
  jobs = λ p. handles p ∙ ap (λ (j : PortJob). cond (eqb p port) (record j { in_handling = true }) j) (is.jobs p);
  pending = λ t. waits t ∙ is.pending t;
  unsent = λ k. opens k ∙ is.unsent k;
  fed = is.fed;
}

pub handled_now : (known : Known) (port : ℕ) → ((begun known port).job port).in_handling ≡ true
handled_now known port = ap (λ (j : PortJob). j.in_handling) (cond-true (eqb port port) (record (known.job port) { in_handling = true }) (known.job port) (eq-eqb port port refl))

-- where the wires of an out stand
pub line_at : (state : ChannelState) (known : Known) (port : ℕ) → IsKnown state known → wire_of_out state.wires port 1 ≡ place_of known port
line_at state known port is = ap (λ (ws : List Wire). wire_of_out ws port 1) is.wires

-- nothing was sent yet
pub none_sent : (state : ChannelState) (known : Known) (port : ℕ) → IsKnown state known → IsKnown state (sent known port [])
none_sent state known port is = record {
  widths = is.widths;
  wires = is.wires;
  plain = is.plain;
  jobs = is.jobs;
  pending = is.pending;
  unsent = λ k. is.unsent k ∙ sym (cond_both (eqb k (place_of known port)) (known.opens k ++ []) (known.opens k) (λ (xs : List (List ℤ)). xs ≡ known.opens k) (λ e. append-nil (known.opens k)) (λ e. refl));
  fed = is.fed;
}

-- what is open on a port's wire once these were sent
sent_at : (known : Known) (port : ℕ) (values : List ℤ) → (sent known port values).opens (place_of known port) ≡ known.opens (place_of known port) ++ map (λ v. v ∷ []) values
sent_at known port values = let at = place_of known port in cond-true (eqb at at) _ _ (eq-eqb at at refl)

pub send_is : (old new : ChannelState) (known : Known) (port : ℕ) (values : List ℤ) (v : ℤ) → IsKnown old (sent known port values) → KeepsWires old new → AddsOpen old new (wire_of_out old.wires port 1) (v ∷ []) → KeepsJobs old new → KeepsWaits old new →
    IsKnown new (sent known port (values ++ v ∷ []))
send_is old new known port values v is wires opens jobs waits =
    let at = place_of known port in
    let z = line_at old (sent known port values) port is in
    let o : AddsOpen old new at (v ∷ []) = subst (λ (k : ℕ). AddsOpen old new k (v ∷ [])) z opens in
    record {
      widths = wires.0 ∙ is.widths;
      wires = wires.1 ∙ is.wires;
      plain = is.plain;
      jobs = λ p. jobs p ∙ is.jobs p;
      pending = λ t. waits t ∙ is.pending t;
      unsent = λ k. ⊎_elim
          (λ (e : k ≡ at).
          ap (open_at new) e ∙ o.here ∙ ap (λ (xs : List (List ℤ)). xs ++ (v ∷ []) ∷ []) (is.unsent at ∙ sent_at known port values)
          ∙ append_assoc (known.opens at) (map (λ v. v ∷ []) values) ((v ∷ []) ∷ []) ∙ ap (λ (xs : List (List ℤ)). known.opens at ++ xs) (sym (map-append (λ v. v ∷ []) values (v ∷ [])))
          ∙ sym (sent_at known port (values ++ v ∷ [])) ∙ ap (sent known port (values ++ v ∷ [])).opens (sym e))
          (λ (ne : k ≡ at → ⊥).
          o.others k ne ∙ is.unsent k ∙ cond-false (eqb k at) _ _ (ne_eqb k at ne) ∙ sym (cond-false (eqb k at) _ _ (ne_eqb k at ne)))
          (cases_eq k at);
      fed = is.fed;
    }

-- there is room while fewer were sent than can be
pub room_left : (state : ChannelState) (known : Known) (port : ℕ) (values : List ℤ) (count : ℕ) → IsKnown state (sent known port values) → length (known.opens (place_of known port)) + count ≤ (its_wire known port).sends → length values < count →
    length (open_at state (wire_of_out state.wires port 1)) < (wire_at state.wires (wire_of_out state.wires port 1)).sends
room_left state known port values count is room lt =
    let at = place_of known port in
    let z = line_at state (sent known port values) port is in
    let a = ap (λ (k : ℕ). length (open_at state k)) z ∙ ap length (is.unsent at ∙ sent_at known port values) ∙ length-append (known.opens at) (map (λ v. v ∷ []) values) in
    let b : length (map (λ (v : ℤ). v ∷ []) values) ≡ length values = length-map values (λ v. v ∷ []) in
    let w = ap (λ (k : ℕ). (wire_at state.wires k).sends) z ∙ ap (λ (ws : List Wire). (wire_at ws at).sends) is.wires in
    omega arith

pub width_is : (state : ChannelState) (known : Known) (port : ℕ) → IsKnown state known → place_of known port < length known.wires → 1 ≡ (wire_at state.wires (wire_of_out state.wires port 1)).width
width_is state known port is lt =
    let at = place_of known port in
    let plain = is.plain (wire_at known.wires at) (Contains-get_or known.wires at no_wire lt) in
    sym (ap (λ (k : ℕ). (wire_at state.wires k).width) (line_at state known port is) ∙ ap (λ (ws : List Wire). (wire_at ws at).width) is.wires ∙ plain.width)

pub one_job : (state : ChannelState) (known : Known) (port number : ℕ) → IsKnown state known → waits_on (λ m. eqb m.number number) known (its_wire known port) ≡ true → IsOfOneJob state (wire_of_out state.wires port 1)
one_job state known port number is all = (
  number,
  λ t src m has.
      let C : List Pending → Type 0 = λ xs. Contains xs m in
      let to : wire_to known.wires t ≡ place_of known port = sym (ap (λ (ws : List Wire). wire_to ws t) is.wires) ∙ src ∙ line_at state known port is in
      let fed = subst (λ (k : ℕ). feeds (wire_at known.wires k) t ≡ true) to (fed_at known.wires t (is_fed state known t m is has)) in
      eqb-true m.number number (on_wire (λ x. eqb x.number number) known (its_wire known port) t m all fed (subst C (is.pending t) has)),
)

-- a job is closed

pub close_is : (old new : ChannelState) (known : Known) (port number arrival : ℕ) → IsKnown old known → 1 ≤ port → KeepsWires old new → PassesOn old new (record { task = port; number = number }) arrival →
    ClearsOpen old new port → EndsHandling old new (record { task = port; number = number }) arrival → IsKnown new (closed known port number arrival)
close_is old new known port number arrival is some wires passes clears ends =
    let job : Job = record { task = port; number = number } in
    let to : Arrived → ℕ = λ t. wire_to known.wires t in
    let over : Wire → ℕ → List Pending = λ w k. passed_over w (known.opens k) job arrival in
    let added : (t : Arrived) → passed_over (wire_at old.wires (wire_to old.wires t)) (open_at old (wire_to old.wires t)) job arrival ≡ over (wire_at known.wires (to t)) (to t) = λ t.
    ap (λ (ws : List Wire). passed_over (wire_at ws (wire_to ws t)) (open_at old (wire_to ws t)) job arrival) is.wires ∙
    ap (λ (xs : List (List ℤ)). passed_over (wire_at known.wires (to t)) xs job arrival) (is.unsent (to t)) in
    record {
      widths = wires.0 ∙ is.widths;
      wires = wires.1 ∙ is.wires;
      plain = is.plain;
      jobs = λ p. ends p ∙ ap (λ (j : PortJob). cond (eqb p port) (record { in_handling = false; number = number; arrival = arrival }) j) (is.jobs p);
      pending = λ t. passes t ∙ ap (λ (xs : List Pending). xs ++ passed_over (wire_at old.wires (wire_to old.wires t)) (open_at old (wire_to old.wires t)) job arrival) (is.pending t)
          ∙ ap (λ (xs : List Pending). known.waits t ++ xs) (added t);
      unsent = λ k. clears k ∙ ap (λ (ws : List Wire). cond (eqb (wire_at ws k).port port) [] (open_at old k)) is.wires
          ∙ ap (λ (xs : List (List ℤ)). cond (eqb (wire_at known.wires k).port port) [] xs) (is.unsent k);
      fed = λ t h. ap (λ (xs : List Pending). xs ++ over (wire_at known.wires (to t)) (to t)) (is.fed t h)
          ∙ ap (λ (w : Wire). over w (to t)) (unfed known.wires t h) ∙ over_other no_wire (known.opens (to t)) job arrival (λ e. omega arith);
    }

pub is_apart : (state : ChannelState) (known : Known) (port number arrival : ℕ) → IsKnown state known → CanClose known port number arrival → IsApart state port arrival
is_apart state known port number arrival is can some wire has e =
    let j = is.jobs port in
    let C : List Wire → Type 0 = λ ws. Contains ws wire in
    let p = (is.plain wire (subst C is.wires has)).period in
    let n = ap (λ (x : PortJob). x.number) j in
    let a = ap (λ (x : PortJob). x.arrival) j in
    let f = can.apart (omega arith) in
    omega arith

-- a message is placed

same_itself : (t : Arrived) → same_target t t ≡ true
same_itself (Port n) = eq-eqb n n refl
same_itself (Output n) = eq-eqb n n refl

not_same : (a b : Arrived) → (a ≡ b → ⊥) → same_target a b ≡ false
not_same (Port a) (Port b) h = ne_eqb a b (λ e. h (ap (λ (n : ℕ). Port n) e))
not_same (Port a) (Output b) h = refl
not_same (Output a) (Port b) h = refl
not_same (Output a) (Output b) h = ne_eqb a b (λ e. h (ap (λ (n : ℕ). Output n) e))

handled_at : (old new : ChannelState) (target : Arrived) → StartsHandlingAt old new target → (p : ℕ) → job_at new p ≡ cond (is_port target p) (record (job_at old p) { in_handling = true }) (job_at old p)
handled_at old new (Port n) handles p = handles p
handled_at old new (Output n) handles p = handles p

pub deliver_is : (old new : ChannelState) (known : Known) (now : ℕ) (target : Arrived) → IsKnown old known → Delivers old new now target → IsKnown new (delivered known target)
deliver_is old new known now target is d = record {
  widths = d.wires.0 ∙ is.widths;
  wires = d.wires.1 ∙ is.wires;
  plain = is.plain;
  jobs = λ p. handled_at old new target d.handles p ∙ ap (λ (j : PortJob). cond (is_port target p) (record j { in_handling = true }) j) (is.jobs p);
  pending = λ t. ⊎_elim
      (λ (e : t ≡ target).
      ap (waits_at new) e ∙ ap (drop 1) (sym d.taken ∙ is.pending target ∙ ap known.waits (sym e))
      ∙ sym (cond-true (same_target t target) (drop 1 (known.waits t)) (known.waits t) (ap (same_target t) (sym e) ∙ same_itself t)))
      (λ (h : t ≡ target → ⊥). d.others t h ∙ is.pending t ∙ sym (cond-false (same_target t target) (drop 1 (known.waits t)) (known.waits t) (not_same t target h)))
      (target_cases t target);
  unsent = λ k. d.opens k ∙ is.unsent k;
  fed = λ t h. cond_both (same_target t target) (drop 1 (known.waits t)) (known.waits t) (λ (xs : List Pending). xs ≡ []) (λ _. ap (drop 1) (is.fed t h)) (λ _. is.fed t h);
}

pub none_late : (state : ChannelState) (known : Known) (now : ℕ) → IsKnown state known → CanDeliver known now → NoneIsLate state now
none_late state known now is can m w =
    let t = each_waits (λ x. not (ltb x.time now)) state known w.0 m is can.late w.1 in
    ⊎_elim (λ (l : m.time < now). absurd (both_ways (ltb m.time now) (not-true (ltb m.time now) t) (lt-ltb m.time now l))) (λ (g : now ≤ m.time). g) (cases_lt m.time now)

pub is_free : (state : ChannelState) (known : Known) (now : ℕ) → IsKnown state known → CanDeliver known now → (port : ℕ) → IsNext state now (Port port) → (job_at state port).in_handling ≡ false
is_free state known now is can port next =
    let due = next.arrives in
    let C : List Pending → Type 0 = λ xs. Contains xs due.0 in
    let may : ℕ → Bool = λ n. list_all (λ m. ltb now m.time) (known.waits (Port n)) || not (known.job n).in_handling in
    let f = any_one (λ w. feeds w (Port port)) known.wires (is_fed state known (Port port) due.0 is due.1) in
    let c = all_has may f.0.ports port (all_has (λ w. list_all may w.ports) known.wires f.0 can.free f.1) (any_has f.0.ports port f.2) in
    ap (λ (j : PortJob). j.in_handling) (is.jobs port) ∙ ⊎_elim
    (λ (a : list_all (λ m. ltb now m.time) (known.waits (Port port)) ≡ true).
    let t = ltb-true now due.0.time (all_has (λ m. ltb now m.time) (known.waits (Port port)) due.0 a (subst C (is.pending (Port port)) due.1)) in
    let e = due.2 in absurd (omega arith))
    (λ (b : not (known.job port).in_handling ≡ true). not-true (known.job port).in_handling b)
    (or_cases (list_all (λ m. ltb now m.time) (known.waits (Port port))) (not (known.job port).in_handling) c)

-- such a wire is sound where its numbers are in the limits

abbrev pub is_within : ℕ → ℕ → Bool
is_within most n = not (ltb n 1) && not (ltb most n)

within_is : (most n : ℕ) → is_within most n ≡ true → (1 ≤ n) × (n ≤ most)
within_is most n h =
    let p = and_parts (not (ltb n 1)) (not (ltb most n)) h in
    (not_less n 1 (not-true (ltb n 1) p.0), not_less most n (not-true (ltb most n) p.1))
  where
    not_less : (a b : ℕ) → ltb a b ≡ false → b ≤ a
    not_less a b e = ⊎_elim (λ (l : a < b). absurd (both_ways (ltb a b) e (lt-ltb a b l))) (λ (g : b ≤ a). g) (cases_lt a b)

pub width_one : (n : ℕ) → 1 ≤ n → n ≤ 3 → width_of three_ports n ≡ 1
width_one zero a b = absurd (omega arith)
width_one (suc zero) a b = refl
width_one (suc (suc zero)) a b = refl
width_one (suc (suc (suc zero))) a b = refl
width_one (suc (suc (suc (suc n)))) a b = absurd (omega arith)

pub plain_is_sound : (port sends every gap : ℕ) (ports outputs : List ℕ) → (1 ≤ port) × (port ≤ 3) → (1 ≤ sends) × (sends ≤ 64) → (1 ≤ every) × (every ≤ 1000) → (1 ≤ gap) × (gap ≡ every * 10 / sends) →
    list_all (is_within 3) ports ≡ true → list_all (is_within 16) outputs ≡ true → IsWire three_ports (wire_of port sends every gap ports outputs)
plain_is_sound port sends every gap ports outputs there s e g p o = record {
  port = there;
  out = (omega arith, omega arith);
  width = omega arith;
  sends = s;
  every = e;
  period = (omega arith, omega arith);
  gap = g;
  ports = λ n has. let w = within_is 3 n (all_has (is_within 3) ports n p has) in (w, width_one n w.0 w.1);
  outputs = λ n has. within_is 16 n (all_has (is_within 16) outputs n o has);
}

pub wire_is_sound : (sends every gap : ℕ) (ports outputs : List ℕ) → (1 ≤ sends) × (sends ≤ 64) → (1 ≤ every) × (every ≤ 1000) → (1 ≤ gap) × (gap ≡ every * 10 / sends) →
    list_all (is_within 3) ports ≡ true → list_all (is_within 16) outputs ≡ true → IsWire three_ports (one_wire sends every gap ports outputs)
wire_is_sound sends every gap ports outputs s e g p o = plain_is_sound 1 sends every gap ports outputs (omega arith, omega arith) s e g p o

-- one such wire is plain, and so are two
pub plain_one : (w : Wire) → IsPlain w → (wire : Wire) → Contains (w ∷ []) wire → IsPlain wire
plain_one w is wire (zero, lt, e) = subst IsPlain e is
plain_one w is wire (suc k, lt, e) = absurd (omega arith)

pub plain_two : (w v : Wire) → IsPlain w → IsPlain v → (wire : Wire) → Contains (w ∷ v ∷ []) wire → IsPlain wire
plain_two w v is also wire (zero, lt, e) = subst IsPlain e is
plain_two w v is also wire (suc zero, lt, e) = subst IsPlain e also
plain_two w v is also wire (suc (suc k), lt, e) = absurd (omega arith)

only : (m n k : ℕ) → k < 1 → get_or (m ∷ []) k n ≡ n → m ≡ n
only m n zero lt e = e
only m n (suc k) lt e = absurd (omega arith)

-- the two wires feed other targets
apart_two : (t : Arrived) → feeds first_of_two t ≡ true → feeds second_of_two t ≡ true → ⊥
apart_two (Port n) a b =
    let x = any_has (2 ∷ []) n a in
    let y = any_has (3 ∷ []) n b in
    let p : 2 ≡ n = only 2 n x.0 x.1 x.2 in
    let q : 3 ≡ n = only 3 n y.0 y.1 y.2 in
    omega arith
apart_two (Output n) a b =
    let x = any_has (1 ∷ []) n a in
    let y = any_has (2 ∷ []) n b in
    let p : 1 ≡ n = only 1 n x.0 x.1 x.2 in
    let q : 2 ≡ n = only 2 n y.0 y.1 y.2 in
    omega arith

pub two_are_sound : AreWires three_ports (first_of_two ∷ second_of_two ∷ [])
two_are_sound =
    are_two first_of_two second_of_two
    (plain_is_sound 1 1 1 10 (2 ∷ []) (1 ∷ []) (omega arith, omega arith) (omega arith, omega arith) (omega arith, omega arith) (omega arith, refl) refl refl)
    (plain_is_sound 2 1 1 10 (3 ∷ []) (2 ∷ []) (omega arith, omega arith) (omega arith, omega arith) (omega arith, omega arith) (omega arith, refl) refl refl)
    (λ e. omega arith) apart_two

-- channels that were made are as at the start
pub start_ok : {E : Type 0} (r : Result ChannelState E) (wires : List Wire) → ((wire : Wire) → Contains wires wire → IsPlain wire) → IfOk r (λ channels. IsInitial three_ports wires channels) → IfOk r (λ channels. IsKnown channels (at_start wires))
start_ok (Ok state) wires plain is = start_is state wires plain is
start_ok (Err e) wires plain is = is
