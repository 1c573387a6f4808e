-- What a closed job leaves to wait.
use Rattle.std.proofs.Common.{◌≡◌, ℕ, zero, suc, ◌+◌, ◌-◌, ◌*◌, ◌/◌, ◌%◌, ◌<◌, ◌≤◌, cond, eqb, List, [], ◌∷◌, ◌++◌, length, map, get_or, slice_get, Option, None, Some, refl, sym, ap, subst, ◌∙◌, ⊎_elim, arith, eq-eqb, ne_eqb}
use Rattle.std.specs.Prelude.{ℤ}
use Rattle.std.specs.List.{Contains}
use Rattle.std.specs.Option.{unwrap_or}
use Rattle.std.proofs.lemmas.Bool.{cond_both, cases_eq, cases_lt, cond-true, cond-false}
use Rattle.std.proofs.lemmas.List.{get_or_past, length-map}
use Rattle.std.proofs.lemmas.Option.{same_Some, none-some, slice_get-get_or, slice_get_past}
use Rattle.yt_graph.specs.Cost.{greatest_sends}
use Rattle.yt_graph.specs.declared.graph as declared
use Rattle.yt_graph.specs.declared.port.Feed as feed
use Rattle.yt_graph.specs.declared.port.Feed.{Feed}
use Rattle.yt_graph.specs.declared.port.Feed.TheVariants.{Input, Out}
use Rattle.yt_graph.specs.Labels.{no_output, no_port}
use Rattle.yt_graph.specs.Picture.{GraphTree, PortTree}
use Rattle.yt_graph.specs.Sends.{messages_on}
use Rattle.yt_graph.proofs.Lemmas.{sends_within}
use Rattle.yt_list.specs.Numbered.{numbered}
use Rattle.yt_log.specs.declared.job.Job.{Job}
use Rattle.yt_rates.specs.Rates.{within_of}
use Rattle.yt_chan.specs.declared.target.Arrived as target
use Rattle.yt_chan.specs.declared.target.Arrived.{Arrived}
use Rattle.yt_chan.specs.declared.wire.Wire.{Wire}
use Rattle.yt_chan.specs.Pending.{Pending, with_ticks}
use Rattle.yt_chan.specs.State.{ChannelState, job_at, open_at, open_on, passed_over, passed_to}
use Rattle.yt_chan.specs.Wires.{no_wire, wire_at, wire_of_out, wire_to}
use Rattle.yt_chan.proofs.Lemmas.{over_other}
use Rattle.yt_trace.specs.declared.message.Message.{Message}
use Rattle.yt_serial.specs.Premises.{CanRun}
use Rattle.yt_serial.specs.PortMessages.{PortMessage}
use Rattle.yt_serial.specs.SerialHandling.{Serial, brought}
use Rattle.yt_serial.proofs.Lemmas.{messages_on-length, get_cases, numbered_far, numbered_left, placed-length, placed_at, port_there}
use Rattle.yt_interleave.specs.Carrying.{IsTimedAs, as_message}
use Rattle.yt_interleave.specs.Interleaved.{ActiveJob, RunState, known_at, output_feeds, passes_of, port_at, whole_of, with_end}
use Rattle.yt_interleave.specs.Lines.{messages_to}
use Rattle.yt_interleave.specs.Moves.{Interleaves}
use Rattle.yt_interleave.specs.Waits.{wait_from}
use Rattle.yt_interleave.proofs.Lemmas.{added-length, as_passed, messages_wait, passes_late}
use Rattle.yt_body.specs.Wiring.{wires_of}
use Rattle.yt_body.proofs.Lemmas.{are_wires}
use Rattle.yt_log.proofs.Lemmas.{next_multiple}
use Rattle.std.proofs.lemmas.List.Elements.{Contains-append_cases}
use Rattle.std.proofs.lemmas.Nat.{mul-le}
use Rattle.std.proofs.Math.Nat.{mod-add-div}
use Rattle.yt_body_laws.specs.Carrying.{AreRising, IsSentBy, known_for, over_wire}
use Rattle.yt_body_laws.proofs.Codes.{port_is}
use Rattle.yt_body_laws.proofs.Sources.{IsLimited, fed, feed_of, of_out, output_feed, own_place, unfed}

-- one of a job's messages, by its place
pub record IsNth (number time gap count : ℕ) (m : Pending) : Type 0 where
  pub number_is : m.number ≡ number
  pub place : ℕ
  pub few : place < count
  pub time_is : m.time ≡ time + place * gap

nth_of : (number time gap : ℕ) (messages : List (List ℤ)) (m : Pending) → Contains (with_ticks number time gap messages) m → IsNth number time gap (length messages) m
nth_of number time gap [] m (k, lt, e) = absurd (omega arith)
nth_of number time gap (values ∷ rest) m (zero, lt, e) = record {
  number_is = sym (ap (λ (x : Pending). x.number) e);
  place = 0;
  few = omega arith;
  time_is = let t : time ≡ m.time = ap (λ (x : Pending). x.time) e in omega arith;
}
nth_of number time gap (values ∷ rest) m (suc k, lt, e) =
    let r = nth_of number (time + gap) gap rest m (k, omega arith, e) in
    let few = r.few in
    let t = r.time_is in
    let split : suc r.place * gap ≡ r.place * gap + gap = omega arith in
    record { number_is = r.number_is; place = suc r.place; few = omega arith; time_is = omega arith }

-- what a job passes on over a wire: the wire is one of its port's, its number is a multiple of the wire's `every`, and it is one of the open messages
pub record IsPassedOver (wire : Wire) (count : ℕ) (job : Job) (arrival : ℕ) (m : Pending) : Type 0 where
  pub port : wire.port ≡ job.task
  pub passes : job.number % wire.every ≡ 0
  pub nth : IsNth job.number (arrival + wire.period) wire.gap count m

over_of : (wire : Wire) (messages : List (List ℤ)) (job : Job) (arrival : ℕ) (m : Pending) → Contains (passed_over wire messages job arrival) m → IsPassedOver wire (length messages) job arrival m
over_of wire messages job arrival m h =
    let all = with_ticks job.number (arrival + wire.period) wire.gap messages in
    ⊎_elim
    (λ (own : wire.port ≡ job.task).
    let here : passed_over wire messages job arrival ≡ (cond (eqb (job.number % wire.every) 0) (with_ticks job.number (arrival + wire.period) wire.gap messages) []) = cond-true (eqb wire.port job.task) (cond (eqb (job.number % wire.every) 0) (with_ticks job.number (arrival + wire.period) wire.gap messages) []) [] (eq-eqb wire.port job.task own) in
    let in_those = subst (λ (xs : List Pending). Contains xs m) here h in
    ⊎_elim
    (λ (passes : job.number % wire.every ≡ 0).
    let e : (cond (eqb (job.number % wire.every) 0) (with_ticks job.number (arrival + wire.period) wire.gap messages) []) ≡ all = cond-true (eqb (job.number % wire.every) 0) all [] (eq-eqb (job.number % wire.every) 0 passes) in
    record { port = own; passes = passes; nth = nth_of job.number (arrival + wire.period) wire.gap messages m (subst (λ (xs : List Pending). Contains xs m) e in_those) })
    (λ (never : job.number % wire.every ≡ 0 → ⊥).
    let e : (cond (eqb (job.number % wire.every) 0) (with_ticks job.number (arrival + wire.period) wire.gap messages) []) ≡ [] = cond-false (eqb (job.number % wire.every) 0) all [] (ne_eqb (job.number % wire.every) 0 never) in
    absurd (nothing (subst (λ (xs : List Pending). Contains xs m) e in_those)))
    (cases_eq (job.number % wire.every) 0))
    (λ (other : wire.port ≡ job.task → ⊥). absurd (nothing (subst (λ (xs : List Pending). Contains xs m) (over_other wire messages job arrival other) h)))
    (cases_eq wire.port job.task)
  where
    nothing : Contains [] m → ⊥
    nothing (k, lt, e) = omega arith

rises_append : (xs ys : List Pending) → AreRising xs → AreRising ys → ((x y : Pending) → Contains xs x → Contains ys y → x.time < y.time) → AreRising (xs ++ ys)
rises_append [] ys left right cross = right
rises_append (x ∷ xs) ys left right cross = (
  (λ later h. ⊎_elim (λ (l : Contains xs later). left.0 later l) (λ (l : Contains ys later). cross x later (0, omega arith, refl) l) (Contains-append_cases xs ys later h)),
  rises_append xs ys left.1 right (λ y z h k. cross y z (suc h.0, let l = h.1 in omega arith, h.2) k),
)

rises_ticks : (number time gap : ℕ) (messages : List (List ℤ)) → 1 ≤ gap → AreRising (with_ticks number time gap messages)
rises_ticks number time gap [] some = tt
rises_ticks number time gap (values ∷ rest) some =
    ((λ later h. let l = (nth_of number (time + gap) gap rest later h).time_is in omega arith), rises_ticks number (time + gap) gap rest some)

rises_over : (wire : Wire) (messages : List (List ℤ)) (job : Job) (arrival : ℕ) → 1 ≤ wire.gap → AreRising (passed_over wire messages job arrival)
rises_over wire messages job arrival some =
    cond_both (eqb wire.port job.task) (cond (eqb (job.number % wire.every) 0) (with_ticks job.number (arrival + wire.period) wire.gap messages) []) [] AreRising
    (λ own. cond_both (eqb (job.number % wire.every) 0) (with_ticks job.number (arrival + wire.period) wire.gap messages) [] AreRising (λ e. rises_ticks job.number (arrival + wire.period) wire.gap messages some) (λ e. tt))
    (λ other. tt)

-- a message that has a number keeps it
pub grows_known : (g : GraphTree) (a : ActiveJob) (r : RunState) → length r.messages ≡ length g.ports → (port n : ℕ) (m : PortMessage) → numbered (known_at r port) n ≡ Some m →
    numbered (known_at (with_end g a r) port) n ≡ Some m
grows_known g a r long port n m h = by port (port_there g.ports r.messages port n m long h) h
  where
    by : (port : ℕ) → (q : PortTree) × (numbered g.ports port ≡ Some q) → numbered (known_at r port) n ≡ Some m → numbered (known_at (with_end g a r) port) n ≡ Some m
    by zero q h = absurd (none-some q.0 q.1)
    by (suc k) q h =
        let new = brought a.job.task (passes_of g a) q.0.feed in
        subst (λ (ms : List PortMessage). numbered ms n ≡ Some m) (sym (placed_at (brought a.job.task (passes_of g a)) g.ports r.messages k q.0 long q.1)) (numbered_left (known_at r (suc k)) new n m h)

-- one that comes before the job's deadline had it before
pub was_known : (g : GraphTree) (a : ActiveJob) (r : RunState) → length r.messages ≡ length g.ports → (port n : ℕ) (m : PortMessage) → numbered (known_at (with_end g a r) port) n ≡ Some m →
    m.time < a.message.time + within_of g (port_at g a.job.task) → numbered (known_at r port) n ≡ Some m
was_known g a r long port n m h early = by port n h (port_there g.ports (with_end g a r).messages port n m (placed-length (brought a.job.task (passes_of g a)) g.ports r.messages long) h)
  where
    by : (port n : ℕ) → numbered (known_at (with_end g a r) port) n ≡ Some m → (q : PortTree) × (numbered g.ports port ≡ Some q) → numbered (known_at r port) n ≡ Some m
    by zero n h q = absurd (none-some q.0 q.1)
    by (suc k) zero h q = absurd (none-some m h)
    by (suc k) (suc i) h q =
        let new = brought a.job.task (passes_of g a) q.0.feed in
        let all : known_at (with_end g a r) (suc k) ≡ known_at r (suc k) ++ new = placed_at (brought a.job.task (passes_of g a)) g.ports r.messages k q.0 long q.1 in
        ⊎_elim
        (λ (old : slice_get (known_at r (suc k)) i ≡ Some m). old)
        (λ (later : (j : ℕ) × (i ≡ length (known_at r (suc k)) + j) × (slice_get new j ≡ Some m)).
        let late = passes_late g a q.0.feed later.0 m later.2 in
        absurd (omega arith))
        (get_cases (known_at r (suc k)) new i m (subst (λ (ms : List PortMessage). slice_get ms i ≡ Some m) all h))

module _ (g : GraphTree) (limits : IsLimited g) where
  module _ (channels : ChannelState) (wires : channels.wires ≡ wires_of g) (a : ActiveJob) (p : PortTree) (at : numbered g.ports a.job.task ≡ Some p)
      (sent : (out : ℕ) → open_on channels a.job.task out ≡ messages_on out (whole_of g a).sends) where
    abbrev place : Arrived → ℕ
    place t = wire_to (wires_of g) t

    some_task : 1 ≤ a.job.task
    some_task = by a.job.task at
      where
        by : (n : ℕ) → numbered g.ports n ≡ Some p → 1 ≤ n
        by zero e = absurd (none-some p e)
        by (suc n) e = omega arith

    -- what goes to a target is what goes over its wire
    pub to_is : (t : Arrived) → passed_to channels t a.job a.message.time ≡ passed_over (wire_at (wires_of g) (place t)) (open_at channels (place t)) a.job a.message.time
    to_is t = ap (λ (ws : List Wire). passed_over (wire_at ws (wire_to ws t)) (open_at channels (wire_to ws t)) a.job a.message.time) wires

    -- what is open on a wire of the job's port is what the job sends
    open_is : (k : ℕ) → k < length (wires_of g) → (wire_at (wires_of g) k).port ≡ a.job.task → open_at channels k ≡ messages_on (wire_at (wires_of g) k).out (whole_of g a).sends
    open_is k lt own =
        let w = wire_at (wires_of g) k in
        ap (open_at channels) (sym (own_place g limits k lt) ∙ ap (λ (n : ℕ). wire_of_out (wires_of g) n w.out) own ∙ ap (λ (ws : List Wire). wire_of_out ws a.job.task w.out) (sym wires))
        ∙ sent w.out

    over_is : (w : Wire) (k out : ℕ) → w ≡ wire_at (wires_of g) k → k < length (wires_of g) → w.port ≡ a.job.task → w.out ≡ out →
        map as_message (passed_over w (messages_on out (whole_of g a).sends) a.job a.message.time) ≡ passes_of g a out
    over_is w k out is lt own out_is =
        let o = of_out g limits k lt in
        let port : w.port ≡ (wire_at (wires_of g) k).port = ap (λ (x : Wire). x.port) is in
        let same : port_at g a.job.task ≡ o.port = ap (port_at g) (sym own ∙ port) ∙ port_is g (wire_at (wires_of g) k).port o.port o.there in
        let timed : IsTimedAs g a.job.task (port_at g a.job.task) out w =
        subst (λ (q : PortTree). IsTimedAs g a.job.task q out w) (sym same)
        (subst (λ (n : ℕ). IsTimedAs g a.job.task o.port n w) out_is
        (subst (λ (x : Wire). IsTimedAs g a.job.task o.port x.out x) (sym is)
        (record { port = sym port ∙ own; every = o.timed.every; period = o.timed.period; gap = o.timed.gap }))) in
        as_passed g (port_at g a.job.task) out w a.job a.message.time (whole_of g a).sends timed

    -- what a job leaves to wait for a target is what it brings there
    pub leaves : (t : Arrived) → map as_message (passed_to channels t a.job a.message.time) ≡ brought a.job.task (passes_of g a) (feed_of g t)
    leaves t = ap (map as_message) (to_is t) ∙ by (feed_of g t) refl
      where
        by : (f : Feed) → feed_of g t ≡ f → map as_message (passed_over (wire_at (wires_of g) (place t)) (open_at channels (place t)) a.job a.message.time) ≡ brought a.job.task (passes_of g a) f
        by (feed.TheVariants.Input input) e =
            let some = some_task in
            ap (λ (w : Wire). map as_message (passed_over w (open_at channels (place t)) a.job a.message.time)) (unfed g limits t input e)
            ∙ ap (map as_message) (over_other no_wire (open_at channels (place t)) a.job a.message.time (λ q. omega arith))
        by (feed.TheVariants.Out port out) e =
            let f = fed g limits t port out e in
            let w = wire_at (wires_of g) (place t) in
            ⊎_elim
            (λ (own : port ≡ a.job.task).
            ap (λ (ms : List (List ℤ)). map as_message (passed_over w ms a.job a.message.time)) (open_is (place t) f.lies (f.port_is ∙ own) ∙ ap (λ (n : ℕ). messages_on n (whole_of g a).sends) f.out_is)
            ∙ over_is w (place t) out refl f.lies (f.port_is ∙ own) f.out_is
            ∙ sym (cond-true (eqb port a.job.task) (passes_of g a out) [] (eq-eqb port a.job.task own)))
            (λ (other : port ≡ a.job.task → ⊥).
            ap (map as_message) (over_other w (open_at channels (place t)) a.job a.message.time (λ q. other (sym f.port_is ∙ q)))
            ∙ sym (cond-false (eqb port a.job.task) (passes_of g a out) [] (ne_eqb port a.job.task other)))
            (cases_eq port a.job.task)

    -- and each such message was sent by it, once it is its port's last closed job
    pub left_by_it : (r : RunState) (after : ChannelState) → numbered (known_at r a.job.task) a.job.number ≡ Some a.message → (job_at after a.job.task).number ≡ a.job.number →
        (t : Arrived) (m : Pending) → Contains (passed_to channels t a.job a.message.time) m → IsSentBy r after (wire_at (wires_of g) (place t)) m
    left_by_it r after there last t m h =
        let k = place t in
        let w = wire_at (wires_of g) k in
        let o = over_of w (open_at channels k) a.job a.message.time m (subst (λ (xs : List Pending). Contains xs m) (to_is t) h) in
        let number = o.nth.number_is in
        let closed : (job_at after w.port).number ≡ a.job.number = ap (λ (n : ℕ). (job_at after n).number) o.port ∙ last in
        let time = o.nth.time_is in
        ⊎_elim
        (λ (lt : k < length (wires_of g)).
        let source = of_out g limits k lt in
        let long : length (open_at channels k) ≡ length (messages_on w.out (whole_of g a).sends) = ap length (open_is k lt o.port) in
        let count = messages_on-length w.out (whole_of g a).sends in
        let most = sends_within g (port_at g a.job.task) w.out a.message.values a.vars in
        let same : greatest_sends (port_at g a.job.task) w.out ≡ greatest_sends source.port w.out =
        ap (λ (q : PortTree). greatest_sends q w.out) (ap (port_at g) (sym o.port) ∙ port_is g w.port source.port source.there) in
        let sends = source.sends in
        let few = o.nth.few in
        record {
          closed = omega arith;
          passes = ap (λ (n : ℕ). n % w.every) number ∙ o.passes;
          sender = a.message;
          there = ap (λ (n : ℕ). numbered (known_at r n) m.number) o.port ∙ ap (numbered (known_at r a.job.task)) number ∙ there;
          place = o.nth.place;
          few = omega arith;
          time = o.nth.time_is;
        })
        (λ (ge : length (wires_of g) ≤ k).
        let none : w.port ≡ 0 = ap (λ (x : Wire). x.port) (get_or_past (wires_of g) k no_wire ge) in
        let own = o.port in
        let some = some_task in
        absurd (omega arith))
        (cases_lt k (length (wires_of g)))

    -- what waits for a target comes one after another, also with what the job leaves
    rises_new : (t : Arrived) → AreRising (passed_to channels t a.job a.message.time)
    rises_new t =
        let k = place t in
        let w = wire_at (wires_of g) k in
        subst AreRising (sym (to_is t))
        (⊎_elim
        (λ (lt : k < length (wires_of g)). rises_over w (open_at channels k) a.job a.message.time ((are_wires g limits.well limits.rates limits.costs).each k lt).gap.0)
        (λ (ge : length (wires_of g) ≤ k).
        let none = get_or_past (wires_of g) k no_wire ge in
        let port : w.port ≡ 0 = ap (λ (x : Wire). x.port) none in
        let some = some_task in
        subst AreRising (sym (over_other w (open_at channels k) a.job a.message.time (λ q. omega arith))) tt)
        (cases_lt k (length (wires_of g))))

    pub rises_on : (trace : List Message) → CanRun g trace → (s : Serial) (r : RunState) → Interleaves g trace s r → numbered (known_at r a.job.task) a.job.number ≡ Some a.message →
        (old : ChannelState) → (job_at old a.job.task).number < a.job.number → (t : Arrived) (waits : List Pending) → AreRising waits →
        ((x : Pending) → Contains waits x → IsSentBy r old (wire_at (wires_of g) (place t)) x) → AreRising (waits ++ passed_to channels t a.job a.message.time)
    rises_on trace can s r is there old before t waits rise sent_by =
        rises_append waits (passed_to channels t a.job a.message.time) rise (rises_new t) cross
      where
        cross : (x y : Pending) → Contains waits x → Contains (passed_to channels t a.job a.message.time) y → x.time < y.time
        cross x y in_old in_new =
            let k = place t in
            let w = wire_at (wires_of g) k in
            let b = sent_by x in_old in
            let o = over_of w (open_at channels k) a.job a.message.time y (subst (λ (xs : List Pending). Contains xs y) (to_is t) in_new) in
            let own = o.port in
            let closed = b.closed in
            let last : (job_at old w.port).number ≡ (job_at old a.job.task).number = ap (λ (n : ℕ). (job_at old n).number) own in
            ⊎_elim
            (λ (lt : k < length (wires_of g)).
            let wire = (are_wires g limits.well limits.rates limits.costs).each k lt in
            let source = of_out g limits k lt in
            let port : p ≡ source.port = same_Some p source.port (sym at ∙ ap (numbered g.ports) (sym own) ∙ source.there) in
            let period : w.period ≡ within_of g p = source.timed.period ∙ ap (within_of g) (sym port) in
            let next = next_multiple w.every x.number a.job.number b.passes o.passes (omega arith) in
            let sender : numbered (known_at r a.job.task) x.number ≡ Some b.sender = ap (λ (n : ℕ). numbered (known_at r n) x.number) (sym own) ∙ b.there in
            let spread : (i j : ℕ) (x y : PortMessage) → slice_get (known_at r a.job.task) i ≡ Some x → slice_get (known_at r a.job.task) j ≡ Some y → i < j → x.time + within_of g p ≤ y.time = λ i j x y h k lt. messages_wait.apart g trace can s r is a.job.task (suc i) (suc j) p x y at h k (omega arith) in
            let far = numbered_far (within_of g p) (known_at r a.job.task) spread x.number a.job.number b.sender a.message sender there (omega arith) in
            let spans : w.every * w.period ≤ (a.job.number - x.number) * within_of g p = mul-le w.every w.period (a.job.number - x.number) (within_of g p) (omega arith) (omega arith) in
            let gap = wire.gap.1 in
            let some = wire.gap.0 in
            let div = mod-add-div (w.every * w.period) w.sends in
            let whole : w.sends * w.gap ≡ w.sends * (w.every * w.period / w.sends) = ap (λ (q : ℕ). w.sends * q) gap in
            let fit : w.sends * w.gap ≤ w.every * w.period = omega arith in
            let few = b.few in
            let mine : suc b.place * w.gap ≤ w.sends * w.gap = mul-le (suc b.place) w.gap w.sends w.gap (omega arith) (omega arith) in
            let split : suc b.place * w.gap ≡ b.place * w.gap + w.gap = omega arith in
            let x_time = b.time in
            let y_time = o.nth.time_is in
            omega arith)
            (λ (ge : length (wires_of g) ≤ k).
            let none : w.port ≡ 0 = ap (λ (x : Wire). x.port) (get_or_past (wires_of g) k no_wire ge) in
            let some = some_task in
            absurd (omega arith))
            (cases_lt k (length (wires_of g)))

-- where a job ends before its deadline, what it brings to a target waits there behind what waited
over_more : (due : ℕ) (f : Feed) (old new : List PortMessage) (brings : Feed → List PortMessage) → ((input : ℕ) → brings (Input input) ≡ []) → wait_from due new ≡ wait_from due old ++ brings f →
    wait_from due (over_wire f new) ≡ wait_from due (over_wire f old) ++ brings f
over_more due (feed.TheVariants.Input input) old new brings none h = sym (none input)
over_more due (feed.TheVariants.Out port out) old new brings none h = h

pub grows_waits : (g : GraphTree) (trace : List Message) → CanRun g trace → (s : Serial) (r : RunState) → Interleaves g trace s r → (a : ActiveJob) (due : ℕ) →
    due ≤ a.message.time + within_of g (port_at g a.job.task) → (t : Arrived) →
    wait_from due (known_for g (with_end g a r) t) ≡ wait_from due (known_for g r t) ++ brought a.job.task (passes_of g a) (feed_of g t)
grows_waits g trace can s r is a due le (target.TheVariants.Port zero) = refl
grows_waits g trace can s r is a due le (target.TheVariants.Port (suc k)) = by (slice_get g.ports k) refl
  where
    brings : Feed → List PortMessage
    brings = brought a.job.task (passes_of g a)

    by : (o : Option PortTree) → slice_get g.ports k ≡ o →
        wait_from due (over_wire (port_at g (suc k)).feed (known_at (with_end g a r) (suc k))) ≡ wait_from due (over_wire (port_at g (suc k)).feed (known_at r (suc k))) ++ brought a.job.task (passes_of g a) (port_at g (suc k)).feed
    by None e =
        let F : Feed → Type 0 = λ f. wait_from due (over_wire f (known_at (with_end g a r) (suc k))) ≡ wait_from due (over_wire f (known_at r (suc k))) ++ brought a.job.task (passes_of g a) f in
        let none : Input 0 ≡ (port_at g (suc k)).feed = sym (ap (λ (o : Option PortTree). (unwrap_or o no_port).feed) e) in
        subst F none refl
    by (Some p) e =
        let same : p ≡ port_at g (suc k) = sym (port_is g (suc k) p e) in
        over_more due (port_at g (suc k)).feed (known_at r (suc k)) (known_at (with_end g a r) (suc k)) (brought a.job.task (passes_of g a)) (λ input. refl)
        (messages_wait.at_port g trace can s r is a due le (suc k) p e
        ∙ ap (λ (q : PortTree). wait_from due (known_at r (suc k)) ++ brought a.job.task (passes_of g a) q.feed) same)
grows_waits g trace can s r is a due le (target.TheVariants.Output zero) = refl
grows_waits g trace can s r is a due le (target.TheVariants.Output (suc k)) = by (slice_get g.outputs k) refl
  where
    past : (ms : List (List PortMessage)) → length ms ≤ k → messages_to ms (suc k) ≡ []
    past ms le = ap (λ (o : Option (List PortMessage)). unwrap_or o []) (slice_get_past ms k le)

    by : (o : Option declared.Output.Output) → slice_get g.outputs k ≡ o →
        wait_from due (messages_to (with_end g a r).outputs (suc k)) ≡ wait_from due (messages_to r.outputs (suc k)) ++ brought a.job.task (passes_of g a) (output_feed (slice_get g.outputs k))
    by None e =
        let count = is.lines.count in
        let feeds = length-map g.outputs (λ (o : declared.Output.Output). Out o.port o.out) in
        let long = added-length (brought a.job.task (passes_of g a)) (output_feeds g) r.outputs (count ∙ sym feeds) in
        ⊎_elim
        (λ (lt : k < length g.outputs). absurd (none-some (get_or g.outputs k no_output) (sym e ∙ slice_get-get_or g.outputs k no_output lt)))
        (λ (ge : length g.outputs ≤ k).
        ap (wait_from due) (past (with_end g a r).outputs (omega arith))
        ∙ sym (ap (λ (ms : List PortMessage). wait_from due ms ++ brought a.job.task (passes_of g a) (output_feed (slice_get g.outputs k))) (past r.outputs (omega arith)) ∙ ap (λ (o : Option declared.Output.Output). brought a.job.task (passes_of g a) (output_feed o)) e))
        (cases_lt k (length g.outputs))
    by (Some o) e =
        messages_wait.at_output g trace can s r is a due le (suc k) o e
        ∙ ap (λ (x : Option declared.Output.Output). wait_from due (messages_to r.outputs (suc k)) ++ brought a.job.task (passes_of g a) (output_feed x)) (sym e)
