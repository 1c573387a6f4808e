-- How the messages that wait for their time change.
use Rattle.std.proofs.Common.{◌≡◌, ℕ, zero, suc, ◌+◌, ◌%◌, ◌<◌, ◌≤◌, eqb, List, [], ◌∷◌, ◌++◌, length, slice_get, get_or, Option, None, Some, refl, sym, ap, subst, ◌∙◌, inl, inr, ⊎_elim, arith, append-nil, eq-eqb, ne_eqb, ◌-◌, ◌*◌, All}
use Rattle.std.specs.Option.{option_map, unwrap_or}
use Rattle.std.proofs.lemmas.Bool.{cases_eq, cases_lt, cond-true, cond-false}
use Rattle.std.proofs.lemmas.List.{length-map}
use Rattle.std.proofs.lemmas.Nat.{mul-le}
use Rattle.std.proofs.Math.Nat.{mod-add-div}
use Rattle.std.proofs.lemmas.Option.{none-some, slice_get-map, slice_get-get_or, slice_get_past, get_or_from_slice_get, slice_get_within}
use Rattle.yt_graph.specs.declared.graph.Output.{Output}
use Rattle.yt_graph.specs.declared.port.Feed.{Feed}
use Rattle.yt_graph.specs.declared.port.Feed.TheVariants.{Input, Out}
use Rattle.yt_graph.specs.Cost.{greatest_sends}
use Rattle.yt_rates.specs.Faults.{IsWithinRates}
use Rattle.yt_log.proofs.Lemmas.{next_multiple}
use Rattle.yt_serial.proofs.Lemmas.{inputs_stay, numbered_far, placed_at, serial_holds, lines_hold, TimesRise, period_some}
use Rattle.yt_graph.specs.Picture.{GraphTree, PortTree}
use Rattle.yt_log.specs.Tasks.{Has}
use Rattle.yt_rates.specs.Rates.{every_of, period_of, gap_of}
use Rattle.yt_serial.specs.declared.shown.OutLine.{OutLine}
use Rattle.yt_trace.specs.declared.message.Message.{Message}
use Rattle.yt_serial.specs.Beginnings.{order_of}
use Rattle.yt_serial.specs.PortMessages.{PortMessage, messages_of}
use Rattle.yt_list.specs.Numbered.{numbered}
use Rattle.yt_serial.specs.SerialHandling.{Serial, messages_at, brought, from_outside, shown, start}
use Rattle.yt_interleave.specs.Interleaved.{ActiveJob, RunState, port_at, known_at, passes_of, to_come, output_feeds, with_end}
use Rattle.yt_serial.specs.Premises.{CanRun}
use Rattle.yt_interleave.specs.Lines.{messages_to, come_at}
use Rattle.yt_interleave.specs.Moves.{Interleaves}
use Rattle.yt_interleave.specs.Waits.{wait_from, AreFrom, NoneComesBefore, IsThere, ComesFrom, MessagesWait}
use Rattle.yt_interleave.proofs.Pieces.{added_at}
use Rattle.yt_interleave.proofs.Shown.{known_rise}
use Rattle.yt_interleave.proofs.Timing as timing
use Rattle.yt_interleave.proofs.Timing.{passes_late}
use Rattle.yt_interleave.proofs.WaitLists.{none_between, wait_all, wait_append, wait_no, wait_same, wait_there, wait_yes}

come_yes : (t : ℕ) (m : PortMessage) (ms : List PortMessage) → m.time ≡ t → come_at t (m ∷ ms) ≡ m ∷ come_at t ms
come_yes t m ms e = cond-true (eqb m.time t) (m ∷ come_at t ms) (come_at t ms) (eq-eqb m.time t e)

come_no : (t : ℕ) (m : PortMessage) (ms : List PortMessage) → (m.time ≡ t → ⊥) → come_at t (m ∷ ms) ≡ come_at t ms
come_no t m ms e = cond-false (eqb m.time t) (m ∷ come_at t ms) (come_at t ms) (ne_eqb m.time t e)

come_none : (t n : ℕ) (ms : List PortMessage) → ((l : OutLine) → Has (shown n ms) l → t < l.time) → come_at t ms ≡ []
come_none t n [] late = refl
come_none t n (m ∷ ms) late =
    come_no t m ms (λ e. let lt = late (record { time = m.time; output = n; values = m.values }) (inl refl) in absurd (omega arith))
    ∙ come_none t n ms (λ l h. late l (inr h))

-- where times rise, what comes at a tick stands before what comes later
comes_first : (n t : ℕ) (ms : List PortMessage) → TimesRise (shown n ms) → wait_from t ms ≡ come_at t ms ++ wait_from (suc t) ms
comes_first n t [] rise = refl
comes_first n t (m ∷ ms) rise =
    ⊎_elim
    (λ (lt : m.time < t).
    wait_no t m ms lt ∙ comes_first n t ms rise.1
    ∙ sym (ap (λ (zs : List PortMessage). zs ++ wait_from (suc t) (m ∷ ms)) (come_no t m ms (λ e. absurd (omega arith))) ∙ ap (λ (zs : List PortMessage). come_at t ms ++ zs) (wait_no (suc t) m ms (omega arith))))
    (λ (ge : t ≤ m.time).
    ⊎_elim
    (λ (e : m.time ≡ t).
    wait_yes t m ms ge ∙ ap (λ (zs : List PortMessage). m ∷ zs) (comes_first n t ms rise.1)
    ∙ sym (ap (λ (zs : List PortMessage). zs ++ wait_from (suc t) (m ∷ ms)) (come_yes t m ms e) ∙ ap (λ (zs : List PortMessage). m ∷ (come_at t ms ++ zs)) (wait_no (suc t) m ms (omega arith))))
    (λ (ne : m.time ≡ t → ⊥).
    let none : come_at t ms ≡ [] = come_none t n ms (λ l h. let le = rise.0 l h in omega arith) in
    wait_yes t m ms ge ∙ ap (λ (zs : List PortMessage). m ∷ zs) (comes_first n t ms rise.1 ∙ ap (λ (zs : List PortMessage). zs ++ wait_from (suc t) ms) none)
    ∙ sym (ap (λ (zs : List PortMessage). zs ++ wait_from (suc t) (m ∷ ms)) (come_no t m ms ne ∙ none) ∙ wait_yes (suc t) m ms (omega arith)))
    (cases_eq m.time t))
    (cases_lt m.time t)

-- messages that are some ticks apart
pub rise_apart : (n period : ℕ) (ms : List PortMessage) → ((i j : ℕ) (x y : PortMessage) → slice_get ms i ≡ Some x → slice_get ms j ≡ Some y → i < j → x.time + period ≤ y.time) → TimesRise (shown n ms)
rise_apart n period [] apart = tt
rise_apart n period (m ∷ ms) apart =
    ((λ l h. let r = in_shown ms l h in let a = apart 0 (suc r.0) m r.1 refl r.2 (omega arith) in let t = r.3 in omega arith), rise_apart n period ms (λ i j x y a b lt. apart (suc i) (suc j) x y a b (omega arith)))
  where
    in_shown : (xs : List PortMessage) (l : OutLine) → Has (shown n xs) l → (i : ℕ) × (x : PortMessage) × (slice_get xs i ≡ Some x) × (l.time ≡ x.time)
    in_shown [] l h = absurd h
    in_shown (x ∷ xs) l h =
        ⊎_elim
        (λ (e : l ≡ (record { time = x.time; output = n; values = x.values })). (0, x, refl, ap (λ (y : OutLine). y.time) e))
        (λ (k : Has (shown n xs) l). let r = in_shown xs l k in (suc r.0, r.1, r.2, r.3))
        h

one_apart : (t period : ℕ) (ms : List PortMessage) → 1 ≤ period → ((i j : ℕ) (x y : PortMessage) → slice_get ms i ≡ Some x → slice_get ms j ≡ Some y → i < j → x.time + period ≤ y.time) → length (come_at t ms) ≤ 1
one_apart t period [] some apart = omega arith
one_apart t period (m ∷ ms) some apart =
    let rest : (i j : ℕ) (x y : PortMessage) → slice_get ms i ≡ Some x → slice_get ms j ≡ Some y → i < j → x.time + period ≤ y.time = λ i j x y a b lt. apart (suc i) (suc j) x y a b (omega arith) in
    ⊎_elim
    (λ (e : m.time ≡ t).
    let none : come_at t ms ≡ [] = later ms (λ k x h. let a = apart 0 (suc k) m x refl h (omega arith) in omega arith) in
    let long : length (come_at t (m ∷ ms)) ≡ 1 = ap length (come_yes t m ms e ∙ ap (λ (zs : List PortMessage). m ∷ zs) none) in
    omega arith)
    (λ (ne : m.time ≡ t → ⊥).
    let long : length (come_at t (m ∷ ms)) ≡ length (come_at t ms) = ap length (come_no t m ms ne) in
    let h = one_apart t period ms some rest in
    omega arith)
    (cases_eq m.time t)
  where
    later : (xs : List PortMessage) → ((k : ℕ) (x : PortMessage) → slice_get xs k ≡ Some x → t < x.time) → come_at t xs ≡ []
    later [] late = refl
    later (x ∷ xs) late = come_no t x xs (λ e. let lt = late 0 x refl in absurd (omega arith)) ∙ later xs (λ k y h. late (suc k) y h)

module _ (g : GraphTree) (trace : List Message) (can : CanRun g trace) where
  module _ (s : Serial) (r : RunState) (is : Interleaves g trace s r) where
    input_at : (port : ℕ) (p : PortTree) (i : ℕ) → numbered g.ports port ≡ Some p → p.feed ≡ Input i → known_at r port ≡ messages_of i trace
    input_at zero p i there feed = absurd (none-some p there)
    input_at (suc k) p i there feed =
        let known : messages_at s (suc k) ≡ known_at r (suc k) =
        ap (λ (ms : List (List PortMessage)). unwrap_or (numbered ms (suc k)) []) is.stands.messages
        ∙ placed_at (to_come g r.active) g.ports r.messages k p is.stands.long there
        ∙ ap (λ (f : Feed). known_at r (suc k) ++ to_come g r.active f) feed ∙ append-nil (known_at r (suc k)) in
        let first : messages_at (start g trace) (suc k) ≡ messages_of i trace =
        ap (λ (o : Option (List PortMessage)). unwrap_or o []) (slice_get-map (λ (p : PortTree). from_outside trace p.feed) g.ports k ∙ ap (option_map (λ (p : PortTree). from_outside trace p.feed)) there)
        ∙ ap (from_outside trace) feed in
        sym known
        ∙ inputs_stay g trace can (order_of r.log) (start g trace) s (serial_holds g can.well_formed can.rates trace can.keeps [] (start g trace) refl) is.stands.along k p i there feed
        ∙ first

    at_port : (b : ActiveJob) (due : ℕ) → due ≤ b.message.time + period_of g (port_at g b.job.task) → (port : ℕ) (p : PortTree) → numbered g.ports port ≡ Some p
        → wait_from due (known_at (with_end g b r) port) ≡ wait_from due (known_at r port) ++ brought b.job.task (passes_of g b) p.feed
    at_port b due le zero p there = absurd (none-some p there)
    at_port b due le (suc k) p there =
        let new = brought b.job.task (passes_of g b) p.feed in
        ap (wait_from due) (placed_at (brought b.job.task (passes_of g b)) g.ports r.messages k p is.stands.long there)
        ∙ wait_append due (known_at r (suc k)) new
        ∙ ap (λ (ms : List PortMessage). wait_from due (known_at r (suc k)) ++ ms) (wait_all due new (λ i x h. let late = passes_late g b p.feed i x h in omega arith))

    at_output : (b : ActiveJob) (due : ℕ) → due ≤ b.message.time + period_of g (port_at g b.job.task) → (n : ℕ) (o : Output) → numbered g.outputs n ≡ Some o
        → wait_from due (messages_to (with_end g b r).outputs n) ≡ wait_from due (messages_to r.outputs n) ++ brought b.job.task (passes_of g b) (Out o.port o.out)
    at_output b due le zero o there = absurd (none-some o there)
    at_output b due le (suc k) o there =
        let new = brought b.job.task (passes_of g b) (Out o.port o.out) in
        let feeds = length-map g.outputs (λ (o : Output). Out o.port o.out) in
        let feed : slice_get (output_feeds g) k ≡ Some (Out o.port o.out) = slice_get-map (λ (o : Output). Out o.port o.out) g.outputs k ∙ ap (option_map (λ (o : Output). Out o.port o.out)) there in
        ap (wait_from due) (added_at (brought b.job.task (passes_of g b)) (output_feeds g) r.outputs k (Out o.port o.out) (is.lines.count ∙ sym feeds) feed)
        ∙ wait_append due (messages_to r.outputs (suc k)) new
        ∙ ap (λ (ms : List PortMessage). wait_from due (messages_to r.outputs (suc k)) ++ ms) (wait_all due new (λ i x h. let late = passes_late g b (Out o.port o.out) i x h in omega arith))

    -- a port's known messages are its period apart
    pub known_apart : (port : ℕ) (p : PortTree) → numbered g.ports port ≡ Some p → (i j : ℕ) (x y : PortMessage) → slice_get (known_at r port) i ≡ Some x → slice_get (known_at r port) j ≡ Some y → i < j → x.time + period_of g p ≤ y.time
    known_apart port p there i j x y a b lt =
        (timing.serial g trace can s r is).spread port p there i j x y
        (timing.known_first g trace can s r is port (suc i) x a) (timing.known_first g trace can s r is port (suc j) y b) lt

    pub no_messages : (port : ℕ) → numbered g.ports port ≡ None → known_at r port ≡ []
    no_messages zero e = refl
    no_messages (suc k) e =
        ⊎_elim
        (λ (lt : k < length r.messages).
        let long = is.stands.long in
        let p = slice_get-get_or g.ports k (port_at g 0) (omega arith) in
        absurd (none-some (get_or g.ports k (port_at g 0)) (sym e ∙ p)))
        (λ (ge : length r.messages ≤ k). ap (λ (o : Option (List PortMessage)). unwrap_or o []) (slice_get_past r.messages k ge))
        (cases_lt k (length r.messages))

    port_comes : (port t : ℕ) → wait_from t (known_at r port) ≡ come_at t (known_at r port) ++ wait_from (suc t) (known_at r port)
    port_comes port t = by (numbered g.ports port) refl
      where
        by : (o : Option PortTree) → numbered g.ports port ≡ o → wait_from t (known_at r port) ≡ come_at t (known_at r port) ++ wait_from (suc t) (known_at r port)
        by None e = subst (λ (ms : List PortMessage). wait_from t ms ≡ come_at t ms ++ wait_from (suc t) ms) (sym (no_messages port e)) refl
        by (Some p) e = comes_first 0 t (known_at r port) (rise_apart 0 (period_of g p) (known_at r port) (known_apart port p e))

    port_one : (port t : ℕ) → length (come_at t (known_at r port)) ≤ 1
    port_one port t = by (numbered g.ports port) refl
      where
        by : (o : Option PortTree) → numbered g.ports port ≡ o → length (come_at t (known_at r port)) ≤ 1
        by None e = subst (λ (ms : List PortMessage). length (come_at t ms) ≤ 1) (sym (no_messages port e)) (omega arith)
        by (Some p) e = one_apart t (period_of g p) (known_at r port) (period_some g port p can.rates e) (known_apart port p e)

    output_comes : (n t : ℕ) → wait_from t (messages_to r.outputs n) ≡ come_at t (messages_to r.outputs n) ++ wait_from (suc t) (messages_to r.outputs n)
    output_comes n t =
        comes_first n t (messages_to r.outputs n)
        (known_rise g s r is.lines (lines_hold g can.well_formed can.rates trace can.keeps (order_of r.log) s is.stands.along) n)

    -- what waits is known, and handled or not it is in serial handling
    there : (port t k : ℕ) (m : PortMessage) → slice_get (wait_from t (known_at r port)) k ≡ Some m → IsThere s r port t m
    there port t k m h =
        let w = wait_there t (known_at r port) k m h in
        record { number = suc w.0; known = w.1; serial = timing.known_first g trace can s r is port (suc w.0) m w.1; late = w.2 }

    from : (port t k : ℕ) (p : PortTree) (m : PortMessage) → numbered g.ports port ≡ Some p → slice_get (wait_from t (known_at r port)) k ≡ Some m → ComesFrom g trace s p.feed m
    from port t k p m is_port h = by p.feed refl
      where
        place : (i : ℕ) × (slice_get (known_at r port) i ≡ Some m) × (t ≤ m.time)
        place = wait_there t (known_at r port) k m h

        by : (f : Feed) → p.feed ≡ f → ComesFrom g trace s f m
        by (Input i) fed = (place.0, subst (λ (ms : List PortMessage). slice_get ms place.0 ≡ Some m) (input_at port p i is_port fed) place.1)
        by (Out source out) fed = λ q at_q.
            let serial = timing.serial g trace can s r is in
            let of = serial.comes port p source out q is_port fed at_q place.0 m (timing.known_first g trace can s r is port (suc place.0) m place.1) in
            record { number = of.number; sender = of.message; handled = of.handled; there = of.there; passes = of.multiple; ends = of.ends }

    apart : (port k n : ℕ) (p : PortTree) (x m : PortMessage) → numbered g.ports port ≡ Some p → numbered (known_at r port) k ≡ Some x → numbered (known_at r port) n ≡ Some m → k < n → x.time + period_of g p ≤ m.time
    apart port k n p x m is_port a b lt =
        let first = timing.known_first g trace can s r is in
        timing.apart g trace can s r is port k n p x m is_port (first port k x a) (first port n m b) lt

-- where none comes before a later tick, the same wait from it on
later : (r : RunState) (due t : ℕ) → due ≤ t → NoneComesBefore r due t
    → ((port : ℕ) → wait_from t (known_at r port) ≡ wait_from due (known_at r port)) × ((n : ℕ) → wait_from t (messages_to r.outputs n) ≡ wait_from due (messages_to r.outputs n))
later r due t le none =
    ((λ port. same (known_at r port) (none.ports port)), (λ n. same (messages_to r.outputs n) (none.outputs n)))
  where
    same : (ms : List PortMessage) → AreFrom t (wait_from due ms) → wait_from t ms ≡ wait_from due ms
    same ms from = wait_same due t ms le (none_between due t ms from)

gap_some : (g : GraphTree) → All (IsWithinRates g) g.ports → (port out : ℕ) (p : PortTree) → numbered g.ports port ≡ Some p → 1 ≤ out → out ≤ length p.outs → 1 ≤ gap_of g p out
gap_some g rates zero out p there some most = absurd (none-some p there)
gap_some g rates (suc k) out p there some most =
    let e : get_or g.ports k p ≡ p = get_or_from_slice_get g.ports k p p there in
    (subst (IsWithinRates g) e (rates k p (slice_get_within g.ports k p there))).outs.gap out some most

old_come : (g : GraphTree) (trace : List Message) → CanRun g trace → (s : Serial) (r : RunState) → Interleaves g trace s r
    → (port n earlier last j : ℕ) (p : PortTree) (m first : PortMessage) (out : ℕ) → numbered g.ports port ≡ Some p
    → numbered (messages_at s port) n ≡ Some m → numbered (messages_at s port) earlier ≡ Some first → 1 ≤ out → out ≤ length p.outs
    → earlier % every_of p out ≡ 0 → last % every_of p out ≡ 0 → earlier < last → last < n → j < greatest_sends p out
    → first.time + period_of g p + j * gap_of g p out < m.time
old_come g trace can s r is port n earlier last j p m first out there at at_first some most pass pass_last lt lt2 few =
    let every = every_of p out in
    let period = period_of g p in
    let gap = gap_of g p out in
    let one = gap_some g can.rates port out p there some most in
    let next = next_multiple every earlier last pass pass_last lt in
    let far = numbered_far period (messages_at s port) ((timing.serial g trace can s r is).spread port p there) earlier n first m at_first at (omega arith) in
    let spans : (every + 1) * period ≤ (n - earlier) * period = mul-le (every + 1) period (n - earlier) period (omega arith) (omega arith) in
    let whole : (every + 1) * period ≡ every * period + period = omega arith in
    let div = mod-add-div (every * period) (greatest_sends p out) in
    let fit : greatest_sends p out * gap ≤ every * period = omega arith in
    let mine : (j + 1) * gap ≤ greatest_sends p out * gap = mul-le (j + 1) gap (greatest_sends p out) gap (omega arith) (omega arith) in
    let split : (j + 1) * gap ≡ j * gap + gap = omega arith in
    omega arith

pub messages_wait : MessagesWait
messages_wait = record {
  input = λ g trace can s r is port p i there feed. input_at g trace can s r is port p i there feed;
  there = λ g trace can s r is port t k m h. there g trace can s r is port t k m h;
  from = λ g trace can s r is port t k p m is_port h. from g trace can s r is port t k p m is_port h;
  apart = λ g trace can s r is port k n p x m is_port a b lt. apart g trace can s r is port k n p x m is_port a b lt;
  later = later;
  at_port = λ g trace can s r is b due le port p there. at_port g trace can s r is b due le port p there;
  at_output = λ g trace can s r is b due le n o there. at_output g trace can s r is b due le n o there;
  port_comes = λ g trace can s r is port t. port_comes g trace can s r is port t;
  port_one = λ g trace can s r is port t. port_one g trace can s r is port t;
  output_comes = λ g trace can s r is n t. output_comes g trace can s r is n t;
  old_come = λ g trace can s r is port n earlier last j p m first out there at at_first some most pass pass_last lt lt2 few. old_come g trace can s r is port n earlier last j p m first out there at at_first some most pass pass_last lt lt2 few;
}
