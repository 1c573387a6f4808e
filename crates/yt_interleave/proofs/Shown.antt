-- The lines of serial handling are those of the known messages and of those to be passed on; what was shown at the end is all of them, in order.
use Rattle.std.proofs.Common.{◌≡◌, ℕ, zero, suc, ◌+◌, ◌<◌, ◌≤◌, false, eqb, ltb, List, [], ◌∷◌, ◌++◌, length, map, slice_get, get_or, Option, None, Some, refl, sym, ap, subst, ◌∙◌, inl, inr, ⊎_elim, arith, append-nil, eq-eqb, ne_eqb, lt-ltb, le-ltb}
use Rattle.std.specs.Option.{option_map, unwrap_or}
use Rattle.std.proofs.lemmas.Bool.{cases_eq, cases_lt, cond-true, cond-false}
use Rattle.std.proofs.lemmas.List.{length-map}
use Rattle.std.proofs.lemmas.Option.{slice_get-get_or, slice_get_past, slice_get-map}
use Rattle.yt_graph.specs.declared.graph.Output.{Output}
use Rattle.yt_graph.specs.declared.port.Feed.TheVariants.{Out}
use Rattle.yt_graph.specs.Picture.{GraphTree}
use Rattle.yt_log.specs.declared.job.Job.{Job}
use Rattle.yt_order.specs.Sorting.{sort_by}
use Rattle.yt_log.specs.Tasks.{Has}
use Rattle.yt_rates.specs.Rates.{period_of}
use Rattle.yt_serial.specs.declared.shown.OutLine.{OutLine}
use Rattle.yt_trace.specs.declared.message.Message.{Message}
use Rattle.yt_serial.specs.PortMessages.{PortMessage}
use Rattle.yt_serial.specs.SerialHandling.{Serial, brought, shown, all_shown, start, handle_message}
use Rattle.yt_serial.specs.Told.{line_before}
use Rattle.yt_log.proofs.Lemmas.{has_append}
use Rattle.yt_serial.proofs.Lemmas.{lines_append, all_before, all_at, all_past, LinesHold, TimesRise, from_not, lines_has, sorted_is}
use Rattle.yt_interleave.specs.Interleaved.{ActiveJob, RunState, port_at, passes_of, put, to_come, added, output_feeds, first_state, with_begun, with_tick, with_end}
use Rattle.yt_serial.specs.Lines.{lines_of, AreInLineOrder}
use Rattle.yt_interleave.specs.Lines.{messages_to, KnowsLines, come_before, come_at, HasShown}
use Rattle.yt_interleave.proofs.Pieces.{added_twice, added_none, added_at, added-length, to_come_begun, to_come_ended, to_come_none}
use Rattle.yt_interleave.proofs.Timing.{passes_late}

shown-append : (n : ℕ) (xs ys : List PortMessage) → shown n (xs ++ ys) ≡ shown n xs ++ shown n ys
shown-append n [] ys = refl
shown-append n (m ∷ xs) ys = ap (λ (ls : List OutLine). (record { time = m.time; output = n; values = m.values }) ∷ ls) (shown-append n xs ys)

-- what a job brings to an output's feed is what the output shows of it
shown_added : (g : GraphTree) (task : ℕ) (passes : ℕ → List PortMessage) (ms : List (List PortMessage)) → length ms ≡ length g.outputs → (n : ℕ)
    → shown n (messages_to (added (brought task passes) (output_feeds g) ms) n) ≡ shown n (messages_to ms n) ++ lines_of n (all_shown task passes 1 g.outputs)
shown_added g task passes ms long zero = sym (all_before task passes 1 0 g.outputs (omega arith))
shown_added g task passes ms long (suc k) =
    let feeds = length-map g.outputs (λ (o : Output). Out o.port o.out) in
    let one : 1 + k ≡ suc k = omega arith in
    ⊎_elim
    (λ (lt : k < length g.outputs).
    some (get_or g.outputs k no_output) (slice_get-get_or g.outputs k no_output lt) feeds one)
    (λ (ge : length g.outputs ≤ k).
    let e1 : messages_to (added (brought task passes) (output_feeds g) ms) (suc k) ≡ [] =
    ap (λ (o : Option (List PortMessage)). unwrap_or o []) (slice_get_past (added (brought task passes) (output_feeds g) ms) k (let l = added-length (brought task passes) (output_feeds g) ms (long ∙ sym feeds) in omega arith)) in
    let e2 : messages_to ms (suc k) ≡ [] = ap (λ (o : Option (List PortMessage)). unwrap_or o []) (slice_get_past ms k (omega arith)) in
    ap (shown (suc k)) (e1 ∙ sym e2) ∙ sym (append-nil (shown (suc k) (messages_to ms (suc k))))
    ∙ ap (λ (ls : List OutLine). shown (suc k) (messages_to ms (suc k)) ++ ls) (sym (all_past task passes 1 (suc k) g.outputs (omega arith))))
    (cases_lt k (length g.outputs))
  where
    no_output : Output
    no_output = record { name = []; port = 0; out = 0 }

    some : (o : Output) → slice_get g.outputs k ≡ Some o → length (output_feeds g) ≡ length g.outputs → 1 + k ≡ suc k
        → shown (suc k) (messages_to (added (brought task passes) (output_feeds g) ms) (suc k)) ≡ shown (suc k) (messages_to ms (suc k)) ++ lines_of (suc k) (all_shown task passes 1 g.outputs)
    some o there feeds one =
        let f = Out o.port o.out in
        let feed : slice_get (output_feeds g) k ≡ Some f = slice_get-map (λ (o : Output). Out o.port o.out) g.outputs k ∙ ap (option_map (λ (o : Output). Out o.port o.out)) there in
        ap (shown (suc k)) (added_at (brought task passes) (output_feeds g) ms k f (long ∙ sym feeds) feed)
        ∙ shown-append (suc k) (messages_to ms (suc k)) (brought task passes f)
        ∙ ap (λ (ls : List OutLine). shown (suc k) (messages_to ms (suc k)) ++ ls)
        (sym (ap (λ (i : ℕ). lines_of i (all_shown task passes 1 g.outputs)) (sym one) ∙ all_at task passes 1 k g.outputs o there ∙ ap (λ (i : ℕ). shown i (brought task passes f)) one))

-- a job begins
pub knows_begun : (g : GraphTree) (s : Serial) (r : RunState) (job : Job) (m : PortMessage) → r.active job.task ≡ None → KnowsLines g s r → KnowsLines g (handle_message g job m s) (with_begun job m s.vars r)
knows_begun g s r job m idle knows =
    let b : ActiveJob = record { job = job; message = m; vars = s.vars } in
    let passes = passes_of g b in
    let feeds = length-map g.outputs (λ (o : Output). Out o.port o.out) in
    let before = added (to_come g r.active) (output_feeds g) r.outputs in
    let long : length before ≡ length g.outputs = added-length (to_come g r.active) (output_feeds g) r.outputs (knows.count ∙ sym feeds) ∙ feeds in
    record {
      count = knows.count;
      lines = λ n.
          lines_append n s.lines (all_shown job.task passes 1 g.outputs)
          ∙ ap (λ (ls : List OutLine). ls ++ lines_of n (all_shown job.task passes 1 g.outputs)) (knows.lines n)
          ∙ sym (shown_added g job.task passes before long n)
          ∙ ap (λ (xs : List (List PortMessage)). shown n (messages_to xs n))
          (added_twice (to_come g r.active) (brought job.task passes) (to_come g (put job.task (Some b) r.active)) (to_come_begun g r.active job.task b idle) (output_feeds g) r.outputs);
    }

-- a job has ended
pub knows_ended : (g : GraphTree) (s : Serial) (r : RunState) (b : ActiveJob) → r.active b.job.task ≡ Some b → KnowsLines g s r → KnowsLines g s (with_end g b r)
knows_ended g s r b at_task knows =
    let passes = passes_of g b in
    let feeds = length-map g.outputs (λ (o : Output). Out o.port o.out) in
    record {
      count = added-length (brought b.job.task passes) (output_feeds g) r.outputs (knows.count ∙ sym feeds) ∙ feeds;
      lines = λ n.
          knows.lines n
          ∙ ap (λ (xs : List (List PortMessage)). shown n (messages_to xs n))
          (sym (added_twice (brought b.job.task passes) (to_come g (put b.job.task None r.active)) (to_come g r.active) (to_come_ended g r.active b.job.task b at_task) (output_feeds g) r.outputs));
    }

pub knows_tick : (g : GraphTree) (s : Serial) (r : RunState) (b : ActiveJob) → KnowsLines g s r → KnowsLines g s (with_tick g b r)
knows_tick g s r b knows = record { count = knows.count; lines = knows.lines }

empties : {X : Type 0} (outputs : List X) (k : ℕ) → unwrap_or (slice_get (map (λ (o : X). let none : List PortMessage = [] in none) outputs) k) [] ≡ []
empties [] k = refl
empties (o ∷ outputs) zero = refl
empties (o ∷ outputs) (suc k) = empties outputs k

pub knows_first : (g : GraphTree) (trace : List Message) → KnowsLines g (start g trace) (first_state g trace)
knows_first g trace =
    let feeds = length-map g.outputs (λ (o : Output). Out o.port o.out) in
    let count : length (first_state g trace).outputs ≡ length g.outputs = length-map g.outputs (λ (o : Output). []) in
    record {
      count = count;
      lines = λ n.
          sym (ap (λ (xs : List (List PortMessage)). shown n (messages_to xs n)) (added_none (to_come g (λ port. None)) (to_come_none g (λ port. None) (λ port. refl)) (output_feeds g) (first_state g trace).outputs (count ∙ sym feeds))
          ∙ ap (shown n) (none_at n));
    }
  where
    none_at : (n : ℕ) → messages_to (first_state g trace).outputs n ≡ []
    none_at zero = refl
    none_at (suc k) = empties g.outputs k

-- messages that rise, of which those before a tick are shown
before_none : (n t : ℕ) (ms : List PortMessage) → ((l : OutLine) → Has (shown n ms) l → t ≤ l.time) → come_before t ms ≡ []
before_none n t [] late = refl
before_none n t (m ∷ ms) late =
    cond-false (ltb m.time t) (m ∷ come_before t ms) (come_before t ms) (le-ltb m.time t (late (record { time = m.time; output = n; values = m.values }) (inl refl)))
    ∙ before_none n t ms (λ l h. late l (inr h))

come_more : (n t : ℕ) (ms : List PortMessage) → TimesRise (shown n ms) → come_before t ms ++ come_at t ms ≡ come_before (suc t) ms
come_more n t [] rise = refl
come_more n t (m ∷ ms) rise =
    let rest = come_more n t ms rise.1 in
    ⊎_elim
    (λ (lt : m.time < t).
    ap (λ (xs : List PortMessage). xs ++ come_at t (m ∷ ms)) (cond-true (ltb m.time t) (m ∷ come_before t ms) (come_before t ms) (lt-ltb m.time t lt))
    ∙ ap (λ (xs : List PortMessage). m ∷ (come_before t ms ++ xs)) (cond-false (eqb m.time t) (m ∷ come_at t ms) (come_at t ms) (ne_eqb m.time t (λ e. absurd (omega arith))))
    ∙ ap (λ (xs : List PortMessage). m ∷ xs) rest
    ∙ sym (cond-true (ltb m.time (suc t)) (m ∷ come_before (suc t) ms) (come_before (suc t) ms) (lt-ltb m.time (suc t) (omega arith))))
    (λ (ge : t ≤ m.time).
    let skip : come_before t (m ∷ ms) ≡ come_before t ms = cond-false (ltb m.time t) (m ∷ come_before t ms) (come_before t ms) (le-ltb m.time t ge) in
    ⊎_elim
    (λ (e : m.time ≡ t).
    let none : come_before t ms ≡ [] = before_none n t ms (λ l h. let le = rise.0 l h in omega arith) in
    ap (λ (xs : List PortMessage). xs ++ come_at t (m ∷ ms)) (skip ∙ none)
    ∙ cond-true (eqb m.time t) (m ∷ come_at t ms) (come_at t ms) (eq-eqb m.time t e)
    ∙ ap (λ (xs : List PortMessage). m ∷ (xs ++ come_at t ms)) (sym none)
    ∙ ap (λ (xs : List PortMessage). m ∷ xs) rest
    ∙ sym (cond-true (ltb m.time (suc t)) (m ∷ come_before (suc t) ms) (come_before (suc t) ms) (lt-ltb m.time (suc t) (omega arith))))
    (λ (ne : m.time ≡ t → ⊥).
    ap (λ (xs : List PortMessage). xs ++ come_at t (m ∷ ms)) skip
    ∙ ap (λ (xs : List PortMessage). come_before t ms ++ xs) (cond-false (eqb m.time t) (m ∷ come_at t ms) (come_at t ms) (ne_eqb m.time t ne))
    ∙ rest
    ∙ sym (cond-false (ltb m.time (suc t)) (m ∷ come_before (suc t) ms) (come_before (suc t) ms) (le-ltb m.time (suc t) (omega arith))))
    (cases_eq m.time t))
    (cases_lt m.time t)

before_append : (t : ℕ) (xs ys : List PortMessage) → come_before t (xs ++ ys) ≡ come_before t xs ++ come_before t ys
before_append t [] ys = refl
before_append t (x ∷ xs) ys =
    ⊎_elim
    (λ (lt : x.time < t).
    cond-true (ltb x.time t) (x ∷ come_before t (xs ++ ys)) (come_before t (xs ++ ys)) (lt-ltb x.time t lt)
    ∙ ap (λ (zs : List PortMessage). x ∷ zs) (before_append t xs ys)
    ∙ sym (ap (λ (zs : List PortMessage). zs ++ come_before t ys) (cond-true (ltb x.time t) (x ∷ come_before t xs) (come_before t xs) (lt-ltb x.time t lt))))
    (λ (ge : t ≤ x.time).
    cond-false (ltb x.time t) (x ∷ come_before t (xs ++ ys)) (come_before t (xs ++ ys)) (le-ltb x.time t ge)
    ∙ before_append t xs ys
    ∙ sym (ap (λ (zs : List PortMessage). zs ++ come_before t ys) (cond-false (ltb x.time t) (x ∷ come_before t xs) (come_before t xs) (le-ltb x.time t ge))))
    (cases_lt x.time t)

-- late messages aren't among those that come before
pub before_late : (t : ℕ) (ms : List PortMessage) → ((k : ℕ) (x : PortMessage) → slice_get ms k ≡ Some x → t ≤ x.time) → come_before t ms ≡ []
before_late t [] late = refl
before_late t (m ∷ ms) late =
    cond-false (ltb m.time t) (m ∷ come_before t ms) (come_before t ms) (le-ltb m.time t (late 0 m refl))
    ∙ before_late t ms (λ k x h. late (suc k) x h)

pub before_all : (t : ℕ) (ms : List PortMessage) → ((k : ℕ) (x : PortMessage) → slice_get ms k ≡ Some x → x.time < t) → come_before t ms ≡ ms
before_all t [] early = refl
before_all t (m ∷ ms) early =
    cond-true (ltb m.time t) (m ∷ come_before t ms) (come_before t ms) (lt-ltb m.time t (early 0 m refl))
    ∙ ap (λ (xs : List PortMessage). m ∷ xs) (before_all t ms (λ k x h. early (suc k) x h))

rise_front : (xs ys : List OutLine) → TimesRise (xs ++ ys) → TimesRise xs
rise_front [] ys rise = tt
rise_front (x ∷ xs) ys rise = ((λ z h. rise.0 z (in_front xs ys z h)), rise_front xs ys rise.1)
  where
    in_front : (us vs : List OutLine) (z : OutLine) → Has us z → Has (us ++ vs) z
    in_front [] vs z h = absurd h
    in_front (u ∷ us) vs z h = ⊎_elim (λ (e : z ≡ u). inl e) (λ (k : Has us z). inr (in_front us vs z k)) h

-- the known messages of an output rise
pub known_rise : (g : GraphTree) (s : Serial) (r : RunState) → KnowsLines g s r → LinesHold g s → (n : ℕ) → TimesRise (shown n (messages_to r.outputs n))
known_rise g s r knows hold zero = tt
known_rise g s r knows hold (suc k) =
    ⊎_elim
    (λ (lt : k < length g.outputs).
    let o = get_or g.outputs k no_output in
    let there = slice_get-get_or g.outputs k no_output lt in
    let feeds = length-map g.outputs (λ (o : Output). Out o.port o.out) in
    let feed : slice_get (output_feeds g) k ≡ Some (Out o.port o.out) = slice_get-map (λ (o : Output). Out o.port o.out) g.outputs k ∙ ap (option_map (λ (o : Output). Out o.port o.out)) there in
    let whole : lines_of (suc k) s.lines ≡ shown (suc k) (messages_to r.outputs (suc k)) ++ shown (suc k) (to_come g r.active (Out o.port o.out)) =
    knows.lines (suc k) ∙ ap (shown (suc k)) (added_at (to_come g r.active) (output_feeds g) r.outputs k (Out o.port o.out) (knows.count ∙ sym feeds) feed)
    ∙ shown-append (suc k) (messages_to r.outputs (suc k)) (to_come g r.active (Out o.port o.out)) in
    rise_front (shown (suc k) (messages_to r.outputs (suc k))) (shown (suc k) (to_come g r.active (Out o.port o.out))) (subst TimesRise whole (hold.rise (suc k))))
    (λ (ge : length g.outputs ≤ k).
    let count = knows.count in
    let none : messages_to r.outputs (suc k) ≡ [] = ap (λ (o : Option (List PortMessage)). unwrap_or o []) (slice_get_past r.outputs k (omega arith)) in
    subst (λ (ms : List PortMessage). TimesRise (shown (suc k) ms)) (sym none) tt)
    (cases_lt k (length g.outputs))
  where
    no_output : Output
    no_output = record { name = []; port = 0; out = 0 }

order_append : (xs ys : List OutLine) → AreInLineOrder xs → AreInLineOrder ys → ((x y : OutLine) → Has xs x → Has ys y → line_before y x ≡ false) → AreInLineOrder (xs ++ ys)
order_append [] ys p q cross = q
order_append (x ∷ xs) ys p q cross =
    ((λ z h. ⊎_elim (λ (k : Has xs z). p.0 z k) (λ (k : Has ys z). cross x z (inl refl) k) (has_append xs ys z h)), order_append xs ys p.1 q (λ a b i j. cross a b (inr i) j))

pub has_before : (n t : ℕ) (ms : List PortMessage) (l : OutLine) → Has (shown n (come_before t ms)) l → l.time < t
has_before n t [] l h = absurd h
has_before n t (m ∷ ms) l h =
    ⊎_elim
    (λ (lt : m.time < t).
    ⊎_elim
    (λ (e : l ≡ (record { time = m.time; output = n; values = m.values })). let k = ap (λ (x : OutLine). x.time) e in omega arith)
    (λ (k : Has (shown n (come_before t ms)) l). has_before n t ms l k)
    (subst (λ (xs : List PortMessage). Has (shown n xs) l) (cond-true (ltb m.time t) (m ∷ come_before t ms) (come_before t ms) (lt-ltb m.time t lt)) h))
    (λ (ge : t ≤ m.time).
    has_before n t ms l (subst (λ (xs : List PortMessage). Has (shown n xs) l) (cond-false (ltb m.time t) (m ∷ come_before t ms) (come_before t ms) (le-ltb m.time t ge)) h))
    (cases_lt m.time t)

-- what comes at a tick is shown
pub shows : (g : GraphTree) (s : Serial) (r : RunState) → KnowsLines g s r → LinesHold g s → (t : ℕ) (lines new : List OutLine) → HasShown r t lines
    → AreInLineOrder new → ((l : OutLine) → Has new l → l.time ≡ t) → ((n : ℕ) → lines_of n new ≡ shown n (come_at t (messages_to r.outputs n)))
    → HasShown r (suc t) (lines ++ new)
shows g s r knows hold t lines new has order times each = record {
  order = order_append lines new has.order order (λ x y i j.
      let early = has_before x.output t (messages_to r.outputs x.output) x (subst (λ (ls : List OutLine). Has ls x) (has.each x.output) (lines_has x.output lines x i refl)) in
      let late = times y j in
      from_not y x (inl (omega arith)));
  each = λ n.
      lines_append n lines new
      ∙ ap (λ (ls : List OutLine). ls ++ lines_of n new) (has.each n)
      ∙ ap (λ (ls : List OutLine). shown n (come_before t (messages_to r.outputs n)) ++ ls) (each n)
      ∙ sym (shown-append n (come_before t (messages_to r.outputs n)) (come_at t (messages_to r.outputs n)))
      ∙ ap (shown n) (come_more n t (messages_to r.outputs n) (known_rise g s r knows hold n));
}

-- what an ended job passes on comes later
pub still_shown : (g : GraphTree) (r : RunState) → length r.outputs ≡ length g.outputs → (b : ActiveJob) (t : ℕ) (lines : List OutLine) → t ≤ b.message.time + period_of g (port_at g b.job.task) → HasShown r t lines → HasShown (with_end g b r) t lines
still_shown g r count b t lines deadline has = record { order = has.order; each = λ n. has.each n ∙ ap (shown n) (sym (same n)) }
  where
    no_output : Output
    no_output = record { name = []; port = 0; out = 0 }

    same : (n : ℕ) → come_before t (messages_to (added (brought b.job.task (passes_of g b)) (output_feeds g) r.outputs) n) ≡ come_before t (messages_to r.outputs n)
    same zero = refl
    same (suc k) =
        let feeds = length-map g.outputs (λ (o : Output). Out o.port o.out) in
        ⊎_elim
        (λ (lt : k < length g.outputs).
        let o = get_or g.outputs k no_output in
        let f = Out o.port o.out in
        let feed : slice_get (output_feeds g) k ≡ Some f = slice_get-map (λ (o : Output). Out o.port o.out) g.outputs k ∙ ap (option_map (λ (o : Output). Out o.port o.out)) (slice_get-get_or g.outputs k no_output lt) in
        ap (come_before t) (added_at (brought b.job.task (passes_of g b)) (output_feeds g) r.outputs k f (count ∙ sym feeds) feed)
        ∙ before_append t (messages_to r.outputs (suc k)) (brought b.job.task (passes_of g b) f)
        ∙ ap (λ (xs : List PortMessage). come_before t (messages_to r.outputs (suc k)) ++ xs)
        (before_late t (brought b.job.task (passes_of g b) f) (λ i x h. let late = passes_late g b f i x h in omega arith))
        ∙ append-nil (come_before t (messages_to r.outputs (suc k))))
        (λ (ge : length g.outputs ≤ k).
        let e1 : messages_to (added (brought b.job.task (passes_of g b)) (output_feeds g) r.outputs) (suc k) ≡ [] =
        ap (λ (o : Option (List PortMessage)). unwrap_or o []) (slice_get_past (added (brought b.job.task (passes_of g b)) (output_feeds g) r.outputs) k (let l = added-length (brought b.job.task (passes_of g b)) (output_feeds g) r.outputs (count ∙ sym feeds) in omega arith)) in
        let e2 : messages_to r.outputs (suc k) ≡ [] = ap (λ (o : Option (List PortMessage)). unwrap_or o []) (slice_get_past r.outputs k (omega arith)) in
        ap (come_before t) (e1 ∙ sym e2))
        (cases_lt k (length g.outputs))

-- at the end the lines that were shown are those of serial handling, in order
pub all_are_shown : (g : GraphTree) (s : Serial) (r : RunState) → KnowsLines g s r → LinesHold g s → ((port : ℕ) → r.active port ≡ None) → (t : ℕ) (lines : List OutLine) → HasShown r t lines
    → ((n k : ℕ) (x : PortMessage) → slice_get (messages_to r.outputs n) k ≡ Some x → x.time < t) → lines ≡ sort_by line_before s.lines
all_are_shown g s r knows hold none t lines has early =
    let feeds = length-map g.outputs (λ (o : Output). Out o.port o.out) in
    let same : added (to_come g r.active) (output_feeds g) r.outputs ≡ r.outputs = added_none (to_come g r.active) (to_come_none g r.active none) (output_feeds g) r.outputs (knows.count ∙ sym feeds) in
    sorted_is lines s.lines has.order hold.rise
    (λ n.
    has.each n ∙ ap (shown n) (before_all t (messages_to r.outputs n) (early n))
    ∙ sym (knows.lines n ∙ ap (λ (xs : List (List PortMessage)). shown n (messages_to xs n)) same))
