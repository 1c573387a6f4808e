-- How many messages a run may come to.
use Rattle.std.proofs.Common.{◌≡◌, ℕ, zero, suc, ◌+◌, ◌-◌, ◌*◌, ◌/◌, ◌%◌, ◌<◌, ◌≤◌, List, [], ◌∷◌, ◌++◌, length, slice_get, get_or, Option, None, Some, All, refl, sym, ap, subst, ◌∙◌, ⊎_elim, arith}
use Rattle.std.specs.Prelude.{IsSomeAnd}
use Rattle.std.specs.Option.{option_map, unwrap_or}
use Rattle.std.proofs.lemmas.Bool.{cases_eq, cases_lt}
use Rattle.std.proofs.lemmas.List.{length-append, map_push}
use Rattle.std.proofs.lemmas.Nat.{mul-le}
use Rattle.std.proofs.lemmas.Option.{none-some, same_Some, option_and_then_some, slice_get_within, get_or_from_slice_get, slice_get-map}
use Rattle.std.proofs.Math.Nat.{mod-add-div}
use Rattle.yt_graph.specs.declared.graph.Output.{Output}
use Rattle.yt_graph.specs.declared.port.Feed as feed
use Rattle.yt_graph.specs.declared.port.Feed.{Feed}
use Rattle.yt_graph.specs.declared.port.Feed.TheVariants.{Input, Out}
use Rattle.yt_graph.specs.declared.port.OutHead.{OutHead}
use Rattle.yt_graph.specs.Cost.{greatest_sends, sent_on}
use Rattle.yt_graph.specs.Meaning.{Handling, handling}
use Rattle.yt_graph.specs.Picture.{GraphTree, PortTree}
use Rattle.yt_graph.specs.WellFormed.{EndsWithin, IsFineOut, IsFinePort, IsWellFormed}
use Rattle.yt_graph.proofs.Lemmas.{sends_within}
use Rattle.yt_log.specs.declared.job.Job.{Job}
use Rattle.yt_log.specs.Plan.{jobs_of}
use Rattle.yt_log.proofs.Lemmas.{jobs_none, jobs_push_same, jobs_push_other}
use Rattle.yt_rates.specs.Rates.{every_of, period_of, gap_of}
use Rattle.yt_trace.specs.declared.message.Message.{Message}
use Rattle.yt_serial.specs.PortMessages.{passed}
use Rattle.yt_trace.specs.Traces.{PortMessage, messages_of}
use Rattle.yt_serial.proofs.Sends.{spaced-length}
use Rattle.yt_list.proofs.Lemmas.{numbered_there}
use Rattle.yt_list.specs.Numbered.{numbered}
use Rattle.yt_serial.specs.SerialHandling.{Handled, Serial, messages_at, items_of, handled_of, from_outside, brought, placed, shown, all_shown, start, port_of, handle_message, message_of, serial_step, serial_run}
use Rattle.yt_graph.specs.Labels.{no_port}
use Rattle.yt_serial.proofs.SerialInvariant.{Holds}
use Rattle.yt_serial.proofs.SerialStates.{placed_at, BringsOf, brings, message_there}
use Rattle.yt_serial.proofs.SerialRuns.{stepped, holds_stepped, serial_holds, inputs_stay}
use Rattle.yt_serial.proofs.SerialLines.{lines_append, all_at}
use Rattle.yt_serial.specs.Bounds.{greatest_passed, most_messages_within, most_messages, MessagesAreBounded}
use Rattle.yt_serial.specs.Premises.{CanRun}
use Rattle.yt_serial.specs.Lines.{lines_of}
use Rattle.yt_serial.proofs.Spread.{numbered_within}

pub div_le : (a b e : ℕ) → 1 ≤ e → a ≤ b → a / e ≤ b / e
div_le a b e some le =
    let p = mod-add-div a e in
    let q = mod-add-div b e in
    ⊎_elim
    (λ (l : b / e < a / e).
    let h : e * suc (b / e) ≤ e * (a / e) = mul-le e (suc (b / e)) e (a / e) (omega arith) (omega arith) in
    absurd (omega arith))
    (λ (l : a / e ≤ b / e). l)
    (cases_lt (b / e) (a / e))

-- at a multiple the quotient rises
div_rises : (h e : ℕ) → 1 ≤ e → suc h % e ≡ 0 → h / e + 1 ≤ suc h / e
div_rises h e some multiple =
    let p = mod-add-div (suc h) e in
    let q = mod-add-div h e in
    ⊎_elim
    (λ (l : h / e < suc h / e). omega arith)
    (λ (l : suc h / e ≤ h / e).
    let m : e * (suc h / e) ≤ e * (h / e) = mul-le e (suc h / e) e (h / e) (omega arith) l in
    absurd (omega arith))
    (cases_lt (h / e) (suc h / e))

-- the `every` of an out is positive
pub every_some : (g : GraphTree) → IsWellFormed g → (port out : ℕ) (q : PortTree) → numbered g.ports port ≡ Some q → 1 ≤ every_of q out
every_some g well zero out q there = absurd (none-some q there)
every_some g well (suc k) out q there =
    let e : get_or g.ports k q ≡ q = get_or_from_slice_get g.ports k q q there in
    let fine : IsFinePort g q = subst (IsFinePort g) e (well.each_port k q (slice_get_within g.ports k q there)) in
    by (numbered q.outs out) refl fine.8
  where
    by : (o : Option OutHead) → numbered q.outs out ≡ o → All IsFineOut q.outs → 1 ≤ unwrap_or (option_map (λ (h : OutHead). h.every) (numbered q.outs out)) 1
    by None e fine = subst (λ (o : Option OutHead). 1 ≤ unwrap_or (option_map (λ (h : OutHead). h.every) o) 1) (sym e) (omega arith)
    by (Some h) e fine =
        let there = (numbered_there q.outs out h e).1 in
        let same : get_or q.outs (out - 1) h ≡ h = get_or_from_slice_get q.outs (out - 1) h h there in
        let f : IsFineOut h = subst IsFineOut same (fine (out - 1) h (slice_get_within q.outs (out - 1) h there)) in
        subst (λ (o : Option OutHead). 1 ≤ unwrap_or (option_map (λ (h : OutHead). h.every) o) 1) (sym e) f.2.0

shown-length : (n : ℕ) (ms : List PortMessage) → length (shown n ms) ≡ length ms
shown-length n [] = refl
shown-length n (m ∷ ms) = ap suc (shown-length n ms)

-- what serial handling adds shortens no port's messages
messages_grow : (adds : Feed → List PortMessage) (ports : List PortTree) (messages : List (List PortMessage)) (k : ℕ) → length messages ≡ length ports
    → length (unwrap_or (slice_get messages k) []) ≤ length (unwrap_or (slice_get (placed adds ports messages) k) [])
messages_grow adds [] [] k long = omega arith
messages_grow adds [] (before ∷ messages) k long = absurd (omega arith)
messages_grow adds (p ∷ ports) [] k long = absurd (omega arith)
messages_grow adds (p ∷ ports) (before ∷ messages) zero long = let l = length-append before (adds p.feed) in omega arith
messages_grow adds (p ∷ ports) (before ∷ messages) (suc k) long = messages_grow adds ports messages k (omega arith)

-- no port has handled more messages than it has, and no more messages came than their source has passed on
pub record IsBounded (g : GraphTree) (s : Serial) : Type 0 where
  pub handled : (port : ℕ) → handled_of s port ≤ length (messages_at s port)
  pub ports : (k : ℕ) (p : PortTree) (from out : ℕ) (q : PortTree) → slice_get g.ports k ≡ Some p → p.feed ≡ Out from out → numbered g.ports from ≡ Some q →
      length (messages_at s (suc k)) ≤ greatest_passed q out (handled_of s from)
  pub outputs : (k : ℕ) (o : Output) (q : PortTree) → slice_get g.outputs k ≡ Some o → numbered g.ports o.port ≡ Some q →
      length (lines_of (suc k) s.lines) ≤ greatest_passed q o.out (handled_of s o.port)

module _ (g : GraphTree) (trace : List Message) (can : CanRun g trace) where
  module _ (job : Job) (s : Serial) (holds : Holds g s) (m : PortMessage) (next : message_of job s ≡ Some m) (bounded : IsBounded g s) where
    abbrev h : Handling
    h = handling g (port_of g job) m.values s.vars

    abbrev passes : ℕ → List PortMessage
    passes = passed g (port_of g job) job.number m.time h.sends

    abbrev t : Serial
    t = handle_message g job m s

    items_after : items_of (handle_message g job m s) ≡ items_of s ++ (record { job = job; arrival = m.time; cost = (handling g (port_of g job) m.values s.vars).ticks }) ∷ []
    items_after =
        map_push (λ (h : Handled). h.item) s.handled
        (record { item = record { job = job; arrival = m.time; cost = (handling g (port_of g job) m.values s.vars).ticks }; writes = (handling g (port_of g job) m.values s.vars).writes })

    handled_same : (port : ℕ) → job.task ≡ port → handled_of (handle_message g job m s) port ≡ suc (handled_of s port)
    handled_same port e = ap (jobs_of port) items_after ∙ jobs_push_same port (items_of s) (record { job = job; arrival = m.time; cost = h.ticks }) e

    handled_grows : (port : ℕ) → handled_of s port ≤ handled_of (handle_message g job m s) port
    handled_grows port =
        ⊎_elim
        (λ (e : job.task ≡ port). let a = handled_same port e in omega arith)
        (λ (ne : job.task ≡ port → ⊥). let a = ap (jobs_of port) items_after ∙ jobs_push_other port (items_of s) (record { job = job; arrival = m.time; cost = h.ticks }) ne in omega arith)
        (cases_eq job.task port)

    -- what a feed gets of the job fits
    feed_fits : (from out : ℕ) (q : PortTree) → numbered g.ports from ≡ Some q → (old : ℕ) → old ≤ greatest_passed q out (handled_of s from)
        → old + length (brought job.task passes (Out from out)) ≤ greatest_passed q out (handled_of (handle_message g job m s) from)
    feed_fits from out q at_q old le =
        let every = every_of q out in
        let k = greatest_sends q out in
        let some = every_some g can.well_formed from out q at_q in
        let grows = handled_grows from in
        let more = div_le (handled_of s from) (handled_of (handle_message g job m s) from) every some grows in
        ⊎_elim
        (λ (e : brought job.task passes (Out from out) ≡ []).
        let none : length (brought job.task passes (Out from out)) ≡ 0 = ap length e in
        let mono : handled_of s from / every * k ≤ handled_of (handle_message g job m s) from / every * k = mul-le (handled_of s from / every) k (handled_of (handle_message g job m s) from / every) k more (omega arith) in
        omega arith)
        (λ (b : BringsOf g (port_of g job) job.task job.number m.time h.sends (Out from out) (brought job.task passes (Out from out))).
        let fed : Out from out ≡ Out job.task b.out = b.fed in
        let task : from ≡ job.task = cc in
        let outs : out ≡ b.out = cc in
        let port : port_of g job ≡ q = ap (λ (x : ℕ). unwrap_or (numbered g.ports x) no_port) (sym task) ∙ ap (λ (o : Option PortTree). unwrap_or o no_port) at_q in
        let count = handled_same from (sym task) in
        let number = (message_there job s m next).0 in
        let same_count : handled_of s job.task ≡ handled_of s from = ap (handled_of s) (sym task) in
        let multiple : suc (handled_of s from) % every ≡ 0 =
        ap (λ (x : ℕ). x % every) (omega arith) ∙ ap (λ (x : PortTree). job.number % every_of x out) (sym port) ∙ ap (λ (x : ℕ). job.number % every_of (port_of g job) x) outs ∙ b.multiple in
        let rises = div_rises (handled_of s from) every some multiple in
        let long : length (brought job.task passes (Out from out)) ≡ sent_on b.out h.sends = ap length b.spaced ∙ spaced-length b.out (m.time + period_of g (port_of g job)) (gap_of g (port_of g job) b.out) h.sends in
        let most = sends_within g (port_of g job) b.out m.values s.vars in
        let same_most : greatest_sends (port_of g job) b.out ≡ k = ap (λ (x : PortTree). greatest_sends x b.out) port ∙ ap (greatest_sends q) (sym outs) in
        let after : suc (handled_of s from) / every ≡ handled_of (handle_message g job m s) from / every = ap (λ (x : ℕ). x / every) (sym count) in
        let mono : (handled_of s from / every + 1) * k ≤ handled_of (handle_message g job m s) from / every * k = mul-le (handled_of s from / every + 1) k (handled_of (handle_message g job m s) from / every) k (omega arith) (omega arith) in
        let split : (handled_of s from / every + 1) * k ≡ handled_of s from / every * k + k = omega arith in
        omega arith)
        (brings g (port_of g job) job.task job.number m.time h.sends (Out from out))

    messages_stay : (port : ℕ) → length (messages_at s port) ≤ length (messages_at (handle_message g job m s) port)
    messages_stay zero = omega arith
    messages_stay (suc k) = messages_grow (brought job.task passes) g.ports s.messages k holds.long

    handled_after : (port : ℕ) → handled_of (handle_message g job m s) port ≤ length (messages_at (handle_message g job m s) port)
    handled_after port =
        let more = messages_stay port in
        let before = bounded.handled port in
        ⊎_elim
        (λ (e : job.task ≡ port).
        let count = handled_same port e in
        let there = message_there job s m next in
        let within = (numbered_within (messages_at s job.task) job.number m there.1).1 in
        let same : length (messages_at s job.task) ≡ length (messages_at s port) = ap (λ (n : ℕ). length (messages_at s n)) e in
        let all : handled_of s job.task ≡ handled_of s port = ap (handled_of s) e in
        let number = there.0 in
        omega arith)
        (λ (ne : job.task ≡ port → ⊥).
        let count = ap (jobs_of port) items_after ∙ jobs_push_other port (items_of s) (record { job = job; arrival = m.time; cost = h.ticks }) ne in
        omega arith)
        (cases_eq job.task port)

    bounded_after : IsBounded g (handle_message g job m s)
    bounded_after = record {
      handled = handled_after;
      ports = λ k p from out q is fed at_q.
          let new = brought job.task passes p.feed in
          let here : messages_at (handle_message g job m s) (suc k) ≡ messages_at s (suc k) ++ new = placed_at (brought job.task passes) g.ports s.messages k p holds.long is in
          let long : length (messages_at (handle_message g job m s) (suc k)) ≡ length (messages_at s (suc k)) + length new = ap length here ∙ length-append (messages_at s (suc k)) new in
          let same : length new ≡ length (brought job.task passes (Out from out)) = ap (λ (f : Feed). length (brought job.task passes f)) fed in
          let fits = feed_fits from out q at_q (length (messages_at s (suc k))) (bounded.ports k p from out q is fed at_q) in
          omega arith;
      outputs = λ k o q is at_q.
          let new = brought job.task passes (Out o.port o.out) in
          let one : 1 + k ≡ suc k = omega arith in
          let added : lines_of (suc k) (all_shown job.task passes 1 g.outputs) ≡ shown (suc k) new =
          ap (λ (i : ℕ). lines_of i (all_shown job.task passes 1 g.outputs)) (sym one) ∙ all_at job.task passes 1 k g.outputs o is ∙ ap (λ (i : ℕ). shown i new) one in
          let here : length (lines_of (suc k) (handle_message g job m s).lines) ≡ length (lines_of (suc k) s.lines) + length new =
          ap length (lines_append (suc k) s.lines (all_shown job.task passes 1 g.outputs))
          ∙ length-append (lines_of (suc k) s.lines) (lines_of (suc k) (all_shown job.task passes 1 g.outputs))
          ∙ ap (λ (x : ℕ). length (lines_of (suc k) s.lines) + x) (ap length added ∙ shown-length (suc k) new) in
          let fits = feed_fits o.port o.out q at_q (length (lines_of (suc k) s.lines)) (bounded.outputs k o q is at_q) in
          omega arith;
    }

  bounded_along : (order : List Job) (s t : Serial) → Holds g s → IsBounded g s → serial_run g order s ≡ Some t → IsBounded g t
  bounded_along [] s t holds bounded along = subst (IsBounded g) (same_Some s t along) bounded
  bounded_along (job ∷ order) s t holds bounded along =
      option_and_then_some {P = IsBounded g t} (serial_run g order) (serial_step g job s) t along
      (λ x step rest.
      let k = stepped g job s x step in
      bounded_along order x t (holds_stepped g can.well_formed can.rates job s x holds step)
      (subst (IsBounded g) k.2 (bounded_after job s holds k.0 k.1 bounded)) rest)

  module _ (order : List Job) (s : Serial) (along : serial_run g order (start g trace) ≡ Some s) where
    first_holds : Holds g (start g trace)
    first_holds = serial_holds g can.well_formed can.rates trace can.keeps [] (start g trace) refl

    holds : Holds g s
    holds = serial_holds g can.well_formed can.rates trace can.keeps order s along

    first_at : (k : ℕ) (p : PortTree) → slice_get g.ports k ≡ Some p → messages_at (start g trace) (suc k) ≡ from_outside trace p.feed
    first_at k p is =
        ap (λ (o : Option (List PortMessage)). unwrap_or o []) (slice_get-map (λ (p : PortTree). from_outside trace p.feed) g.ports k ∙ ap (option_map (λ (p : PortTree). from_outside trace p.feed)) is)

    first_bounded : IsBounded g (start g trace)
    first_bounded = record {
      handled = λ port. let none = jobs_none port in omega arith;
      ports = λ k p from out q is fed at_q.
          let none : length (messages_at (start g trace) (suc k)) ≡ 0 = ap length (first_at k p is ∙ ap (from_outside trace) fed) in
          omega arith;
      outputs = λ k o q is at_q. omega arith;
    }

    bounded : IsBounded g s
    bounded = bounded_along order (start g trace) s first_holds first_bounded along

    handled_le : (port : ℕ) → handled_of s port ≤ length (messages_at s port)
    handled_le = bounded.handled

    passed_more : (from out : ℕ) (q : PortTree) → numbered g.ports from ≡ Some q → (a b : ℕ) → a ≤ b → greatest_passed q out a ≤ greatest_passed q out b
    passed_more from out q at_q a b le =
        let more = div_le a b (every_of q out) (every_some g can.well_formed from out q at_q) le in
        mul-le (a / every_of q out) (greatest_sends q out) (b / every_of q out) (greatest_sends q out) more (omega arith)

    -- by what the port's source has
    by_source : (n k : ℕ) (p : PortTree) (from out : ℕ) → slice_get g.ports k ≡ Some p → p.feed ≡ Out from out → (a : ℕ) → from ≡ suc a → (o : Option PortTree) → slice_get g.ports a ≡ o
        → IsSomeAnd o (λ q. EndsWithin g n q.feed) → ((q : PortTree) → numbered g.ports from ≡ Some q → EndsWithin g n q.feed → length (messages_at s from) ≤ most_messages_within g trace n q.feed)
        → length (messages_at s (suc k)) ≤ most_messages_within g trace (suc n) (Out from out)
    by_source n k p from out there fed a is None e ends source = absurd ends
    by_source n k p from out there fed a is (Some q) e ends source =
        let at_q : numbered g.ports from ≡ Some q = ap (numbered g.ports) is ∙ e in
        let here : most_messages_within g trace (suc n) (Out from out) ≡ greatest_passed q out (most_messages_within g trace n q.feed) =
        ap (λ (o : Option PortTree). unwrap_or (option_map (λ (p : PortTree). greatest_passed p out (most_messages_within g trace n p.feed)) o) 0) at_q in
        let most = source q at_q ends in
        let count = handled_le from in
        let mine = bounded.ports k p from out q there fed at_q in
        let more = passed_more from out q at_q (handled_of s from) (most_messages_within g trace n q.feed) (omega arith) in
        omega arith

    -- a port has no more messages than its chain of sources allows
    most_le : (n port : ℕ) (p : PortTree) (f : Feed) → numbered g.ports port ≡ Some p → p.feed ≡ f → EndsWithin g n f → length (messages_at s port) ≤ most_messages_within g trace n f
    most_le n zero p f there fed ends = absurd (none-some p there)
    most_le n (suc k) p (feed.TheVariants.Input i) there fed ends =
        let e : messages_at s (suc k) ≡ messages_of i trace = inputs_stay g trace can order (start g trace) s first_holds along k p i there fed ∙ first_at k p there ∙ ap (from_outside trace) fed in
        let l = ap length e in
        omega arith
    most_le zero (suc k) p (feed.TheVariants.Out from out) there fed ends = absurd ends
    most_le (suc n) (suc k) p (feed.TheVariants.Out from out) there fed ends =
        by_source n k p from out there fed ends.0 ends.1 (slice_get g.ports ends.0) refl ends.2 (λ q at_q e. most_le n from q q.feed at_q refl e)

    port_most : (port : ℕ) (p : PortTree) → numbered g.ports port ≡ Some p → length (messages_at s port) ≤ most_messages g trace p
    port_most zero p there = absurd (none-some p there)
    port_most (suc k) p there =
        let e : get_or g.ports k p ≡ p = get_or_from_slice_get g.ports k p p there in
        let fine : IsFinePort g p = subst (IsFinePort g) e (can.well_formed.each_port k p (slice_get_within g.ports k p there)) in
        most_le (length g.ports) (suc k) p p.feed there refl fine.3

    output_most : (n : ℕ) (o : Output) (p : PortTree) → numbered g.outputs n ≡ Some o → numbered g.ports o.port ≡ Some p → length (lines_of n s.lines) ≤ greatest_passed p o.out (most_messages g trace p)
    output_most zero o p there at_p = absurd (none-some o there)
    output_most (suc k) o p there at_p =
        let mine = bounded.outputs k o p there at_p in
        let count = handled_le o.port in
        let most = port_most o.port p at_p in
        let more = passed_more o.port o.out p at_p (handled_of s o.port) (most_messages g trace p) (omega arith) in
        omega arith

pub messages_are_bounded : MessagesAreBounded
messages_are_bounded = record {
  ports = λ g trace order s is port p there. (handled_le g trace is.can order s is.along port, port_most g trace is.can order s is.along port p there);
  outputs = λ g trace order s is n o p there at_p. output_most g trace is.can order s is.along n o p there at_p;
}
