-- When the messages and the lines of serial handling come.
use Rattle.std.proofs.Common.{◌≡◌, ℕ, zero, suc, ◌+◌, ◌-◌, ◌*◌, ◌%◌, ◌≤◌, ℤ, true, false, cond, eqb, List, [], ◌∷◌, ◌++◌, length, slice_get, Option, None, Some, refl, sym, ap, subst, ◌∙◌, inl, inr, ⊎_elim, arith, eqb-true}
use Rattle.std.specs.Option.{option_map, unwrap_or}
use Rattle.std.proofs.lemmas.Bool.{cases_Bool, cond-true, cond-false}
use Rattle.std.proofs.lemmas.List.{length-map}
use Rattle.std.proofs.lemmas.Nat.{mul-le}
use Rattle.std.proofs.lemmas.Option.{none-some, same_Some, option_and_then_some, slice_get-map}
use Rattle.yt_graph.specs.declared.graph.Output.{Output}
use Rattle.yt_graph.specs.declared.handled.SendItem.{SendItem}
use Rattle.yt_graph.specs.declared.port.Feed.{Feed}
use Rattle.yt_graph.specs.declared.port.Feed.TheVariants.{Input, Out}
use Rattle.yt_graph.specs.Cost.{greatest_sends, sent_on}
use Rattle.yt_graph.specs.Labels.{no_port}
use Rattle.yt_graph.specs.Meaning.{handling}
use Rattle.yt_graph.specs.Picture.{GraphTree, PortTree}
use Rattle.yt_graph.specs.Sends.{messages_on}
use Rattle.yt_graph.proofs.Lemmas.{sends_within}
use Rattle.yt_list.specs.Numbered.{numbered}
use Rattle.yt_log.specs.declared.job.Job.{Job}
use Rattle.yt_log.specs.Tasks.{Has}
use Rattle.yt_log.proofs.Lemmas.{has_all, has_append}
use Rattle.yt_rates.specs.Rates.{every_of, period_of, start_of, gap_of, reach_of}
use Rattle.yt_rates.proofs.Lemmas.{source}
use Rattle.yt_serial.specs.declared.shown.OutLine.{OutLine}
use Rattle.yt_trace.specs.declared.message.Message.{Message}
use Rattle.yt_trace.specs.Limits.{most_time}
use Rattle.yt_order.specs.Gaps.{at_gaps}
use Rattle.yt_serial.specs.PortMessages.{PortMessage, arriving, messages_of, spaced, passed}
use Rattle.yt_serial.specs.Premises.{CanRun}
use Rattle.yt_serial.specs.SerialHandling.{Serial, messages_at, handled_of, from_outside, start, brought, shown, all_shown, port_of, handle_message, message_of, serial_step, serial_run}
use Rattle.yt_trace.specs.Traces.{IsMessageOf}
use Rattle.yt_serial.proofs.Lemmas.{feed_cases, messages_on-length, placed-length, placed_at, port_there, stepped}

-- a message leaves its gap before the end of the gaps of all that were sent
gaps_by : (time gap : ℕ) (sent : List (List ℤ)) (x : PortMessage) → Has (at_gaps arriving time gap sent) x → x.time + gap ≤ time + length sent * gap
gaps_by time gap [] x h = absurd h
gaps_by time gap (values ∷ sent) x h =
    ⊎_elim
    (λ (q : x ≡ arriving time values). let t : x.time ≡ time = ap (λ (m : PortMessage). m.time) q in omega arith)
    (λ (k : Has (at_gaps arriving (time + gap) gap sent) x). let r = gaps_by (time + gap) gap sent x k in omega arith)
    h

all_but_one : (n gap : ℕ) → n * gap ≤ (n - 1) * gap + gap
all_but_one zero gap = omega arith
all_but_one (suc k) gap = let e : (suc k - 1) * gap ≡ k * gap = ap (λ (m : ℕ). m * gap) (omega arith) in omega arith

-- what a feed brings of a job is what an out of its port passes on
pub brought_from : (task : ℕ) (passes : ℕ → List PortMessage) (from out : ℕ) (x : PortMessage) → Has (brought task passes (Out from out)) x → (from ≡ task) × Has (passes out) x
brought_from task passes from out x h =
    ⊎_elim
    (λ (e : eqb from task ≡ true). (eqb-true from task e, subst (λ (ms : List PortMessage). Has ms x) (cond-true (eqb from task) (passes out) [] e) h))
    (λ (e : eqb from task ≡ false). absurd (subst (λ (ms : List PortMessage). Has ms x) (cond-false (eqb from task) (passes out) [] e) h))
    (cases_Bool (eqb from task))

pub passed_from : (g : GraphTree) (q : PortTree) (number arrival : ℕ) (sends : List SendItem) (out : ℕ) (x : PortMessage) → Has (passed g q number arrival sends out) x → Has (spaced out (arrival + period_of g q) (gap_of g q out) sends) x
passed_from g q number arrival sends out x h =
    ⊎_elim
    (λ (e : eqb (number % every_of q out) 0 ≡ true).
    subst (λ (ms : List PortMessage). Has ms x) (cond-true (eqb (number % every_of q out) 0) (spaced out (arrival + period_of g q) (gap_of g q out) sends) [] e) h)
    (λ (e : eqb (number % every_of q out) 0 ≡ false).
    absurd (subst (λ (ms : List PortMessage). Has ms x) (cond-false (eqb (number % every_of q out) 0) (spaced out (arrival + period_of g q) (gap_of g q out) sends) [] e) h))
    (cases_Bool (eqb (number % every_of q out) 0))

-- a message that a port passes on comes by the reach of the out, where that which was handled came by the port's start
passed_by : (g : GraphTree) (q : PortTree) (number arrival : ℕ) (values vars : List ℤ) (out : ℕ) (x : PortMessage) → arrival ≤ most_time + start_of g q
    → Has (passed g q number arrival (handling g q values vars).sends out) x → x.time ≤ most_time + reach_of g q out
passed_by g q number arrival values vars out x early h =
    let sends = (handling g q values vars).sends in
    let gap = gap_of g q out in
    let most = greatest_sends q out in
    let count = messages_on-length out sends in
    let spans : length (messages_on out sends) * gap ≡ sent_on out sends * gap = ap (λ (n : ℕ). n * gap) count in
    let by = gaps_by (arrival + period_of g q) gap (messages_on out sends) x (passed_from g q number arrival sends out x h) in
    let fits : sent_on out sends * gap ≤ most * gap = mul-le (sent_on out sends) gap most gap (sends_within g q out values vars) (omega arith) in
    let last = all_but_one most gap in
    let reach : reach_of g q out ≡ start_of g q + period_of g q + (most - 1) * gap = refl in
    omega arith

-- what an output shows of messages
shown_from : (n : ℕ) (ms : List PortMessage) (l : OutLine) → Has (shown n ms) l → (x : PortMessage) × Has ms x × (l.time ≡ x.time) × (l.output ≡ n) × (l.values ≡ x.values)
shown_from n [] l h = absurd h
shown_from n (m ∷ ms) l h =
    ⊎_elim
    (λ (e : l ≡ (record { time = m.time; output = n; values = m.values })). (m, inl refl, ap (λ (x : OutLine). x.time) e, ap (λ (x : OutLine). x.output) e, ap (λ (x : OutLine). x.values) e))
    (λ (k : Has (shown n ms) l). let r = shown_from n ms l k in (r.0, inr r.1, r.2, r.3, r.4))
    h

-- a line of these outputs, numbered from n on, shows what an out of the job's port passes on
pub record IsShown (task : ℕ) (passes : ℕ → List PortMessage) (n : ℕ) (outputs : List Output) (l : OutLine) : Type 0 where
  pub place : ℕ
  pub output : Output
  pub message : PortMessage
  pub there : slice_get outputs place ≡ Some output
  pub number : l.output ≡ n + place
  pub port : output.port ≡ task
  pub passed : Has (passes output.out) message
  pub time : l.time ≡ message.time
  pub values : l.values ≡ message.values

pub all_shown_from : (task : ℕ) (passes : ℕ → List PortMessage) (n : ℕ) (outputs : List Output) (l : OutLine) → Has (all_shown task passes n outputs) l → IsShown task passes n outputs l
all_shown_from task passes n [] l h = absurd h
all_shown_from task passes n (o ∷ outputs) l h =
    let part : List OutLine = cond (eqb o.port task) (shown n (passes o.out)) [] in
    ⊎_elim
    (λ (k : Has part l). ⊎_elim
    (λ (e : eqb o.port task ≡ true).
    let r = shown_from n (passes o.out) l (subst (λ (ls : List OutLine). Has ls l) (cond-true (eqb o.port task) (shown n (passes o.out)) [] e) k) in
    record { place = 0; output = o; message = r.0; there = refl; number = omega (arith, r.3); port = eqb-true o.port task e; passed = r.1; time = r.2; values = r.4 })
    (λ (e : eqb o.port task ≡ false). absurd (subst (λ (ls : List OutLine). Has ls l) (cond-false (eqb o.port task) (shown n (passes o.out)) [] e) k))
    (cases_Bool (eqb o.port task)))
    (λ (k : Has (all_shown task passes (suc n) outputs) l).
    let r = all_shown_from task passes (suc n) outputs l k in
    let number = r.number in
    record { place = suc r.place; output = r.output; message = r.message; there = r.there; number = omega arith; port = r.port; passed = r.passed; time = r.time; values = r.values })
    (has_append part (all_shown task passes (suc n) outputs) l h)

-- the messages of an input come by the last tick of a trace
outside_by : (input : ℕ) (trace : List Message) → ((m : Message) → Has trace m → m.time ≤ most_time) → (x : PortMessage) → Has (messages_of input trace) x → x.time ≤ most_time
outside_by input [] by x h = absurd h
outside_by input (m ∷ trace) by x h =
    let new : PortMessage = record { time = m.time; values = m.values } in
    let rest : Has (messages_of input trace) x → x.time ≤ most_time = λ k. outside_by input trace (λ y is. by y (inr is)) x k in
    ⊎_elim
    (λ (e : eqb m.input input ≡ true). ⊎_elim
    (λ (q : x ≡ new). let t : x.time ≡ m.time = ap (λ (y : PortMessage). y.time) q in let b = by m (inl refl) in omega arith)
    (λ (k : Has (messages_of input trace) x). rest k)
    (subst (λ (ms : List PortMessage). Has ms x) (cond-true (eqb m.input input) (new ∷ messages_of input trace) (messages_of input trace) e) h))
    (λ (e : eqb m.input input ≡ false). rest (subst (λ (ms : List PortMessage). Has ms x) (cond-false (eqb m.input input) (new ∷ messages_of input trace) (messages_of input trace) e) h))
    (cases_Bool (eqb m.input input))

has_there : {X : Type 0} (xs : List X) (i : ℕ) (x : X) → slice_get xs i ≡ Some x → Has xs x
has_there [] i x h = absurd (none-some x h)
has_there (y ∷ xs) zero x h = inl (sym (same_Some y x h))
has_there (y ∷ xs) (suc i) x h = inr (has_there xs i x h)

-- an item has its number in a list that has it
pub has_numbered : {X : Type 0} (xs : List X) (n : ℕ) (x : X) → numbered xs n ≡ Some x → Has xs x
has_numbered xs zero x h = absurd (none-some x h)
has_numbered xs (suc n) x h = has_there xs n x h

-- the message of a job is at its port
pub message_at : (job : Job) (s : Serial) (m : PortMessage) → message_of job s ≡ Some m → numbered (messages_at s job.task) job.number ≡ Some m
message_at job s m h =
    let there = numbered (messages_at s job.task) job.number in
    let test = eqb job.number (suc (handled_of s job.task)) in
    ⊎_elim
    (λ (e : test ≡ true). sym (cond-true test there None e) ∙ h)
    (λ (e : test ≡ false). absurd (none-some m (sym (cond-false test there None e) ∙ h)))
    (cases_Bool test)

-- a line is an output's, and comes by the reach of the output's out
pub record IsLineInTime (g : GraphTree) (l : OutLine) : Type 0 where
  pub output : Output
  pub port : PortTree
  pub there : numbered g.outputs l.output ≡ Some output
  pub source : numbered g.ports output.port ≡ Some port
  pub time : l.time ≤ most_time + reach_of g port output.out

-- the messages at each port come by its start, and the lines by their reaches
pub record IsInTime (g : GraphTree) (s : Serial) : Type 0 where
  pub long : length s.messages ≡ length g.ports
  pub messages : (port : ℕ) (p : PortTree) → numbered g.ports port ≡ Some p → (m : PortMessage) → Has (messages_at s port) m → m.time ≤ most_time + start_of g p
  pub lines : (l : OutLine) → Has s.lines l → IsLineInTime g l

module _ (g : GraphTree) (trace : List Message) (can : CanRun g trace) where
  -- a port that an out feeds starts with the out's reach
  fed_start : (k : ℕ) (p : PortTree) (from out : ℕ) (q : PortTree) → slice_get g.ports k ≡ Some p → p.feed ≡ Out from out → numbered g.ports from ≡ Some q → start_of g p ≡ reach_of g q out
  fed_start k p zero out q there fed at = absurd (none-some q at)
  fed_start k p (suc from) out q there fed at =
      let is = source g k p (suc from) out can.well_formed there fed in
      let same : is.0 ≡ q = same_Some is.0 q (sym is.1.there ∙ ap (slice_get g.ports) (omega arith) ∙ at) in
      ap (λ s. s.start) is.1.stream ∙ ap (λ (r : PortTree). reach_of g r out) same

  module _ (job : Job) (s : Serial) (holds : IsInTime g s) (m : PortMessage) (next : message_of job s ≡ Some m) where
    abbrev q : PortTree
    q = port_of g job

    abbrev passes : ℕ → List PortMessage
    passes = passed g (port_of g job) job.number m.time (handling g (port_of g job) m.values s.vars).sends

    is_port : numbered g.ports job.task ≡ Some (port_of g job)
    is_port =
        let p = port_there g.ports s.messages job.task job.number m holds.long (message_at job s m next) in
        p.1 ∙ ap (λ (o : Option PortTree). Some (unwrap_or o no_port)) (sym p.1)

    passes_by : (out : ℕ) (x : PortMessage) → Has (passes out) x → x.time ≤ most_time + reach_of g (port_of g job) out
    passes_by out x h =
        let early = holds.messages job.task (port_of g job) is_port m (has_numbered (messages_at s job.task) job.number m (message_at job s m next)) in
        passed_by g (port_of g job) job.number m.time m.values s.vars out x early h

    messages_after : (port : ℕ) (p : PortTree) → numbered g.ports port ≡ Some p → (x : PortMessage) → Has (messages_at (handle_message g job m s) port) x → x.time ≤ most_time + start_of g p
    messages_after zero p there x h = absurd (none-some p there)
    messages_after (suc k) p there x h =
        let new = brought job.task passes p.feed in
        let whole : messages_at (handle_message g job m s) (suc k) ≡ messages_at s (suc k) ++ new = placed_at (brought job.task passes) g.ports s.messages k p holds.long there in
        ⊎_elim
        (λ (old : Has (messages_at s (suc k)) x). holds.messages (suc k) p there x old)
        (λ (is : Has new x). ⊎_elim
        (λ (i : (input : ℕ) × (p.feed ≡ Input input)). absurd (subst (λ (f : Feed). Has (brought job.task passes f) x) i.1 is))
        (λ (o : (from out : ℕ) × (p.feed ≡ Out from out)).
        let b = brought_from job.task passes o.0 o.1 x (subst (λ (f : Feed). Has (brought job.task passes f) x) o.2 is) in
        let at : numbered g.ports o.0 ≡ Some (port_of g job) = ap (numbered g.ports) b.0 ∙ is_port in
        let start = fed_start k p o.0 o.1 (port_of g job) there o.2 at in
        let by = passes_by o.1 x b.1 in
        omega arith)
        (feed_cases p.feed))
        (has_append (messages_at s (suc k)) new x (subst (λ (ms : List PortMessage). Has ms x) whole h))

    lines_after : (l : OutLine) → Has (handle_message g job m s).lines l → IsLineInTime g l
    lines_after l h =
        ⊎_elim
        (λ (old : Has s.lines l). holds.lines l old)
        (λ (is : Has (all_shown job.task passes 1 g.outputs) l).
        let r = all_shown_from job.task passes 1 g.outputs l is in
        let number : l.output ≡ suc r.place = omega (arith, r.number) in
        let by = passes_by r.output.out r.message r.passed in
        let time = r.time in
        record {
          output = r.output;
          port = port_of g job;
          there = ap (numbered g.outputs) number ∙ r.there;
          source = ap (numbered g.ports) r.port ∙ is_port;
          time = omega arith;
        })
        (has_append s.lines (all_shown job.task passes 1 g.outputs) l h)

    in_time_after : IsInTime g (handle_message g job m s)
    in_time_after = record { long = placed-length (brought job.task passes) g.ports s.messages holds.long; messages = messages_after; lines = lines_after }

  in_time_along : (order : List Job) (s t : Serial) → IsInTime g s → serial_run g order s ≡ Some t → IsInTime g t
  in_time_along [] s t holds h = subst (IsInTime g) (same_Some s t h) holds
  in_time_along (job ∷ order) s t holds h =
      option_and_then_some {P = IsInTime g t} (serial_run g order) (serial_step g job s) t h
      (λ x step rest.
      let k = stepped g job s x step in
      in_time_along order x t (subst (IsInTime g) k.2 (in_time_after job s holds k.0 k.1)) rest)

  started : (port : ℕ) (p : PortTree) → numbered g.ports port ≡ Some p → messages_at (start g trace) port ≡ from_outside trace p.feed
  started zero p there = absurd (none-some p there)
  started (suc k) p there =
      ap (λ (o : Option (List PortMessage)). unwrap_or o []) (slice_get-map (λ (p : PortTree). from_outside trace p.feed) g.ports k ∙ ap (option_map (λ (p : PortTree). from_outside trace p.feed)) there)

  outside : (f : Feed) (x : PortMessage) → Has (from_outside trace f) x → x.time ≤ most_time
  outside f x h =
      ⊎_elim
      (λ (i : (input : ℕ) × (f ≡ Input input)).
      outside_by i.0 trace (λ y is. (has_all (IsMessageOf g.inputs) trace can.keeps.messages y is).in_time) x (subst (λ (f : Feed). Has (from_outside trace f) x) i.1 h))
      (λ (o : (from out : ℕ) × (f ≡ Out from out)). absurd (subst (λ (f : Feed). Has (from_outside trace f) x) o.2 h))
      (feed_cases f)

  in_time_started : IsInTime g (start g trace)
  in_time_started = record {
    long = length-map g.ports (λ (p : PortTree). from_outside trace p.feed);
    messages = λ port p there x h. let b = outside p.feed x (subst (λ (ms : List PortMessage). Has ms x) (started port p there) h) in omega arith;
    lines = λ l h. absurd h;
  }

  -- however far serial handling has come
  pub in_time : (order : List Job) (s : Serial) → serial_run g order (start g trace) ≡ Some s → IsInTime g s
  in_time order s along = in_time_along order (start g trace) s in_time_started along
