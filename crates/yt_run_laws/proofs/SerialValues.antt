-- Serial handling makes values of values.
use Rattle.std.proofs.Common.{◌≡◌, ℕ, zero, suc, ◌⊎◌, ℤ, Bool, true, false, cond, eqb, List, [], ◌∷◌, ◌++◌, map, Option, None, Some, ◌+◌, refl, sym, subst, inl, inr, ⊎_elim}
use Rattle.std.specs.List.{All}
use Rattle.std.specs.Option.{unwrap_or}
use Rattle.std.proofs.lemmas.List.Elements.{All-head, All-tail, All-map}
use Rattle.std.proofs.lemmas.Option.{none-some, same_Some, option_and_then_some}
use Rattle.yt_graph.specs.declared.handled.SendItem.{SendItem}
use Rattle.yt_graph.specs.declared.port.Feed as feed
use Rattle.yt_graph.specs.declared.port.Feed.{Feed}
use Rattle.yt_graph.specs.declared.port.Feed.TheVariants.{Out}
use Rattle.yt_graph.specs.Labels.{no_port}
use Rattle.yt_graph.specs.Meaning.{Handling, handling}
use Rattle.yt_graph.specs.Picture.{GraphTree, PortTree}
use Rattle.yt_graph.specs.Sends.{messages_on}
use Rattle.yt_list.specs.Numbered.{numbered}
use Rattle.yt_log.specs.declared.job.Job.{Job}
use Rattle.yt_log.specs.Tasks.{Has}
use Rattle.yt_log.proofs.Lemmas.{has_all, has_append}
use Rattle.yt_rates.specs.Rates.{period_of, gap_of}
use Rattle.yt_run_laws.specs.Values.{IsValue, AreValues, BlockWritesValues, CanRunOnValues}
use Rattle.yt_run_laws.specs.KeepingValues.{LeavesValues, SerialHandlingKeepsValues}
use Rattle.yt_run_laws.proofs.HandlerValues.{handlers_keep_values}
use Rattle.yt_schedule_laws.proofs.Lemmas.{all_has, all_shown_from, all_there, brought_from, has_numbered, message_at, passed_from}
use Rattle.yt_serial.specs.declared.shown.OutLine.{OutLine}
use Rattle.yt_trace.specs.declared.message.Message.{Message}
use Rattle.yt_order.specs.Gaps.{at_gaps}
use Rattle.yt_serial.specs.PortMessages.{PortMessage, arriving, messages_of, passed}
use Rattle.yt_serial.specs.Premises.{IsHandling}
use Rattle.yt_serial.specs.SerialHandling.{Serial, messages_at, from_outside, start, brought, placed, all_shown, port_of, handle_message, message_of, serial_step, serial_run}
use Rattle.yt_serial.proofs.Lemmas.{stepped}

-- an item of the list that a test takes
has_either : {X : Type 0} (test : Bool) (xs ys : List X) (x : X) → Has (cond test xs ys) x → Has xs x ⊎ Has ys x
has_either true xs ys x h = inl h
has_either false xs ys x h = inr h

-- what was sent on an out is values where all that was sent is
sent_values : (out : ℕ) (sends : List SendItem) → All (λ sent. AreValues sent.values) sends → (values : List ℤ) → Has (messages_on out sends) values → AreValues values
sent_values out [] all values h = absurd h
sent_values out (s ∷ sends) all values h =
    let rest = All-tail (λ (sent : SendItem). AreValues sent.values) s sends all in
    ⊎_elim
    (λ (taken : Has (s.values ∷ messages_on out sends) values). ⊎_elim
    (λ (e : values ≡ s.values). subst AreValues (sym e) (All-head (λ (sent : SendItem). AreValues sent.values) s sends all))
    (λ (later : Has (messages_on out sends) values). sent_values out sends rest values later)
    taken)
    (λ (passed_over : Has (messages_on out sends) values). sent_values out sends rest values passed_over)
    (has_either (eqb s.out out) (s.values ∷ messages_on out sends) (messages_on out sends) values h)

-- a message at a port has the numbers that were sent
gaps_values : (time gap : ℕ) (sent : List (List ℤ)) → ((values : List ℤ) → Has sent values → AreValues values) → (m : PortMessage) → Has (at_gaps arriving time gap sent) m → AreValues m.values
gaps_values time gap [] each m h = absurd h
gaps_values time gap (values ∷ sent) each m h =
    ⊎_elim
    (λ (e : m ≡ arriving time values). subst (λ (x : PortMessage). AreValues x.values) (sym e) (each values (inl refl)))
    (λ (k : Has (at_gaps arriving (time + gap) gap sent) m). gaps_values (time + gap) gap sent (λ xs is. each xs (inr is)) m k)
    h

-- what each port has where its feed brings something
placed_has : (brings : Feed → List PortMessage) (ports : List PortTree) (messages : List (List PortMessage)) (ms : List PortMessage) → Has (placed brings ports messages) ms →
    (before : List PortMessage) × Has messages before × (p : PortTree) × (ms ≡ before ++ brings p.feed)
placed_has brings [] messages ms h = absurd h
placed_has brings (p ∷ ports) [] ms h = absurd h
placed_has brings (p ∷ ports) (before ∷ messages) ms h =
    ⊎_elim
    (λ (e : ms ≡ before ++ brings p.feed). (before, inl refl, p, e))
    (λ (k : Has (placed brings ports messages) ms). let r = placed_has brings ports messages ms k in (r.0, inr r.1, r.2, r.3))
    h

mapped_has : {X Y : Type 0} (f : X → Y) (xs : List X) (y : Y) → Has (map f xs) y → (x : X) × (y ≡ f x)
mapped_has f [] y h = absurd h
mapped_has {X} {Y} f (x ∷ xs) y h = ⊎_elim (λ (e : y ≡ f x). (x, e)) (λ (k : Has (map f xs) y). mapped_has f xs y k) h

-- the messages at a port are those of a list
port_has : (messages : List (List PortMessage)) (o : Option (List PortMessage)) → ((ms : List PortMessage) → o ≡ Some ms → Has messages ms) → (m : PortMessage) → Has (unwrap_or o []) m →
    (ms : List PortMessage) × Has messages ms × Has ms m
port_has messages None each m h = absurd h
port_has messages (Some ms) each m h = (ms, each ms refl, h)

-- the messages of an input have the numbers of the trace's
outside_values : (input : ℕ) (trace : List Message) → ((x : Message) → Has trace x → AreValues x.values) → (m : PortMessage) → Has (messages_of input trace) m → AreValues m.values
outside_values input [] each m h = absurd h
outside_values input (x ∷ trace) each m h =
    let new : PortMessage = record { time = x.time; values = x.values } in
    let rest : Has (messages_of input trace) m → AreValues m.values = λ k. outside_values input trace (λ y is. each y (inr is)) m k in
    ⊎_elim
    (λ (taken : Has (new ∷ messages_of input trace) m). ⊎_elim
    (λ (e : m ≡ new). subst (λ (y : PortMessage). AreValues y.values) (sym e) (each x (inl refl)))
    rest
    taken)
    rest
    (has_either (eqb x.input input) (new ∷ messages_of input trace) (messages_of input trace) m h)

-- serial handling so far has values alone
record HasValues (s : Serial) : Type 0 where
  vars : AreValues s.vars
  messages : (ms : List PortMessage) → Has s.messages ms → (m : PortMessage) → Has ms m → AreValues m.values
  lines : (l : OutLine) → Has s.lines l → AreValues l.values

module _ (g : GraphTree) (trace : List Message) (can : CanRunOnValues g trace) where
  -- the text of a job's port
  port_writes : (task : ℕ) (o : Option PortTree) → numbered g.ports task ≡ o → BlockWritesValues (unwrap_or o no_port).body
  port_writes task None e = tt
  port_writes zero (Some p) e = absurd (none-some p e)
  port_writes (suc k) (Some p) e = all_there (λ (q : PortTree). BlockWritesValues q.body) g.ports k p can.handlers e

  module _ (job : Job) (s : Serial) (holds : HasValues s) (m : PortMessage) (next : message_of job s ≡ Some m) where
    abbrev h : Handling
    h = handling g (port_of g job) m.values s.vars

    abbrev passes : ℕ → List PortMessage
    passes = passed g (port_of g job) job.number m.time (handling g (port_of g job) m.values s.vars).sends

    leaves : LeavesValues (handling g (port_of g job) m.values s.vars)
    leaves =
        let at = has_numbered (messages_at s job.task) job.number m (message_at job s m next) in
        let has = port_has s.messages (numbered s.messages job.task) (λ ms e. has_numbered s.messages job.task ms e) m at in
        handlers_keep_values g (port_of g job) (port_writes job.task (numbered g.ports job.task) refl) m.values s.vars (holds.messages has.0 has.1 m has.2) holds.vars

    passes_values : (out : ℕ) (x : PortMessage) → Has (passes out) x → AreValues x.values
    passes_values out x is =
        let q = port_of g job in
        gaps_values (m.time + period_of g q) (gap_of g q out) (messages_on out (handling g q m.values s.vars).sends)
        (sent_values out (handling g q m.values s.vars).sends leaves.sends) x
        (passed_from g q job.number m.time (handling g q m.values s.vars).sends out x is)

    brought_values : (f : Feed) (x : PortMessage) → Has (brought job.task passes f) x → AreValues x.values
    brought_values (feed.TheVariants.Input input) x is = absurd is
    brought_values (feed.TheVariants.Out from out) x is = passes_values out x (brought_from job.task passes from out x is).1

    values_after : HasValues (handle_message g job m s)
    values_after = record {
      vars = leaves.vars;
      messages = λ ms is x at.
          let r = placed_has (brought job.task passes) g.ports s.messages ms is in
          ⊎_elim
          (λ (old : Has r.0 x). holds.messages r.0 r.1 x old)
          (λ (new : Has (brought job.task passes r.2.feed) x). brought_values r.2.feed x new)
          (has_append r.0 (brought job.task passes r.2.feed) x (subst (λ (xs : List PortMessage). Has xs x) r.3 at));
      lines = λ l is.
          ⊎_elim
          (λ (old : Has s.lines l). holds.lines l old)
          (λ (new : Has (all_shown job.task passes 1 g.outputs) l).
          let r = all_shown_from job.task passes 1 g.outputs l new in
          subst AreValues (sym r.values) (passes_values r.output.out r.message r.passed))
          (has_append s.lines (all_shown job.task passes 1 g.outputs) l is);
    }

  values_along : (order : List Job) (s t : Serial) → HasValues s → serial_run g order s ≡ Some t → HasValues t
  values_along [] s t holds h = subst HasValues (same_Some s t h) holds
  values_along (job ∷ order) s t holds h =
      option_and_then_some {P = HasValues t} (serial_run g order) (serial_step g job s) t h
      (λ x step rest.
      let k = stepped g job s x step in
      values_along order x t (subst HasValues k.2 (values_after job s holds k.0 k.1)) rest)

  outside : (f : Feed) (m : PortMessage) → Has (from_outside trace f) m → AreValues m.values
  outside (feed.TheVariants.Input input) m h = outside_values input trace (has_all (λ (x : Message). AreValues x.values) trace can.messages) m h
  outside (feed.TheVariants.Out from out) m h = absurd h

  values_started : HasValues (start g trace)
  values_started = record {
    vars = All-map IsValue (λ v. v.start) g.vars can.starts;
    messages = λ ms is m at.
        let r = mapped_has (λ (p : PortTree). from_outside trace p.feed) g.ports ms is in
        outside r.0.feed m (subst (λ (xs : List PortMessage). Has xs m) r.1 at);
    lines = λ l is. absurd is;
  }

  values_held : (order : List Job) (s : Serial) → IsHandling g trace order s → HasValues s
  values_held order s is = values_along order (start g trace) s values_started is.along

pub line_values : (g : GraphTree) (trace : List Message) → CanRunOnValues g trace → (order : List Job) (s : Serial) → IsHandling g trace order s → (l : OutLine) → Has s.lines l → AreValues l.values
line_values g trace can order s is = (values_held g trace can order s is).lines

pub serial_handling_keeps_values : SerialHandlingKeepsValues
serial_handling_keeps_values = record {
  vars = λ g trace can order s is. (values_held g trace can order s is).vars;
  lines = λ g trace can order s is. all_has (λ (l : OutLine). AreValues l.values) s.lines (line_values g trace can order s is);
}
