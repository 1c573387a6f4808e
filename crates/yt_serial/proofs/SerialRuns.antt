-- Serial handling along an order, and with one job more.
use Rattle.std.proofs.Common.{◌≡◌, ℕ, zero, suc, eqb, List, [], ◌∷◌, ◌++◌, length, slice_get, Option, None, Some, All, refl, sym, ap, subst, ◌∙◌, ⊎_elim, eq-eqb, append-nil}
use Rattle.std.specs.Option.{option_map, option_and_then, unwrap_or}
use Rattle.std.proofs.lemmas.Bool.{cond-true}
use Rattle.std.proofs.lemmas.List.{length-map}
use Rattle.std.proofs.lemmas.Option.{none-some, same_Some, slice_get-map, option_and_then_some}
use Rattle.yt_graph.specs.declared.port.Feed.TheVariants.{Input, Out}
use Rattle.yt_graph.specs.declared.port.Feed.{Feed}
use Rattle.yt_graph.specs.Meaning.{handling}
use Rattle.yt_graph.specs.Picture.{GraphTree, PortTree}
use Rattle.yt_graph.specs.WellFormed.{IsWellFormed}
use Rattle.yt_log.specs.declared.job.Job.{Job}
use Rattle.yt_rates.specs.Faults.{IsWithinRates}
use Rattle.yt_rates.specs.Rates.{period_of, input_period, stream_within}
use Rattle.yt_trace.specs.declared.message.Message.{Message}
use Rattle.yt_serial.specs.Premises.{CanRun}
use Rattle.yt_serial.specs.PortMessages.{passed}
use Rattle.yt_list.specs.Numbered.{numbered}
use Rattle.yt_serial.specs.SerialHandling.{Serial, messages_at, brought, from_outside, port_of, handle_message, handled_of, message_of, serial_step, serial_run, start}
use Rattle.yt_graph.specs.Labels.{no_port}
use Rattle.yt_trace.specs.Traces.{KeepsPeriods, PortMessage, messages_of}
use Rattle.yt_serial.proofs.SerialInvariant.{Holds, after, holds_after}
use Rattle.yt_serial.proofs.SerialStates.{placed_at, port_there, feed_cases, message_there}
use Rattle.yt_serial.proofs.Spread.{IsSpread, spread_from, spread_none}

-- where a step is defined, it handles a message
pub stepped : (g : GraphTree) (job : Job) (s s' : Serial) → serial_step g job s ≡ Some s' → (m : PortMessage) × (message_of job s ≡ Some m) × (handle_message g job m s ≡ s')
stepped g job s s' h = by (message_of job s) refl h
  where
    by : (o : Option PortMessage) → message_of job s ≡ o → option_map (λ m. handle_message g job m s) o ≡ Some s'
        → (m : PortMessage) × (message_of job s ≡ Some m) × (handle_message g job m s ≡ s')
    by None is h = absurd (none-some s' h)
    by (Some m) is h = (m, is, same_Some (handle_message g job m s) s' h)

module _ (g : GraphTree) (well : IsWellFormed g) (rates : All (IsWithinRates g) g.ports) where
  pub holds_stepped : (job : Job) (s s' : Serial) → Holds g s → serial_step g job s ≡ Some s' → Holds g s'
  holds_stepped job s s' holds h =
      let step = stepped g job s s' h in
      let m = step.0 in
      let there = message_there job s m step.1 in
      let q = port_there g.ports s.messages job.task job.number m holds.long there.1 in
      let port : port_of g job ≡ q.0 = ap (λ (o : Option PortTree). unwrap_or o no_port) q.1 in
      let same : after g q.0 job m s ≡ s' = ap (λ (p : PortTree). after g p job m s) (sym port) ∙ step.2 in
      subst (Holds g) same (holds_after g well rates s holds job q.0 q.1 m there.0 there.1)

  holds_along : (order : List Job) (s s' : Serial) → Holds g s → serial_run g order s ≡ Some s' → Holds g s'
  holds_along [] s s' holds h = subst (Holds g) (same_Some s s' h) holds
  holds_along (job ∷ order) s s' holds h =
      option_and_then_some {P = Holds g s'} (serial_run g order) (serial_step g job s) s' h
      (λ x step rest. holds_along order x s' (holds_stepped job s x holds step) rest)

  pub started : (trace : List Message) (port : ℕ) (p : PortTree) → numbered g.ports port ≡ Some p → messages_at (start g trace) port ≡ from_outside trace p.feed
  started trace zero p there = absurd (none-some p there)
  started trace (suc k) p there =
      ap (λ (o : Option (List PortMessage)). unwrap_or o []) (slice_get-map (λ (p : PortTree). from_outside trace p.feed) g.ports k ∙ ap (option_map (λ (p : PortTree). from_outside trace p.feed)) there)

  holds_started : (trace : List Message) → KeepsPeriods g trace → Holds g (start g trace)
  holds_started trace keeps = record {
    long = length-map g.ports (λ (p : PortTree). from_outside trace p.feed);
    spread = λ port p there. subst (IsSpread (period_of g p)) (sym (started trace port p there)) (⊎_elim
        (λ (i : (input : ℕ) × (p.feed ≡ Input input)).
        let period : period_of g p ≡ input_period g i.0 = ap (λ f. (stream_within g (length g.ports) f).period) i.1 in
        let spread = spread_from (input_period g i.0) (messages_of i.0 trace) (keeps.apart i.0) in
        subst (λ (n : ℕ). IsSpread n (from_outside trace p.feed)) (sym period) (subst (λ f. IsSpread (input_period g i.0) (from_outside trace f)) (sym i.1) spread))
        (λ (o : (source out : ℕ) × (p.feed ≡ Out source out)). subst (λ f. IsSpread (period_of g p) (from_outside trace f)) (sym o.2) (spread_none (period_of g p)))
        (feed_cases p.feed));
    comes = λ port p source out q there fed from i x is.
        absurd (none-some x (sym (ap (λ (ms : List PortMessage). slice_get ms i) (started trace port p there ∙ ap (from_outside trace) fed)) ∙ is));
    items = λ z is. absurd is;
    orderly = tt;
  }

  -- what holds of serial handling, however far it has come
  pub serial_holds : (trace : List Message) → KeepsPeriods g trace → (order : List Job) (s : Serial) → serial_run g order (start g trace) ≡ Some s → Holds g s
  serial_holds trace keeps order s h = holds_along order (start g trace) s (holds_started trace keeps) h

module _ (g : GraphTree) (trace : List Message) (can : CanRun g trace) where
  -- a port that an input feeds keeps its messages
  pub inputs_stay : (order : List Job) (s t : Serial) → Holds g s → serial_run g order s ≡ Some t → (k : ℕ) (p : PortTree) (i : ℕ) → slice_get g.ports k ≡ Some p → p.feed ≡ Input i → messages_at t (suc k) ≡ messages_at s (suc k)
  inputs_stay [] s t holds along k p i is feed = ap (λ (x : Serial). messages_at x (suc k)) (sym (same_Some s t along))
  inputs_stay (job ∷ order) s t holds along k p i is feed =
      option_and_then_some {P = messages_at t (suc k) ≡ messages_at s (suc k)} (serial_run g order) (serial_step g job s) t along
      (λ x step rest.
      let m = stepped g job s x step in
      let passes : ℕ → List PortMessage = passed g (port_of g job) job.number m.0.time (handling g (port_of g job) m.0.values s.vars).sends in
      inputs_stay order x t (holds_stepped g can.well_formed can.rates job s x holds step) rest k p i is feed
      ∙ ap (λ (y : Serial). messages_at y (suc k)) (sym m.2)
      ∙ placed_at (brought job.task passes) g.ports s.messages k p holds.long is
      ∙ ap (λ (f : Feed). messages_at s (suc k) ++ brought job.task passes f) feed
      ∙ append-nil (messages_at s (suc k)))

-- one job more
pub run_push : (g : GraphTree) (order : List Job) (job : Job) (a s t : Serial) → serial_run g order a ≡ Some s → serial_step g job s ≡ Some t → serial_run g (order ++ job ∷ []) a ≡ Some t
run_push g [] job a s t h k =
    let same : a ≡ s = same_Some a s h in
    ap (option_and_then (serial_run g [])) (ap (serial_step g job) same ∙ k)
run_push g (j ∷ order) job a s t h k =
    option_and_then_some {P = serial_run g (j ∷ (order ++ job ∷ [])) a ≡ Some t} (serial_run g order) (serial_step g j a) s h
    (λ x step rest. ap (option_and_then (serial_run g (order ++ job ∷ []))) step ∙ run_push g order job x s t rest k)

-- the step of a port's next job
pub step_of : (g : GraphTree) (job : Job) (s : Serial) (m : PortMessage) → job.number ≡ suc (handled_of s job.task) → numbered (messages_at s job.task) job.number ≡ Some m
    → serial_step g job s ≡ Some (handle_message g job m s)
step_of g job s m number there =
    ap (option_map (λ (x : PortMessage). handle_message g job x s))
    (cond-true (eqb job.number (suc (handled_of s job.task))) (numbered (messages_at s job.task) job.number) None (eq-eqb job.number (suc (handled_of s job.task)) number) ∙ there)
