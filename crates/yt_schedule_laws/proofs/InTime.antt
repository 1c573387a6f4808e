-- Messages and lines come in time, and so do the jobs of a plan.
use Rattle.std.proofs.Common.{◌≡◌, ℕ, zero, suc, ◌+◌, ◌<◌, ◌≤◌, List, [], ◌∷◌, length, slice_get, get_or, Option, None, Some, All, refl, sym, ap, subst, ◌∙◌, inl, inr, arith}
use Rattle.std.specs.Prelude.{IsSomeAnd}
use Rattle.std.proofs.lemmas.Option.{none-some, same_Some, get_or_from_slice_get, slice_get_within}
use Rattle.yt_graph.specs.declared.graph.Output.{Output}
use Rattle.yt_graph.specs.declared.port.OutHead.{OutHead}
use Rattle.yt_graph.specs.Picture.{GraphTree, PortTree}
use Rattle.yt_graph.specs.WellFormed.{IsFineOutput}
use Rattle.yt_list.specs.Numbered.{numbered}
use Rattle.yt_log.specs.declared.job.Job.{Job}
use Rattle.yt_log.specs.declared.plan.PlanItem.{PlanItem}
use Rattle.yt_log.specs.Patterns.{item_before}
use Rattle.yt_log.specs.Limits.{most_arrival}
use Rattle.yt_log.specs.Tasks.{Has}
use Rattle.yt_log.proofs.Lemmas.{has_sorted}
use Rattle.yt_rates.specs.Faults.{IsWithinRates}
use Rattle.yt_rates.specs.Limits.{most_reach}
use Rattle.yt_rates.specs.Rates.{start_of, reach_of}
use Rattle.yt_serial.specs.declared.shown.OutLine.{OutLine}
use Rattle.yt_trace.specs.declared.message.Message.{Message}
use Rattle.yt_trace.specs.Limits.{most_time}
use Rattle.yt_serial.specs.PortMessages.{PortMessage}
use Rattle.yt_serial.specs.Premises.{IsHandling}
use Rattle.yt_serial.specs.SerialHandling.{Serial, messages_at, items_of, plan_of}
use Rattle.yt_serial.proofs.Lemmas.{plans_are_legal, port_there, serial_holds}
use Rattle.yt_schedule_laws.specs.InTime.{MessagesComeInTime}
use Rattle.yt_schedule_laws.proofs.Arriving.{has_numbered, in_time, IsLineInTime}

has_place : {X : Type 0} (xs : List X) (k : ℕ) (d : X) → k < length xs → Has xs (get_or xs k d)
has_place [] k d lt = absurd (omega arith)
has_place (x ∷ xs) zero d lt = inl refl
has_place (x ∷ xs) (suc k) d lt = inr (has_place xs k d (omega arith))

-- what holds of each item that a list has
pub all_has : {X : Type 0} (P : X → Type 0) (xs : List X) → ((x : X) → Has xs x → P x) → All P xs
all_has P xs each k d lt = each (get_or xs k d) (has_place xs k d lt)

-- what holds of all items holds of the one at a place
pub all_there : {X : Type 0} (P : X → Type 0) (xs : List X) (k : ℕ) (x : X) → All P xs → slice_get xs k ≡ Some x → P x
all_there P xs k x all there = subst P (get_or_from_slice_get xs k x x there) (all k x (slice_get_within xs k x there))

of_some : {X : Type 0} (P : X → Type 0) (o : Option X) → IsSomeAnd o P → (x : X) × (o ≡ Some x) × P x
of_some P None h = absurd h
of_some P (Some x) h = (x, refl, h)

some_of : {X : Type 0} (P : X → Type 0) (o : Option X) (x : X) → o ≡ Some x → P x → IsSomeAnd o P
some_of {X = X} P o x e h = subst (λ (o : Option X). IsSomeAnd o P) (sym e) h

module _ (g : GraphTree) (trace : List Message) (order : List Job) (s : Serial) (is : IsHandling g trace order s) where
  -- the rates of a port are within their limits
  pub rated : (port : ℕ) (p : PortTree) → numbered g.ports port ≡ Some p → IsWithinRates g p
  rated zero p there = absurd (none-some p there)
  rated (suc k) p there = all_there (IsWithinRates g) g.ports k p is.can.rates there

  pub by_start : (port : ℕ) (p : PortTree) → numbered g.ports port ≡ Some p → (m : PortMessage) → Has (messages_at s port) m → m.time ≤ most_time + start_of g p
  by_start = (in_time g trace is.can order s is.along).messages

  -- the out of an output is an out of its port
  reach_within : (n : ℕ) (o : Output) (p : PortTree) → numbered g.outputs n ≡ Some o → numbered g.ports o.port ≡ Some p → reach_of g p o.out ≤ most_reach
  reach_within zero o p there at = absurd (none-some o there)
  reach_within (suc k) o p there at =
      let fine = (all_there (IsFineOutput g) g.outputs k o is.can.well_formed.each_output there).1 in
      let port = of_some (λ (p : PortTree). IsSomeAnd (slice_get p.outs fine.1) (λ (_ : OutHead). Unit {0})) (slice_get g.ports fine.0) fine.4 in
      let head = of_some (λ (_ : OutHead). Unit {0}) (slice_get port.0.outs fine.1) port.2 in
      let same : port.0 ≡ p = same_Some port.0 p (sym port.1 ∙ ap (numbered g.ports) (sym fine.2) ∙ at) in
      let within : fine.1 < length p.outs = subst (λ (p : PortTree). fine.1 < length p.outs) same (slice_get_within port.0.outs fine.1 head.0 head.1) in
      (rated o.port p at).outs.reach o.out (omega (arith, fine.3)) (omega (arith, fine.3))

  pub line_by : (l : OutLine) → Has s.lines l → IsLineInTime g l
  line_by = (in_time g trace is.can order s is.along).lines

  pub line_within : (l : OutLine) → Has s.lines l → l.time ≤ most_time + most_reach
  line_within l has =
      let by = line_by l has in
      let time = by.time in
      let reach = reach_within l.output by.output by.port by.there by.source in
      omega arith

  -- a job of the plan is of a port, and arrives with one of its messages
  pub record IsOfPort (z : PlanItem) : Type 0 where
    pub port : PortTree
    pub there : numbered g.ports z.job.task ≡ Some port
    pub arrives : z.arrival ≤ most_arrival

  pub of_port : (z : PlanItem) → Has (plan_of s) z → IsOfPort z
  of_port z has =
      let holds = serial_holds g is.can.well_formed is.can.rates trace is.can.keeps order s is.along in
      let x = holds.items z (has_sorted item_before (items_of s) z has) in
      let p = port_there g.ports s.messages z.job.task z.job.number x.message holds.long x.there in
      let by = by_start z.job.task p.0 p.1 x.message (has_numbered (messages_at s z.job.task) z.job.number x.message x.there) in
      let start = (rated z.job.task p.0 p.1).start in
      let arrival = x.arrival in
      record { port = p.0; there = p.1; arrives = omega arith }

  shown_in_time : (l : OutLine) → Has s.lines l → IsSomeAnd (numbered g.outputs l.output) (λ o. IsSomeAnd (numbered g.ports o.port) (λ p. l.time ≤ most_time + reach_of g p o.out))
  shown_in_time l has =
      let by = line_by l has in
      some_of (λ (o : Output). IsSomeAnd (numbered g.ports o.port) (λ p. l.time ≤ most_time + reach_of g p o.out)) (numbered g.outputs l.output) by.output by.there
      (some_of (λ (p : PortTree). l.time ≤ most_time + reach_of g p by.output.out) (numbered g.ports by.output.port) by.port by.source by.time)

pub messages_come_in_time : MessagesComeInTime
messages_come_in_time = record {
  messages = λ g trace order s is port p there. all_has (λ (m : PortMessage). m.time ≤ most_time + start_of g p) (messages_at s port) (by_start g trace order s is port p there);
  outputs = λ g trace order s is.
      all_has (λ (l : OutLine). IsSomeAnd (numbered g.outputs l.output) (λ o. IsSomeAnd (numbered g.ports o.port) (λ p. l.time ≤ most_time + reach_of g p o.out))) s.lines
      (shown_in_time g trace order s is);
  lines = λ g trace order s is. all_has (λ (l : OutLine). l.time ≤ most_time + most_reach) s.lines (line_within g trace order s is);
  plan = λ g trace order s is. record {
    legal = plans_are_legal g trace order s is;
    early = all_has (λ (z : PlanItem). z.arrival ≤ most_arrival) (plan_of s) (λ z has. (of_port g trace order s is z has).arrives);
  };
}
