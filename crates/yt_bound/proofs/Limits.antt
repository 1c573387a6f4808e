-- No feed brings more messages than a trace of one message a tick would over the longest period.
use Rattle.std.proofs.Common.{◌≡◌, ℕ, zero, suc, ◌-◌, ◌*◌, ◌/◌, ◌≤◌, eqb, List, [], ◌∷◌, length, slice_get, Option, Some, All, refl, sym, ap, subst, ◌∙◌, ⊎_elim, arith}
use Rattle.std.specs.Prelude.{IsSomeAnd}
use Rattle.std.specs.Option.{option_map, unwrap_or}
use Rattle.std.proofs.lemmas.Bool.{cases_eq, cond-true, cond-false}
use Rattle.std.proofs.lemmas.Nat.{mul-le}
use Rattle.std.proofs.lemmas.Option.{slice_get_within, get_or_from_slice_get}
use Rattle.std.proofs.Math.Nat.{mod-add-div}
use Rattle.std.proofs.Common.{eq-eqb, ne_eqb}
use Rattle.yt_graph.specs.declared.port.Feed.{Feed}
use Rattle.yt_graph.specs.declared.port.Feed.TheVariants.{Input, Out}
use Rattle.yt_graph.specs.Cost.{greatest_sends}
use Rattle.yt_graph.specs.Picture.{GraphTree, PortTree}
use Rattle.yt_graph.specs.WellFormed.{EndsWithin, IsWellFormed}
use Rattle.yt_list.specs.Numbered.{numbered}
use Rattle.yt_rates.specs.declared.stream.Stream.{Stream}
use Rattle.yt_rates.specs.Faults.{IsWithinRates}
use Rattle.yt_rates.specs.Rates.{every_of, gap_of, period_of}
use Rattle.yt_rates.proofs.Lemmas.{source}
use Rattle.yt_serial.specs.Bounds.{greatest_passed, most_messages_within}
use Rattle.yt_trace.specs.declared.message.Message.{Message}
use Rattle.yt_trace.specs.Traces.{messages_of}
use Rattle.yt_bound.specs.Inside.Feeds.{most_fed}

pub of_input : (input : ℕ) (m : Message) (trace : List Message) → m.input ≡ input → length (messages_of input (m ∷ trace)) ≡ suc (length (messages_of input trace))
of_input input m trace e = ap length (cond-true (eqb m.input input) ((record { time = m.time; values = m.values }) ∷ messages_of input trace) (messages_of input trace) (eq-eqb m.input input e))

pub of_other : (input : ℕ) (m : Message) (trace : List Message) → (m.input ≡ input → ⊥) → length (messages_of input (m ∷ trace)) ≡ length (messages_of input trace)
of_other input m trace ne = ap length (cond-false (eqb m.input input) ((record { time = m.time; values = m.values }) ∷ messages_of input trace) (messages_of input trace) (ne_eqb m.input input ne))

-- an input has no more messages than the trace
pub input_le : (input : ℕ) (trace : List Message) → length (messages_of input trace) ≤ length trace
input_le input [] = omega arith
input_le input (m ∷ trace) =
    let rest = input_le input trace in
    ⊎_elim
    (λ (e : m.input ≡ input). let a = of_input input m trace e in omega arith)
    (λ (ne : m.input ≡ input → ⊥). let a = of_other input m trace ne in omega arith)
    (cases_eq m.input input)

-- so it has no more than a feed may bring
pub input_most : (trace : List Message) → length trace ≤ 200000 → (i : ℕ) → length (messages_of i trace) ≤ most_fed
input_most trace few i = let count = input_le i trace in omega arith

-- an out passes on no more messages for its gap than come to its port for the port's period
passed_le : (e s m period most : ℕ) → m * period ≤ most → m / e * s * (e * period / s) ≤ most
passed_le e s m period most le =
    let gap = e * period / s in
    let n = m / e in
    let d = mod-add-div m e in
    let h = mod-add-div (e * period) s in
    let whole : n * (s * gap) ≤ n * (e * period) = mul-le n (s * gap) n (e * period) (omega arith) (omega arith) in
    let part : n * e * period ≤ m * period = mul-le (n * e) period m period (omega arith) (omega arith) in
    let a : n * s * gap ≡ n * (s * gap) = omega arith in
    let b : n * (e * period) ≡ n * e * period = omega arith in
    omega arith

module _ (g : GraphTree) (trace : List Message) (well : IsWellFormed g) (rates : All (IsWithinRates g) g.ports) (few : length trace ≤ 200000) where
  within : (k : ℕ) (p : PortTree) → slice_get g.ports k ≡ Some p → IsWithinRates g p
  within k p there = subst (IsWithinRates g) (get_or_from_slice_get g.ports k p p there) (rates k p (slice_get_within g.ports k p there))

  -- along a chain of sources
  port_most : (n k : ℕ) (p : PortTree) (f : Feed) → slice_get g.ports k ≡ Some p → p.feed ≡ f → EndsWithin g n f → most_messages_within g trace n f * period_of g p ≤ most_fed
  port_most n k p (Input i) there fed ends =
      let count = input_le i trace in
      mul-le (length (messages_of i trace)) (period_of g p) 200000 1000000 (omega arith) (within k p there).period
  port_most zero k p (Out port out) there fed ends = absurd ends
  port_most (suc m) k p (Out port out) there fed ends =
      let from = source g k p port out well there fed in
      let q = from.0 in
      let place : port - 1 ≡ ends.0 = omega (arith, ends.1) in
      let at : slice_get g.ports ends.0 ≡ Some q = ap (slice_get g.ports) (sym place) ∙ from.1.there in
      let inner : EndsWithin g m q.feed = subst (λ (o : Option PortTree). IsSomeAnd o (λ q. EndsWithin g m q.feed)) at ends.2 in
      let before = port_most m ends.0 q q.feed at refl inner in
      let count : most_messages_within g trace (suc m) (Out port out) ≡ greatest_passed q out (most_messages_within g trace m q.feed) =
      ap (λ (o : Option PortTree). unwrap_or (option_map (λ (p : PortTree). greatest_passed p out (most_messages_within g trace m p.feed)) o) 0) (ap (numbered g.ports) ends.1 ∙ at) in
      let gap : period_of g p ≡ gap_of g q out = ap (λ (s : Stream). s.period) from.1.stream in
      let passed = passed_le (every_of q out) (greatest_sends q out) (most_messages_within g trace m q.feed) (period_of g q) most_fed before in
      subst (λ (n : ℕ). n * period_of g p ≤ most_fed) (sym count)
      (subst (λ (t : ℕ). greatest_passed q out (most_messages_within g trace m q.feed) * t ≤ most_fed) (sym gap) passed)

  -- an out that is there has a gap
  pub out_most : (n k : ℕ) (q : PortTree) (out : ℕ) → slice_get g.ports k ≡ Some q → EndsWithin g n q.feed → 1 ≤ out → out ≤ length q.outs → greatest_passed q out (most_messages_within g trace n q.feed) ≤ most_fed
  out_most n k q out there ends some last =
      let before = port_most n k q q.feed there refl ends in
      let passed = passed_le (every_of q out) (greatest_sends q out) (most_messages_within g trace n q.feed) (period_of g q) most_fed before in
      let gap : 1 ≤ gap_of g q out = (within k q there).outs.gap out some last in
      let count = greatest_passed q out (most_messages_within g trace n q.feed) in
      let more : count * 1 ≤ count * gap_of g q out = mul-le count 1 count (gap_of g q out) (omega arith) gap in
      omega arith
