-- The fault of a port, by its outs.
use Rattle.std.proofs.Common.{◌≡◌, ◌⊎◌, ℕ, suc, ◌+◌, ◌-◌, ◌<◌, ◌≤◌, ◌==◌, Bool, true, false, cond, List, [], ◌∷◌, length, Option, None, Some, refl, sym, ap, ◌∙◌, subst, inl, inr, ⊎_elim, arith}
use Rattle.std.specs.Prelude.{nat_lt, ◌||◌}
use Rattle.std.proofs.lemmas.Bool.{or_cases, or_parts, or_from, ltb-true, eqb-true}
use Rattle.std.proofs.lemmas.Bool.Decides.{nat_tests}
use Rattle.std.proofs.lemmas.Option.{none-some, same_Some}
use Rattle.yt_graph.specs.declared.port.OutHead.{OutHead}
use Rattle.yt_graph.specs.Cost.{greatest_sends}
use Rattle.yt_graph.specs.Picture.{PortTree, GraphTree}
use Rattle.yt_rates.specs.declared.stream.Stream.{Stream}
use Rattle.yt_rates.specs.declared.fault.RateFault.{RateFault}
use Rattle.yt_rates.specs.declared.fault.RateFault.TheVariants.{Over, Zero, Span, Memory}
use Rattle.yt_rates.specs.Faults.{ArePassedWithin, outs_fault, port_fault}
use Rattle.yt_rates.specs.Rates.{passed_on, stream_of, period_of}
use Rattle.yt_rate_laws.specs.Deciding.{IsFirstCause}

module _ (port : PortTree) (stream : Stream) where
  -- an out that is within its limits
  pub record IsFine (out : ℕ) : Type 0 where
    pub sends : 1 ≤ greatest_sends port out
    pub gap : 1 ≤ (passed_on port stream out).period
    pub reach : (passed_on port stream out).start ≤ 4000000

  pub none_passed : ArePassedWithin port stream 0
  none_passed = record { sends = λ out a b. absurd (omega arith); gap = λ out a b. absurd (omega arith); reach = λ out a b. absurd (omega arith) }

  last_or_before : (out count : ℕ) → out ≤ count + 1 → (out ≤ count) ⊎ (out ≡ count + 1)
  last_or_before out count le = by (nat_lt count out) refl
    where
      by : (b : Bool) → nat_lt count out ≡ b → (out ≤ count) ⊎ (out ≡ count + 1)
      by true e = inr (grind (arith, nat_tests))
      by false e = inl (grind (arith, nat_tests))

  -- one out more
  pub one_more : (count : ℕ) → ArePassedWithin port stream count → IsFine (count + 1) → ArePassedWithin port stream (count + 1)
  one_more count h one = record {
    sends = λ out a b. ⊎_elim (λ (l : out ≤ count). h.sends out a l) (λ (e : out ≡ count + 1). subst (λ n. 1 ≤ greatest_sends port n) (sym e) one.sends) (last_or_before out count b);
    gap = λ out a b. ⊎_elim (λ (l : out ≤ count). h.gap out a l) (λ (e : out ≡ count + 1). subst (λ n. 1 ≤ (passed_on port stream n).period) (sym e) one.gap) (last_or_before out count b);
    reach = λ out a b. ⊎_elim (λ (l : out ≤ count). h.reach out a l) (λ (e : out ≡ count + 1). subst (λ n. (passed_on port stream n).start ≤ 4000000) (sym e) one.reach) (last_or_before out count b);
  }

  some_from : (n : ℕ) → (n == 0) ≡ false → 1 ≤ n
  some_from n e = grind (arith, nat_tests)

  -- what the first fault of the outs is
  abbrev pub IsCause : ℕ → RateFault → Type 0
  IsCause number (Over n period) = ⊥
  IsCause number (Zero n out) = (n ≡ number) × (1 ≤ out) × (out ≤ length port.outs) × ArePassedWithin port stream (out - 1) × ((greatest_sends port out ≡ 0) ⊎ ((passed_on port stream out).period ≡ 0))
  IsCause number (Span n) = (n ≡ number) × (out : ℕ) × (1 ≤ out) × (out ≤ length port.outs) × ArePassedWithin port stream (out - 1) × (1 ≤ greatest_sends port out) × (1 ≤ (passed_on port stream out).period) × (4000000 < (passed_on port stream out).start)
  IsCause number Memory = ⊥

  -- a fault, or none, of outs of which so many stand before them
  record Decided (number count left : ℕ) (o : Option RateFault) : Type 0 where
    none : o ≡ None → ArePassedWithin port stream (count + left)
    some : (fault : RateFault) → o ≡ Some fault → IsCause number fault

  before_it : (count : ℕ) → ArePassedWithin port stream count → ArePassedWithin port stream (count + 1 - 1)
  before_it count h = let e : count ≡ count + 1 - 1 = omega arith in subst (ArePassedWithin port stream) e h

  outs_decided : (number count : ℕ) (outs : List OutHead) → count + length outs ≡ length port.outs → ArePassedWithin port stream count → Decided number count (length outs) (outs_fault number port stream (count + 1) outs)
  outs_decided number count [] all h = record { none = λ e. let same : count ≡ count + 0 = omega arith in subst (ArePassedWithin port stream) same h; some = λ fault e. absurd (none-some fault e) }
  outs_decided number count (o ∷ rest) all h = by zero_test refl far_test refl (λ one. outs_decided number (count + 1) rest (omega arith) (one_more count h one))
    where
      zero_test : Bool
      zero_test = (greatest_sends port (count + 1) == 0) || ((passed_on port stream (count + 1)).period == 0)

      far_test : Bool
      far_test = nat_lt 4000000 (passed_on port stream (count + 1)).start

      more : Option RateFault
      more = outs_fault number port stream (count + 1 + 1) rest

      by : (a : Bool) → zero_test ≡ a → (b : Bool) → far_test ≡ b → (IsFine (count + 1) → Decided number (count + 1) (length rest) more) → Decided number count (suc (length rest)) (cond a (Some (Zero number (count + 1))) (cond b (Some (Span number)) more))
      by true e b d next = record {
        none = λ n. absurd (none-some (Zero number (count + 1)) (sym n));
        some = λ fault s.
            let zero : (greatest_sends port (count + 1) ≡ 0) ⊎ ((passed_on port stream (count + 1)).period ≡ 0) =
            ⊎_elim (λ (x : (greatest_sends port (count + 1) == 0) ≡ true). inl (eqb-true (greatest_sends port (count + 1)) 0 x)) (λ (x : ((passed_on port stream (count + 1)).period == 0) ≡ true). inr (eqb-true (passed_on port stream (count + 1)).period 0 x)) (or_cases (greatest_sends port (count + 1) == 0) ((passed_on port stream (count + 1)).period == 0) e) in
            subst (IsCause number) (same_Some (Zero number (count + 1)) fault s) (refl, omega arith, omega arith, before_it count h, zero);
      }
      by false e true d next =
          let parts = or_parts (greatest_sends port (count + 1) == 0) ((passed_on port stream (count + 1)).period == 0) e in
          record {
            none = λ n. absurd (none-some (Span number) (sym n));
            some = λ fault s. subst (IsCause number) (same_Some (Span number) fault s) (refl, count + 1, omega arith, omega arith, before_it count h, some_from (greatest_sends port (count + 1)) parts.0, some_from (passed_on port stream (count + 1)).period parts.1, ltb-true 4000000 (passed_on port stream (count + 1)).start d);
          }
      by false e false d next =
          let parts = or_parts (greatest_sends port (count + 1) == 0) ((passed_on port stream (count + 1)).period == 0) e in
          let rest_of = next (record { sends = some_from (greatest_sends port (count + 1)) parts.0; gap = some_from (passed_on port stream (count + 1)).period parts.1; reach = grind (arith, nat_tests) }) in
          record {
            none = λ n. let same : count + 1 + length rest ≡ count + suc (length rest) = omega arith in subst (ArePassedWithin port stream) same (rest_of.none n);
            some = rest_of.some;
          }

  -- outs that are within their limits have no fault
  pub no_fault : (number count : ℕ) (outs : List OutHead) → ((n : ℕ) → 1 ≤ n → n ≤ count + length outs → IsFine n) → outs_fault number port stream (count + 1) outs ≡ None
  no_fault number count [] all = refl
  no_fault number count (o ∷ rest) all =
      let one = all (count + 1) (omega arith) (omega arith) in
      let s : (greatest_sends port (count + 1) == 0) ≡ false = let k = one.sends in grind (arith, nat_tests) in
      let p : ((passed_on port stream (count + 1)).period == 0) ≡ false = let k = one.gap in grind (arith, nat_tests) in
      let f : nat_lt 4000000 (passed_on port stream (count + 1)).start ≡ false = let k = one.reach in grind (arith, nat_tests) in
      ap (λ a. cond a (Some (Zero number (count + 1))) (cond (nat_lt 4000000 (passed_on port stream (count + 1)).start) (Some (Span number)) (outs_fault number port stream (count + 1 + 1) rest))) (or_from (greatest_sends port (count + 1) == 0) ((passed_on port stream (count + 1)).period == 0) s p)
      ∙ ap (λ b. cond b (Some (Span number)) (outs_fault number port stream (count + 1 + 1) rest)) f
      ∙ no_fault number (count + 1) rest (λ n a b. all n a (omega arith))

module _ (g : GraphTree) (number : ℕ) (port : PortTree) where
  pub record PortDecided (o : Option RateFault) : Type 0 where
    pub none : o ≡ None → (period_of g port ≤ 1000000) × ArePassedWithin port (stream_of g port) (length port.outs)
    pub some : (fault : RateFault) → o ≡ Some fault → IsFirstCause g number port fault

  cause_from : period_of g port ≤ 1000000 → (fault : RateFault) → IsCause port (stream_of g port) number fault → IsFirstCause g number port fault
  cause_from le (Over n period) h = absurd h
  cause_from le (Zero n out) h = (h.0, record { period = le; some = h.1; one_of = h.2; before = h.3 }, h.4)
  cause_from le (Span n) h = (h.0, h.1, record { period = le; some = h.2; one_of = h.3; before = h.4 }, h.5, h.6, h.7)
  cause_from le Memory h = absurd h

  pub port_decided : PortDecided (port_fault g number port)
  port_decided = by (nat_lt 1000000 (period_of g port)) refl
    where
      by : (b : Bool) → nat_lt 1000000 (period_of g port) ≡ b → PortDecided (cond b (Some (Over number (period_of g port))) (outs_fault number port (stream_of g port) 1 port.outs))
      by true e = record {
        none = λ n. absurd (none-some (Over number (period_of g port)) (sym n));
        some = λ fault s. subst (IsFirstCause g number port) (same_Some (Over number (period_of g port)) fault s) (refl, refl, ltb-true 1000000 (period_of g port) e);
      }
      by false e =
          let le : period_of g port ≤ 1000000 = grind (arith, nat_tests) in
          let decided = outs_decided port (stream_of g port) number 0 port.outs (omega arith) (none_passed port (stream_of g port)) in
          let all : 0 + length port.outs ≡ length port.outs = omega arith in
          record { none = λ n. (le, subst (ArePassedWithin port (stream_of g port)) all (decided.none n)); some = λ fault s. cause_from le fault (decided.some fault s) }

  pub fine_is_none : period_of g port ≤ 1000000 → ArePassedWithin port (stream_of g port) (length port.outs) → port_fault g number port ≡ None
  fine_is_none le h =
      let test : nat_lt 1000000 (period_of g port) ≡ false = grind (arith, nat_tests) in
      ap (λ b. cond b (Some (Over number (period_of g port))) (outs_fault number port (stream_of g port) 1 port.outs)) test
      ∙ no_fault port (stream_of g port) number 0 port.outs (λ n a b. let c : n ≤ length port.outs = omega arith in record { sends = h.sends n a c; gap = h.gap n a c; reach = h.reach n a c })
