-- The outs of a port one after the other, and their first fault.
use Rattle.std.proofs.Common.{◌≡◌, ℕ, zero, suc, ◌+◌, ◌-◌, ◌*◌, ◌/◌, ◌<◌, ◌≤◌, ◌⊎◌, inl, inr, Bool, true, false, ◌||◌, ◌==◌, List, [], ◌∷◌, ◌++◌, length, drop, Option, None, Some, refl, sym, ap, ◌∙◌, subst, arith}
use Rattle.std.specs.Prelude.{nat_lt, if◌then◌else◌, slice_get}
use Rattle.std.specs.Option.{option_map, unwrap_or}
use Rattle.std.proofs.Math.Seq.{drop-length}
use Rattle.std.proofs.lemmas.Bool.Decides.{nat_tests}
use Rattle.yt_list.specs.Numbered.{numbered, numbered_or}
use Rattle.yt_list.proofs.Lemmas.{numbered_next, numbered_place}
use Rattle.yt_graph.specs.declared.port.OutHead.{OutHead}
use Rattle.yt_graph.specs.Picture.{PortTree}
use Rattle.yt_graph.specs.Cost.{greatest_sends}
use Rattle.yt_cost.specs.Codes.{PortCode, ForCode, AreSendsOf}
use Rattle.yt_cost.proofs.Lemmas.{drop_at}
use Rattle.yt_rates.specs.declared.stream.Stream.{Stream}
use Rattle.yt_rates.specs.declared.fault.RateFault.{RateFault}
use Rattle.yt_rates.specs.declared.fault.RateFault.TheVariants.{Zero, Span}
use Rattle.yt_rates.specs.Rates.{every_of, passed_on}
use Rattle.yt_rates.specs.Faults.{outs_fault, ArePassedWithin}
use Rattle.yt_rates.proofs.Lists.{item_at}

-- the two numbers of messages are all that is said of them
pub same_stream : (s t : Stream) → s.period ≡ t.period → s.start ≡ t.start → s ≡ t
same_stream s t a b = λ i. record { period = a i; start = b i }

-- the `every` of an out by its place
pub every_is : (p : PortTree) (i : ℕ) (o : OutHead) → slice_get p.outs i ≡ Some o → every_of p (i + 1) ≡ o.every
every_is p i o there =
    ap (λ o. unwrap_or (option_map (λ o. o.every) o) 1) (numbered_next p.outs i ∙ there)

-- what an out passes on, by the numbers that it is made of
pub passed_is : (p : PortTree) (s t : Stream) (i : ℕ) (o : OutHead) (sends : ℕ) → slice_get p.outs i ≡ Some o → sends ≡ greatest_sends p (i + 1) → t.period ≡ o.every * s.period / sends → t.start ≡ s.start + s.period + (sends - 1) * (o.every * s.period / sends) → t ≡ passed_on p s (i + 1)
passed_is p s t i o sends there n period start =
    let e = sym (every_is p i o there) in
    same_stream t (passed_on p s (i + 1))
    (period ∙ ap (λ m. m * s.period / sends) e ∙ ap (λ k. every_of p (i + 1) * s.period / k) n)
    (start ∙ ap (λ m. s.start + s.period + (sends - 1) * (m * s.period / sends)) e ∙ ap (λ k. s.start + s.period + (k - 1) * (every_of p (i + 1) * s.period / k)) n)

-- what is kept of a port's sends is their greatest number
pub sends_is : (codes : List PortCode) (number : ℕ) (p : PortTree) (out n : ℕ) → 1 ≤ number → number ≤ length codes → ForCode codes number (λ kept. AreSendsOf p kept.sends) → ForCode codes number (λ kept. n ≡ numbered_or kept.sends out 0) → 1 ≤ out → out ≤ length p.outs → n ≡ greatest_sends p out
sends_is codes number p out n first last kept is low high =
    let at = item_at codes (number - 1) (omega (arith, first, last)) in
    let there = numbered_place codes number first ∙ at.1 in
    is at.0 there ∙ (kept at.0 there).each out low high

module _ (number : ℕ) (p : PortTree) (s : Stream) where
  -- what is decided at an out, by its two tests
  abbrev decided : Bool → Bool → ℕ → Option RateFault → Option RateFault
  decided zero_here far out rest = if zero_here then Some (Zero number out) else if far then Some (Span number) else rest

  here : (outs : List OutHead) (i : ℕ) (o : OutHead) → slice_get outs i ≡ Some o → outs_fault number p s (i + 1) (drop i outs) ≡ decided (greatest_sends p (i + 1) == 0 || (passed_on p s (i + 1)).period == 0) (nat_lt 4000000 (passed_on p s (i + 1)).start) (i + 1) (outs_fault number p s (i + 1 + 1) (drop (i + 1) outs))
  here outs i o there = ap (outs_fault number p s (i + 1)) (drop_at outs i o there)

  -- an out on which nothing is sent
  pub unsent : (outs : List OutHead) (i : ℕ) (o : OutHead) → slice_get outs i ≡ Some o → greatest_sends p (i + 1) ≡ 0 → outs_fault number p s (i + 1) (drop i outs) ≡ Some (Zero number (i + 1))
  unsent outs i o there e =
      let test : (greatest_sends p (i + 1) == 0) ≡ true = grind (arith, nat_tests) in
      here outs i o there ∙ ap (λ b. decided (b || (passed_on p s (i + 1)).period == 0) (nat_lt 4000000 (passed_on p s (i + 1)).start) (i + 1) (outs_fault number p s (i + 1 + 1) (drop (i + 1) outs))) test

  sent_test : (n : ℕ) → 1 ≤ n → (n == 0) ≡ false
  sent_test n le = grind (arith, nat_tests)

  none_test : (n : ℕ) → n ≡ 0 → (n == 0) ≡ true
  none_test n e = grind (arith, nat_tests)

  -- an out without a gap
  pub gapless : (outs : List OutHead) (i : ℕ) (o : OutHead) (t : Stream) → slice_get outs i ≡ Some o → 1 ≤ greatest_sends p (i + 1) → t ≡ passed_on p s (i + 1) → t.period ≡ 0 → outs_fault number p s (i + 1) (drop i outs) ≡ Some (Zero number (i + 1))
  gapless outs i o t there sent is e =
      let zero_gap : (passed_on p s (i + 1)).period ≡ 0 = sym (ap (λ s. s.period) is) ∙ e in
      let far = nat_lt 4000000 (passed_on p s (i + 1)).start in
      let rest = outs_fault number p s (i + 1 + 1) (drop (i + 1) outs) in
      here outs i o there
      ∙ ap (λ b. decided (b || (passed_on p s (i + 1)).period == 0) far (i + 1) rest) (sent_test (greatest_sends p (i + 1)) sent)
      ∙ ap (λ b. decided b far (i + 1) rest) (none_test (passed_on p s (i + 1)).period zero_gap)

  fine_here : (outs : List OutHead) (i : ℕ) (o : OutHead) (t : Stream) → slice_get outs i ≡ Some o → 1 ≤ greatest_sends p (i + 1) → t ≡ passed_on p s (i + 1) → 1 ≤ t.period → outs_fault number p s (i + 1) (drop i outs) ≡ decided false (nat_lt 4000000 t.start) (i + 1) (outs_fault number p s (i + 1 + 1) (drop (i + 1) outs))
  fine_here outs i o t there sent is le =
      let gap : 1 ≤ (passed_on p s (i + 1)).period = subst (λ s. 1 ≤ s.period) is le in
      let far = nat_lt 4000000 (passed_on p s (i + 1)).start in
      let rest = outs_fault number p s (i + 1 + 1) (drop (i + 1) outs) in
      here outs i o there
      ∙ ap (λ b. decided (b || (passed_on p s (i + 1)).period == 0) far (i + 1) rest) (sent_test (greatest_sends p (i + 1)) sent)
      ∙ ap (λ b. decided b far (i + 1) rest) (sent_test (passed_on p s (i + 1)).period gap)
      ∙ ap (λ s. decided false (nat_lt 4000000 s.start) (i + 1) rest) (sym is)

  -- an out that reaches too far
  pub too_far : (outs : List OutHead) (i : ℕ) (o : OutHead) (t : Stream) → slice_get outs i ≡ Some o → 1 ≤ greatest_sends p (i + 1) → t ≡ passed_on p s (i + 1) → 1 ≤ t.period → 4000000 < t.start → outs_fault number p s (i + 1) (drop i outs) ≡ Some (Span number)
  too_far outs i o t there sent is le far =
      let test : nat_lt 4000000 t.start ≡ true = grind (arith, nat_tests) in
      fine_here outs i o t there sent is le ∙ ap (λ b. decided false b (i + 1) (outs_fault number p s (i + 1 + 1) (drop (i + 1) outs))) test

  -- an out without a fault
  pub next_out : (outs : List OutHead) (i : ℕ) (o : OutHead) (t : Stream) → slice_get outs i ≡ Some o → 1 ≤ greatest_sends p (i + 1) → t ≡ passed_on p s (i + 1) → 1 ≤ t.period → t.start ≤ 4000000 → outs_fault number p s (i + 1 + 1) (drop (i + 1) outs) ≡ outs_fault number p s (i + 1) (drop i outs)
  next_out outs i o t there sent is le near =
      let test : nat_lt 4000000 t.start ≡ false = grind (arith, nat_tests) in
      sym (fine_here outs i o t there sent is le ∙ ap (λ b. decided false b (i + 1) (outs_fault number p s (i + 1 + 1) (drop (i + 1) outs))) test)

  -- behind all outs there is no fault
  pub no_out_left : (outs : List OutHead) (out i : ℕ) → i ≡ length outs → outs_fault number p s out (drop i outs) ≡ None
  no_out_left outs out i end = ap (outs_fault number p s out) (ap (λ n. drop n outs) end ∙ drop-length outs)

-- a number up to one more is that, or below
last_or_less : (n m : ℕ) → n ≤ m + 1 → (n ≡ m + 1) ⊎ (n ≤ m)
last_or_less n m le = by (nat_lt m n) refl
  where
    by : (b : Bool) → nat_lt m n ≡ b → (n ≡ m + 1) ⊎ (n ≤ m)
    by true e = inl (grind (arith, nat_tests))
    by false e = inr (grind (arith, nat_tests))

-- what holds of all outs so far and of the next one
pub one_out_more : (P : ℕ → Type 0) (n : ℕ) → ((out : ℕ) → 1 ≤ out → out ≤ n → P out) → P (n + 1) → (out : ℕ) → 1 ≤ out → out ≤ n + 1 → P out
one_out_more P n each new out low high =
    elim (last_or_less out n high) [
      | inl h ↦ subst P (sym h) new
      | inr h ↦ each out low h
    ]

-- the items of a list with one more
pub before_push : {X : Type 0} (xs : List X) (x : X) (k : ℕ) → k < length xs → slice_get (xs ++ x ∷ []) k ≡ slice_get xs k
before_push [] x k lt = absurd (omega (arith, lt))
before_push (y ∷ xs) x zero lt = refl
before_push (y ∷ xs) x (suc k) lt = before_push xs x k (omega (arith, lt))

pub at_push : {X : Type 0} (xs : List X) (x : X) → slice_get (xs ++ x ∷ []) (length xs) ≡ Some x
at_push [] x = refl
at_push (y ∷ xs) x = at_push xs x

-- what is passed on so far, with one more out
pub passed_more : (p : PortTree) (s t : Stream) (outs more : List Stream) (n : ℕ) → length outs ≡ n → t ≡ passed_on p s (n + 1) → more ≡ outs ++ t ∷ [] → ((out : ℕ) → 1 ≤ out → out ≤ n → numbered outs out ≡ Some (passed_on p s out)) → (out : ℕ) → 1 ≤ out → out ≤ n + 1 → numbered more out ≡ Some (passed_on p s out)
passed_more p s t outs more n count is pushed each out low high =
    elim (last_or_less out n high) [
      | inl h ↦
          let place : out - 1 ≡ length outs = omega (arith, h, count) in
          ap (λ l. numbered l out) pushed ∙ numbered_place (outs ++ t ∷ []) out low ∙ ap (slice_get (outs ++ t ∷ [])) place ∙ at_push outs t ∙ ap Some is ∙ ap (λ k. Some (passed_on p s k)) (sym h)
      | inr h ↦ ap (λ l. numbered l out) pushed ∙ numbered_place (outs ++ t ∷ []) out low ∙ before_push outs t (out - 1) (omega (arith, low, h, count)) ∙ sym (numbered_place outs out low) ∙ each out low h
    ]

pub within_more : (p : PortTree) (s t : Stream) (n : ℕ) → 1 ≤ greatest_sends p (n + 1) → t ≡ passed_on p s (n + 1) → 1 ≤ t.period → t.start ≤ 4000000 → ArePassedWithin p s n → ArePassedWithin p s (n + 1)
within_more p s t n sent is gap reach h = record {
  sends = one_out_more (λ out. 1 ≤ greatest_sends p out) n h.sends sent;
  gap = one_out_more (λ out. 1 ≤ (passed_on p s out).period) n h.gap (subst (λ s. 1 ≤ s.period) is gap);
  reach = one_out_more (λ out. (passed_on p s out).start ≤ 4000000) n h.reach (subst (λ s. s.start ≤ 4000000) is reach);
}
