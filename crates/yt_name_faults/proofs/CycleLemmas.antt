-- A chain that takes more steps than there are ports has come back, and one that comes back takes any number of steps.
use Rattle.std.proofs.Common.{◌≡◌, ℕ, zero, suc, ◌+◌, ◌-◌, ◌<◌, ◌≤◌, List, [], ◌∷◌, length, slice_get, is_some, Bool, true, false, ◌||◌, ◌⊎◌, inl, inr, Option, Some, None, true≢false, refl, sym, ap, ◌∙◌, subst, arith}
use Rattle.std.specs.List.{list_any, IsDistinct, AllByRecursion}
use Rattle.std.specs.Option.{option_flatten}
use Rattle.std.proofs.Math.Dec.{eqb}
use Rattle.std.proofs.lemmas.Bool.{eqb-true}
use Rattle.std.proofs.lemmas.Map.Steps.{length-le_from_distinct_below}
use Rattle.std.proofs.lemmas.Option.{slice_get_within}
use Rattle.yt_name_faults.specs.Paths.{step_back, steps_back, comes_back, LeadsIntoCycle}
use Rattle.yt_name_faults.specs.Laws.{CyclesAreTold}
use Rattle.yt_name_faults.proofs.ChainLemmas.{ended}

module _ (before : List (Option ℕ)) where
  -- steps and then more steps
  steps_then : (m n : ℕ) (at : Option ℕ) → steps_back before (m + n) at ≡ steps_back before n (steps_back before m at)
  steps_then zero n at = let e : zero + n ≡ n = omega arith in ap (λ k. steps_back before k at) e
  steps_then (suc m) n at = let e : suc m + n ≡ suc (m + n) = omega arith in ap (λ k. steps_back before k at) e ∙ steps_then m n (step_back before at)

  -- the ports of a chain, as far as so many
  walked : ℕ → Option ℕ → List ℕ
  walked zero at = []
  walked (suc n) None = []
  walked (suc n) (Some p) = p ∷ walked n (step_back before (Some p))

  -- a chain that goes on has not ended
  no_end : (n : ℕ) (A : Type 0) → is_some (steps_back before n None) ≡ true → A
  no_end n A e = absurd (true≢false (sym e ∙ ap is_some (ended before n)))

  all_walked : (n : ℕ) (at : Option ℕ) → is_some (steps_back before n at) ≡ true → length (walked n at) ≡ n
  unfolding walked
  all_walked zero at e = refl
  all_walked (suc n) None e = no_end n (length (walked (suc n) None) ≡ suc n) e
  all_walked (suc n) (Some p) e = ap suc (all_walked n (step_back before (Some p)) e)

  -- a port that has one before it is one of the list
  has_before : (n p : ℕ) → is_some (steps_back before n (step_back before (Some p))) ≡ true → p < length before
  has_before n p e = by (slice_get before p) refl e
    where
      by : (o : Option (Option ℕ)) → slice_get before p ≡ o → is_some (steps_back before n (option_flatten o)) ≡ true → p < length before
      by None s h = no_end n (p < length before) h
      by (Some x) s h = slice_get_within before p x s

  are_ports : (n : ℕ) (at : Option ℕ) → is_some (steps_back before n at) ≡ true → (q : ℕ) → list_any (eqb q) (walked n at) ≡ true → q < length before
  unfolding walked
  are_ports zero at e q h = absurd (true≢false (sym h))
  are_ports (suc n) None e q h = no_end n (q < length before) e
  are_ports (suc n) (Some p) e q h = by (eqb q p) refl h (are_ports n (step_back before (Some p)) e q)
    where
      by : (b : Bool) → eqb q p ≡ b → (b || list_any (eqb q) (walked n (step_back before (Some p)))) ≡ true
          → (list_any (eqb q) (walked n (step_back before (Some p))) ≡ true → q < length before) → q < length before
      by true s k r = subst (λ x. x < length before) (sym (eqb-true q p s)) (has_before n p e)
      by false s k r = r k

  -- where a port of a chain stands in it
  stands : (n : ℕ) (at : Option ℕ) (q : ℕ) → list_any (eqb q) (walked n at) ≡ true → (j : ℕ) × (steps_back before j at ≡ Some q)
  unfolding walked
  stands zero at q h = absurd (true≢false (sym h))
  stands (suc n) None q h = absurd (true≢false (sym h))
  stands (suc n) (Some p) q h = by (eqb q p) refl h (stands n (step_back before (Some p)) q)
    where
      by : (b : Bool) → eqb q p ≡ b → (b || list_any (eqb q) (walked n (step_back before (Some p)))) ≡ true
          → (list_any (eqb q) (walked n (step_back before (Some p))) ≡ true → (j : ℕ) × (steps_back before j (step_back before (Some p)) ≡ Some q))
          → (j : ℕ) × (steps_back before j (Some p) ≡ Some q)
      by true s k r = (0, ap (λ x. Some x) (sym (eqb-true q p s)))
      by false s k r = let later = r k in (suc later.0, later.1)

  -- a port of a chain that is reached twice
  abbrev IsTwice : Option ℕ → Type 0
  IsTwice at = (i j q : ℕ) × (i < j) × (steps_back before i at ≡ Some q) × (steps_back before j at ≡ Some q)

  not_among : (q : ℕ) (xs : List ℕ) → list_any (eqb q) xs ≡ false → AllByRecursion (λ y. eqb q y ≡ false) xs
  not_among q [] e = tt
  not_among q (x ∷ xs) e = by (eqb q x) refl e (not_among q xs)
    where
      by : (b : Bool) → eqb q x ≡ b → (b || list_any (eqb q) xs) ≡ false → (list_any (eqb q) xs ≡ false → AllByRecursion (λ y. eqb q y ≡ false) xs) → AllByRecursion (λ y. eqb q y ≡ false) (x ∷ xs)
      by true s k r = absurd (true≢false k)
      by false s k r = (s, r k)

  -- no port is walked twice, or one is
  once_or_twice : (n : ℕ) (at : Option ℕ) → IsDistinct eqb (walked n at) ⊎ IsTwice at
  unfolding walked IsDistinct
  once_or_twice zero at = inl tt
  once_or_twice (suc n) None = inl tt
  once_or_twice (suc n) (Some p) = by (list_any (eqb p) (walked n (step_back before (Some p)))) refl (once_or_twice n (step_back before (Some p)))
    where
      by : (b : Bool) → list_any (eqb p) (walked n (step_back before (Some p))) ≡ b → IsDistinct eqb (walked n (step_back before (Some p))) ⊎ IsTwice (step_back before (Some p))
          → IsDistinct eqb (p ∷ walked n (step_back before (Some p))) ⊎ IsTwice (Some p)
      by true e r = let later = stands n (step_back before (Some p)) p e in inr (0, suc later.0, p, omega arith, refl, later.1)
      by false e (inl d) = inl (not_among p (walked n (step_back before (Some p))) e, d)
      by false e (inr t) = inr (suc t.0, suc t.1, t.2, omega (arith, t.3), t.4, t.5)

  -- of more ports than there are one is walked twice
  goes_round : (port : ℕ) → comes_back before port ≡ true → LeadsIntoCycle before port
  goes_round port e = by (once_or_twice (suc (length before)) (Some port))
    where
      by : IsDistinct eqb (walked (suc (length before)) (Some port)) ⊎ IsTwice (Some port) → LeadsIntoCycle before port
      by (inl d) =
          let few = length-le_from_distinct_below (walked (suc (length before)) (Some port)) (length before) d (are_ports (suc (length before)) (Some port) e) in
          absurd (omega (arith, few, all_walked (suc (length before)) (Some port) e))
      by (inr t) = t

  -- so many times round
  rounds : ℕ → ℕ → ℕ
  rounds zero m = 0
  rounds (suc k) m = suc m + rounds k m

  at_least : (k m : ℕ) → k ≤ rounds k m
  unfolding rounds
  at_least zero m = omega arith
  at_least (suc k) m = omega (arith, at_least k m)

  there_again : (k m q : ℕ) → steps_back before (suc m) (Some q) ≡ Some q → steps_back before (rounds k m) (Some q) ≡ Some q
  unfolding rounds
  there_again zero m q e = refl
  there_again (suc k) m q e = steps_then (suc m) (rounds k m) (Some q) ∙ ap (steps_back before (rounds k m)) e ∙ there_again k m q e

  -- a chain with a cycle does not end
  never_ends : (port n : ℕ) → LeadsIntoCycle before port → steps_back before n (Some port) ≡ None → ⊥
  never_ends port n c e =
      let m = c.1 - suc c.0 in
      let apart : c.1 ≡ c.0 + suc m = omega (arith, c.3) in
      let round : steps_back before (suc m) (Some c.2) ≡ Some c.2 =
      ap (steps_back before (suc m)) (sym c.4) ∙ sym (steps_then c.0 (suc m) (Some port)) ∙ ap (λ k. steps_back before k (Some port)) (sym apart) ∙ c.5 in
      let all = c.0 + rounds n m in
      let far : steps_back before all (Some port) ≡ Some c.2 = steps_then c.0 (rounds n m) (Some port) ∙ ap (steps_back before (rounds n m)) c.4 ∙ there_again n m c.2 round in
      let past : all ≡ n + (all - n) = omega (arith, at_least n m) in
      let over : steps_back before all (Some port) ≡ None =
      ap (λ k. steps_back before k (Some port)) past ∙ steps_then n (all - n) (Some port) ∙ ap (steps_back before (all - n)) e ∙ ended before (all - n) in
      let both : Some c.2 ≡ None = sym far ∙ over in
      absurd (cc)

  is_told : (port : ℕ) → LeadsIntoCycle before port → comes_back before port ≡ true
  is_told port c = by (steps_back before (suc (length before)) (Some port)) refl
    where
      by : (o : Option ℕ) → steps_back before (suc (length before)) (Some port) ≡ o → is_some o ≡ true
      by None e = absurd (never_ends port (suc (length before)) c e)
      by (Some q) e = refl

pub cycles_are_told : CyclesAreTold
cycles_are_told before port = (goes_round before port, is_told before port)
