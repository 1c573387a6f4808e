-- Steps along chains, one by one and by jumps.
use Rattle.std.proofs.Common.{◌≡◌, ℕ, zero, suc, ◌+◌, ◌/◌, ◌%◌, ◌==◌, List, [], ◌∷◌, map, slice_get, Option, Some, None, Bool, true, false, refl, sym, ap, ◌∙◌, arith, if◌then◌else◌}
use Rattle.std.specs.Option.{option_map, option_flatten}
use Rattle.std.proofs.lemmas.Option.{slice_get-map}
use Rattle.std.proofs.lemmas.Bool.Decides.{nat_tests}
use Rattle.yt_name_faults.specs.Paths.{step_back, steps_back}

-- a list of what jumps make of jumps jumps twice
module _ (jump : List (Option ℕ)) where
  from_read : (o : Option (Option ℕ)) → option_flatten (option_map (step_back jump) o) ≡ step_back jump (option_flatten o)
  from_read None = refl
  from_read (Some at) = refl

  jumps : List (Option ℕ)
  jumps = map (step_back jump) jump

  two_steps : (at : Option ℕ) → step_back (map (step_back jump) jump) at ≡ step_back jump (step_back jump at)
  two_steps None = refl
  two_steps (Some n) = ap option_flatten (slice_get-map (step_back jump) jump n) ∙ from_read (slice_get jump n)

  twice_as_many : (n : ℕ) (at : Option ℕ) → steps_back (map (step_back jump) jump) n at ≡ steps_back jump (n + n) at
  twice_as_many zero at = refl
  twice_as_many (suc n) at =
      let e : suc n + suc n ≡ suc (suc (n + n)) = omega arith in
      ap (steps_back (map (step_back jump) jump) n) (two_steps at) ∙ twice_as_many n (step_back jump (step_back jump at)) ∙ sym (ap (λ k. steps_back jump k at) e)

  map_twice : {X Y Z : Type 0} (f : Y → Z) (g : X → Y) (xs : List X) → map f (map g xs) ≡ map (λ x. f (g x)) xs
  map_twice f g [] = refl
  map_twice f g (x ∷ xs) = ap (λ r. f (g x) ∷ r) (map_twice f g xs)

  -- one turn: half as many jumps, each twice as long, and one step before them where the count is odd
  pub halved : (left half : ℕ) (at : List (Option ℕ)) (odd : Bool) → left ≡ (if odd then 1 else 0) + (half + half)
      → map (steps_back (map (step_back jump) jump) half) (if odd then map (step_back jump) at else at) ≡ map (steps_back jump left) at
  halved left half at false e =
      let s : left ≡ half + half = omega arith in
      ap (λ f. map f at) (λ i x. twice_as_many half x i) ∙ ap (λ k. map (steps_back jump k) at) (sym s)
  halved left half at true e =
      let s : left ≡ suc (half + half) = omega arith in
      ap (λ f. map f (map (step_back jump) at)) (λ i x. twice_as_many half x i)
      ∙ map_twice (steps_back jump (half + half)) (step_back jump) at
      ∙ ap (λ k. map (steps_back jump k) at) (sym s)

-- a number is twice its half, and one more where it's odd
parity : (left : ℕ) → left ≡ (if left % 2 == 1 then 1 else 0) + (left / 2 + left / 2)
parity left = grind (arith, nat_tests)

-- the same, for a turn's values
pub turn : (jump at jump_after at_after a b d end : List (Option ℕ)) (left : ℕ)
    → jump_after ≡ map (step_back a) b → a ≡ jump → b ≡ jump
    → at_after ≡ (if left % 2 == 1 then map (step_back d) at else at) → d ≡ jump
    → map (steps_back jump left) at ≡ end → map (steps_back jump_after (left / 2)) at_after ≡ end
turn jump at jump_after at_after a b d end left p q r s t h =
    ap (λ j. map (steps_back j (left / 2)) at_after) (p ∙ ap (λ x. map (step_back x) b) q ∙ ap (map (step_back jump)) r)
    ∙ ap (map (steps_back (map (step_back jump) jump) (left / 2))) (s ∙ ap (λ x. if left % 2 == 1 then map (step_back x) at else at) t)
    ∙ halved jump left (left / 2) at (left % 2 == 1) (parity left)
    ∙ h

-- no step leads nowhere else
pub no_steps : (jump at : List (Option ℕ)) → map (steps_back jump 0) at ≡ at
no_steps jump [] = refl
no_steps jump (a ∷ rest) = ap (λ r. a ∷ r) (no_steps jump rest)

-- a chain that has ended goes nowhere
pub ended : (before : List (Option ℕ)) (n : ℕ) → steps_back before n None ≡ None
ended before zero = refl
ended before (suc n) = ended before n

-- what is read of where all chains lead is where a chain leads
pub read_far : (before : List (Option ℕ)) (n port : ℕ) → option_flatten (slice_get (map (steps_back before n) before) port) ≡ steps_back before (suc n) (Some port)
read_far before n port = ap option_flatten (slice_get-map (steps_back before n) before port) ∙ by (slice_get before port)
  where
    by : (o : Option (Option ℕ)) → option_flatten (option_map (steps_back before n) o) ≡ steps_back before n (option_flatten o)
    by None = sym (ended before n)
    by (Some at) = refl
