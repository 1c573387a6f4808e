-- Reading things as long as the tokens begin so, step by step.
use Rattle.std.proofs.Common.{◌≡◌, ℕ, zero, suc, ◌≤◌, ◌<◌, Bool, true, false, if◌then◌else◌, List, [], ◌∷◌, length, refl, sym, ap, arith}
use Rattle.yt_grammar.specs.Lexemes.{Tok}
use Rattle.yt_grammar.specs.Inside.Reading.{Reading, got, stuck, Reader, and_then, made, many_of, many}

-- each thing takes a token, and no thing begins where there are none
pub record Steps {X : Type 0} (test : List Tok → Bool) (p : Reader X) : Type 0 where
  pub at_end : test [] ≡ false
  pub takes : (s : List Tok) (x : X) (rest : List Tok) → test s ≡ true → p s ≡ got x rest → length rest < length s

-- what is read then need only be the same behind what was read first
pub and_then_same : {X Y : Type 0} (r : Reading X) (f g : X → Reader Y) → ((x : X) (rest : List Tok) → r ≡ got x rest → f x rest ≡ g x rest) → and_then r f ≡ and_then r g
and_then_same (got x rest) f g h = h x rest refl
and_then_same (stuck rest) f g h = refl

-- one way need only be the same where the test goes it
pub if_same : {A : Type 0} (b : Bool) (u v w : A) → (b ≡ true → u ≡ v) → (if b then u else w) ≡ (if b then v else w)
if_same true u v w h = h refl
if_same false u v w h = refl

-- the second of two, where the test fails
pub if_false : {A : Type 0} (b : Bool) (u w : A) → b ≡ false → (if b then u else w) ≡ w
if_false true u w h = absurd cc
if_false false u w h = refl

-- turns enough are turns enough
pub many_enough : {X : Type 0} (test : List Tok → Bool) (p : Reader X) → Steps test p → (n m : ℕ) (s : List Tok) → length s ≤ n → length s ≤ m → many_of n test p s ≡ many_of m test p s
many_enough test p h zero zero s hn hm = refl
many_enough test p h zero (suc m) [] hn hm = sym (if_false (test []) _ (got [] []) h.at_end)
many_enough test p h zero (suc m) (t ∷ ts) hn hm = absurd (omega arith)
many_enough test p h (suc n) zero [] hn hm = if_false (test []) _ (got [] []) h.at_end
many_enough test p h (suc n) zero (t ∷ ts) hn hm = absurd (omega arith)
many_enough test p h (suc n) (suc m) s hn hm =
    if_same (test s) _ _ (got [] s) λ passes. and_then_same (p s) _ _ λ x rest is.
    let less : length rest < length s = h.takes s x rest passes is in
    ap (made (λ xs. x ∷ xs)) (many_enough test p h n m rest (omega arith) (omega arith))

-- so many turns as there are tokens, or more, are the reading
pub many_is : {X : Type 0} (test : List Tok → Bool) (p : Reader X) → Steps test p → (n : ℕ) (s : List Tok) → length s ≤ n → many_of n test p s ≡ many test p s
unfolding many
many_is test p h n s le = many_enough test p h n (length s) s le (omega arith)
