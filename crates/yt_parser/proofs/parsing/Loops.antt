-- Loops that read things as long as the tokens begin so: what is left decides.
use Rattle.std.proofs.Common.{ℕ, zero, suc, ◌≡◌, ◌≤◌, ◌<◌, Bool, true, false, List, [], ◌∷◌, ◌++◌, length, map, refl, ap, subst, sym, ◌∙◌, append-nil, append_assoc, arith}
use Rattle.yt_parser.specs.declared.cursor.Stop.{Stop}
use Rattle.yt_parser.specs.declared.cursor.Stop.TheVariants.{Syntax, Memory}
use Rattle.yt_grammar.specs.declared.sign.Mark.TheVariants.{Comma}
use Rattle.yt_grammar.specs.Lexemes.{Tok}
use Rattle.yt_grammar.specs.Inside.Reading.{Reading, got, stuck, Reader, made, at_mark, behind_mark, many_of, many, one_or_more}
use Rattle.yt_parser.specs.Inside.Results.{IsStop}

-- the whole reading is that of what is left, with the things so far in front
pub record GoesOn {X : Type 0} (whole : Reading (List X)) (test : List Tok → Bool) (p : Reader X) (xs : List X) (left : List Tok) : Type 0 where
  pub turns : ℕ
  pub enough : length left ≤ turns
  pub same : whole ≡ made (λ ys. xs ++ ys) (many_of turns test p left)

made_same : {X : Type 0} (r : Reading (List X)) → r ≡ made (λ ys. [] ++ ys) r
made_same (got xs rest) = refl
made_same (stuck rest) = refl

made_one : {X : Type 0} (x : X) (r : Reading (List X)) → made (λ ys. x ∷ ys) r ≡ made (λ ys. (x ∷ []) ++ ys) r
made_one x (got xs rest) = refl
made_one x (stuck rest) = refl

made_more : {X : Type 0} (xs : List X) (x : X) (r : Reading (List X)) → made (λ ys. xs ++ ys) (made (λ ys. x ∷ ys) r) ≡ made (λ ys. (xs ++ x ∷ []) ++ ys) r
made_more xs x (got ys rest) = ap (λ zs. got zs rest) (sym (append_assoc xs (x ∷ []) ys))
made_more xs x (stuck rest) = refl

-- at the start nothing is read
pub goes_on-begin : {X : Type 0} (test : List Tok → Bool) (p : Reader X) (s : List Tok) → GoesOn (many test p s) test p [] s
unfolding many
goes_on-begin test p s = record { turns = length s; enough = omega arith; same = made_same (many_of (length s) test p s) }

-- one thing is read, and others may come behind commas
pub goes_on-first : {X : Type 0} (p : Reader X) (s : List Tok) (x : X) (rest : List Tok) → p s ≡ got x rest → GoesOn (one_or_more p s) (at_mark Comma) (behind_mark Comma p) (x ∷ []) rest
unfolding many
goes_on-first p s x rest e =
    record { turns = length rest; enough = omega arith; same = rw e (made_one x (many_of (length rest) (at_mark Comma) (behind_mark Comma p) rest)) }

turn : {X : Type 0} (n : ℕ) (test : List Tok → Bool) (p : Reader X) (left : List Tok) (x : X) (rest : List Tok) → test left ≡ true → p left ≡ got x rest → many_of (suc n) test p left ≡ made (λ ys. x ∷ ys) (many_of n test p rest)
turn n test p left x rest t e = rw (t, e) refl

step_by : {X : Type 0} (whole : Reading (List X)) (test : List Tok → Bool) (p : Reader X) (xs : List X) (left : List Tok) (x : X) (rest : List Tok) (n : ℕ) → length left ≤ n → whole ≡ made (λ ys. xs ++ ys) (many_of n test p left) → test left ≡ true → p left ≡ got x rest → length rest < length left → GoesOn whole test p (xs ++ x ∷ []) rest
step_by whole test p xs left x rest zero h same t e less = absurd (omega arith)
step_by whole test p xs left x rest (suc n) h same t e less =
    record { turns = n; enough = omega arith; same = same ∙ ap (made (λ ys. xs ++ ys)) (turn n test p left x rest t e) ∙ made_more xs x (many_of n test p rest) }

-- one thing more is read
pub goes_on-step : {X : Type 0} (whole : Reading (List X)) (test : List Tok → Bool) (p : Reader X) (xs : List X) (left : List Tok) (x : X) (rest : List Tok) → GoesOn whole test p xs left → test left ≡ true → p left ≡ got x rest → length rest < length left → GoesOn whole test p (xs ++ x ∷ []) rest
goes_on-step whole test p xs left x rest h t e less = step_by whole test p xs left x rest h.turns h.enough h.same t e less

map_one : {X Y : Type 0} (f : Y → X) (ys : List Y) (y : Y) → map f ys ++ f y ∷ [] ≡ map f (ys ++ y ∷ [])
map_one f [] y = refl
map_one f (z ∷ zs) y = ap (λ w. f z ∷ w) (map_one f zs y)

-- the same of pictures
pub goes_on-picture : {X Y : Type 0} (f : Y → X) (whole : Reading (List X)) (test : List Tok → Bool) (p : Reader X) (ys : List Y) (left : List Tok) (y : Y) (rest : List Tok) → GoesOn whole test p (map f ys) left → test left ≡ true → p left ≡ got (f y) rest → length rest < length left → GoesOn whole test p (map f (ys ++ y ∷ [])) rest
goes_on-picture f whole test p ys left y rest h t e less =
    subst (λ xs. GoesOn whole test p xs rest) (map_one f ys y) (goes_on-step whole test p (map f ys) left (f y) rest h t e less)

no_turn : {X : Type 0} (n : ℕ) (test : List Tok → Bool) (p : Reader X) (left : List Tok) → test left ≡ false → many_of n test p left ≡ got [] left
no_turn zero test p left t = refl
no_turn (suc n) test p left t = rw t refl

-- no more is read
pub goes_on-end : {X : Type 0} (whole : Reading (List X)) (test : List Tok → Bool) (p : Reader X) (xs : List X) (left : List Tok) → GoesOn whole test p xs left → test left ≡ false → whole ≡ got xs left
goes_on-end whole test p xs left h t = h.same ∙ ap (made (λ ys. xs ++ ys)) (no_turn h.turns test p left t) ∙ ap (λ zs. got zs left) (append-nil xs)

stuck_turn : {X : Type 0} (whole : Reading (List X)) (test : List Tok → Bool) (p : Reader X) (xs : List X) (left rest : List Tok) (n : ℕ) → whole ≡ made (λ ys. xs ++ ys) (many_of n test p left) → 0 < n → test left ≡ true → p left ≡ stuck rest → whole ≡ stuck rest
stuck_turn whole test p xs left rest zero same more t e = absurd (omega arith)
stuck_turn whole test p xs left rest (suc n) same more t e = same ∙ rw (t, e) refl

some_left : (test : List Tok → Bool) (left : List Tok) → test [] ≡ false → test left ≡ true → 0 < length left
some_left test [] none t = absurd cc
some_left test (t ∷ ts) none e = omega arith

-- reading a thing stops
pub goes_on-stop : {X : Type 0} (whole : Reading (List X)) (test : List Tok → Bool) (p : Reader X) (xs : List X) (left rest : List Tok) (e : Stop) → test [] ≡ false → GoesOn whole test p xs left → test left ≡ true → IsStop (p left) e rest → IsStop whole e rest
goes_on-stop whole test p xs left rest Syntax none h t stops =
    let more = some_left test left none t in
    stuck_turn whole test p xs left rest h.turns h.same (omega (arith, h.enough, more)) t stops
goes_on-stop whole test p xs left rest Memory none h t stops = record {}
