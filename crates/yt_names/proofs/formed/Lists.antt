-- Lists: what holds of each, and names that differ.
use Rattle.std.proofs.Common.{◌≡◌, ℕ, zero, suc, ◌+◌, ◌<◌, List, [], ◌∷◌, ◌++◌, map, Bool, true, false, ◌||◌, ◌&&◌, not, cond, is_some, Option, Some, None, true≢false, slice_get, bytes_eq, refl, sym, ap, ◌∙◌, subst, arith}
use Rattle.std.specs.Prelude.{◌==◌}
use Rattle.std.specs.List.{All, list_any, position_from}
use Rattle.std.specs.Option.{option_map}
use Rattle.std.proofs.lemmas.List.Folds.{list_any-append}
use Rattle.std.proofs.lemmas.Slice.Eq.{bytes_eq-Decides}
use Rattle.std.proofs.lemmas.Bool.Decides.{nat_tests}
use Rattle.yt_graph.specs.WellFormed.{AreDifferent, AreDifferentWithin}
use Rattle.yt_table.specs.Tables.{first_of}
use Rattle.yt_name_faults.specs.Names.{is_other}

-- what holds of each item, by recursion
abbrev pub Each : {X : Type 0} → (X → Type 0) → List X → Type 0
Each P [] = Unit {0}
Each P (x ∷ xs) = P x × Each P xs

module _ {X : Type 0} (P : X → Type 0) where
  pub each_all : (xs : List X) → Each P xs → All P xs
  each_all [] h k d lt = absurd (omega arith)
  each_all (x ∷ xs) h zero d lt = h.0
  each_all (x ∷ xs) h (suc k) d lt = each_all xs h.1 k d (omega arith)

  pub all_each : (xs : List X) → All P xs → Each P xs
  all_each [] a = tt
  all_each (x ∷ xs) a = (a zero x (omega arith), all_each xs (λ k d lt. a (suc k) d (omega arith)))

  pub each_append : (xs ys : List X) → Each P xs → Each P ys → Each P (xs ++ ys)
  each_append [] ys a b = b
  each_append (x ∷ xs) ys a b = (a.0, each_append xs ys a.1 b)

  pub each_right : (xs ys : List X) → Each P (xs ++ ys) → Each P ys
  each_right [] ys a = a
  each_right (x ∷ xs) ys a = each_right xs ys a.1

  pub each_left : (xs ys : List X) → Each P (xs ++ ys) → Each P xs
  each_left [] ys a = tt
  each_left (x ∷ xs) ys a = (a.0, each_left xs ys a.1)

  pub each_get : (xs : List X) (k : ℕ) (x : X) → Each P xs → slice_get xs k ≡ Some x → P x
  each_get [] k x h e = absurd (cc)
  each_get (y ∷ ys) zero x h e = let same : y ≡ x = cc in subst P same h.0
  each_get (y ∷ ys) (suc k) x h e = each_get ys k x h.1 e

-- what holds of each, by what held before
pub each_map : {X : Type 0} (P Q : X → Type 0) (f : (x : X) → P x → Q x) (xs : List X) → Each P xs → Each Q xs
each_map P Q f [] h = tt
each_map P Q f (x ∷ xs) h = (f x h.0, each_map P Q f xs h.1)

pub each_of : {X : Type 0} (P : X → Type 0) → ((x : X) → P x) → (xs : List X) → Each P xs
each_of P f [] = tt
each_of P f (x ∷ xs) = (f x, each_of P f xs)

pub each_mapped : {X Y : Type 0} (Q : Y → Type 0) (g : X → Y) (xs : List X) → Each (λ x. Q (g x)) xs → Each Q (map g xs)
each_mapped Q g [] h = tt
each_mapped Q g (x ∷ xs) h = (h.0, each_mapped Q g xs h.1)

-- two tests that fail
pub both_fail : (a b : Bool) → (a || b) ≡ false → (a ≡ false) × (b ≡ false)
both_fail true b e = absurd (true≢false e)
both_fail false b e = (refl, e)

pub neither_holds : (a b : Bool) → a ≡ false → b ≡ false → (a || b) ≡ false
neither_holds true b e f = e
neither_holds false b e f = f

-- tests of bytes
pub same_bytes : (x : List ℕ) → bytes_eq x x ≡ true
same_bytes x = (bytes_eq-Decides x x).1 refl

pub bytes_turned : (x y : List ℕ) → bytes_eq x y ≡ false → bytes_eq y x ≡ false
bytes_turned x y e = by (bytes_eq y x) refl
  where
    by : (b : Bool) → bytes_eq y x ≡ b → b ≡ false
    by false p = refl
    by true p = absurd (true≢false (sym ((bytes_eq-Decides x y).1 (sym ((bytes_eq-Decides y x).0 p))) ∙ e))

module _ {X : Type 0} (t : X → Bool) where
  pub none_append : (xs ys : List X) → list_any t xs ≡ false → list_any t ys ≡ false → list_any t (xs ++ ys) ≡ false
  none_append [] ys a b = b
  none_append (x ∷ xs) ys a b =
      let p = both_fail (t x) (list_any t xs) a in
      neither_holds (t x) (list_any t (xs ++ ys)) p.0 (none_append xs ys p.1 b)

  pub none_parts : (xs ys : List X) → list_any t (xs ++ ys) ≡ false → (list_any t xs ≡ false) × (list_any t ys ≡ false)
  none_parts [] ys e = (refl, e)
  none_parts (x ∷ xs) ys e =
      let p = both_fail (t x) (list_any t (xs ++ ys)) e in
      let q = none_parts xs ys p.1 in
      (neither_holds (t x) (list_any t xs) p.0 q.0, q.1)

  pub none_each : (xs : List X) → list_any t xs ≡ false → Each (λ x. t x ≡ false) xs
  none_each [] e = tt
  none_each (x ∷ xs) e = let p = both_fail (t x) (list_any t xs) e in (p.0, none_each xs p.1)

  pub each_none : (xs : List X) → Each (λ x. t x ≡ false) xs → list_any t xs ≡ false
  each_none [] h = refl
  each_none (x ∷ xs) h = neither_holds (t x) (list_any t xs) h.0 (each_none xs h.1)

-- one name more among names that differ
pub one_more : (xs ys : List (List ℕ)) (y : List ℕ) → AreDifferent (xs ++ ys) → list_any (bytes_eq y) (xs ++ ys) ≡ false → AreDifferent (xs ++ y ∷ ys)
one_more [] ys y d n = (n, d)
one_more (x ∷ xs) ys y d n =
    let p = both_fail (bytes_eq y x) (list_any (bytes_eq y) (xs ++ ys)) n in
    let q = none_parts (bytes_eq x) xs ys d.0 in
    (none_append (bytes_eq x) xs (y ∷ ys) q.0 (neither_holds (bytes_eq x y) (list_any (bytes_eq x) ys) (bytes_turned y x p.0) q.1), one_more xs ys y d.1 p.1)

-- parts of names that differ
pub different_right : (xs ys : List (List ℕ)) → AreDifferent (xs ++ ys) → AreDifferent ys
different_right [] ys d = d
different_right (x ∷ xs) ys d = different_right xs ys d.1

pub apart : (xs ys : List (List ℕ)) → AreDifferent (xs ++ ys) → Each (λ y. list_any (bytes_eq y) xs ≡ false) ys
apart [] ys d = each_of _ (λ y. refl) ys
apart (x ∷ xs) ys d = joined ys (none_each (bytes_eq x) ys (none_parts (bytes_eq x) xs ys d.0).1) (apart xs ys d.1)
  where
    joined : (zs : List (List ℕ)) → Each (λ y. bytes_eq x y ≡ false) zs → Each (λ y. list_any (bytes_eq y) xs ≡ false) zs → Each (λ y. list_any (bytes_eq y) (x ∷ xs) ≡ false) zs
    joined [] a b = tt
    joined (z ∷ zs) a b = (neither_holds (bytes_eq z x) (list_any (bytes_eq z) xs) (bytes_turned x z a.0) b.0, joined zs a.1 b.1)

-- each name's first number, as a function tells it, is its own
abbrev pub AreOwn : (List ℕ → Option ℕ) → ℕ → List (List ℕ) → Type 0
AreOwn f n [] = Unit {0}
AreOwn f n (x ∷ xs) = (f x ≡ Some n) × AreOwn f (n + 1) xs

-- such names differ
not_later : (f : List ℕ → Option ℕ) (x : List ℕ) (k n : ℕ) → k < n → f x ≡ Some k → (xs : List (List ℕ)) → AreOwn f n xs → list_any (bytes_eq x) xs ≡ false
not_later f x k n lt e [] own = refl
not_later f x k n lt e (y ∷ ys) own = neither_holds (bytes_eq x y) (list_any (bytes_eq x) ys) (by (bytes_eq x y) refl) (not_later f x k (n + 1) (omega arith) e ys own.1)
  where
    by : (b : Bool) → bytes_eq x y ≡ b → b ≡ false
    by false p = refl
    by true p =
        let both : Some k ≡ Some n = sym e ∙ ap f ((bytes_eq-Decides x y).0 p) ∙ own.0 in
        let same : k ≡ n = cc in
        absurd (omega arith)

pub own_differ : (f : List ℕ → Option ℕ) (n : ℕ) (xs : List (List ℕ)) → AreOwn f n xs → AreDifferent xs
own_differ f n [] own = tt
own_differ f n (x ∷ xs) own = (not_later f x n (n + 1) (omega arith) own.0 xs own.1, own_differ f (n + 1) xs own.1)

-- a number that isn't another
same_number : (k n : ℕ) → not (k == n) ≡ false → k ≡ n
same_number k n e = grind (arith, nat_tests)

pub is_own : (n : ℕ) (o : Option ℕ) → is_some o ≡ true → is_other n o ≡ false → o ≡ Some n
is_own n None s e = absurd (true≢false (sym s))
is_own n (Some k) s e = ap (λ j. Some j) (same_number k n e)

-- a name that is there is found
pub found : (y : List ℕ) (base : ℕ) (xs : List (List ℕ)) → list_any (bytes_eq y) xs ≡ true → is_some (first_of y base xs) ≡ true
found y base [] e = absurd (true≢false (sym e))
found y base (x ∷ xs) e = by (bytes_eq y x) e (found y (base + 1) xs)
  where
    by : (b : Bool) → (b || list_any (bytes_eq y) xs) ≡ true → (list_any (bytes_eq y) xs ≡ true → is_some (first_of y (base + 1) xs) ≡ true) → is_some (cond b (Some base) (position_from (bytes_eq y) (base + 1) xs)) ≡ true
    by true h r = refl
    by false h r = r h

-- numbers from one more on
pub shifted : (t : List ℕ → Bool) (n : ℕ) (xs : List (List ℕ)) → position_from t (n + 1) xs ≡ option_map suc (position_from t n xs)
shifted t n [] = refl
shifted t n (x ∷ xs) = by (t x) (shifted t (n + 1) xs)
  where
    by : (b : Bool) → position_from t (n + 1 + 1) xs ≡ option_map suc (position_from t (n + 1) xs)
        → cond b (Some (n + 1)) (position_from t (n + 1 + 1) xs) ≡ option_map suc (cond b (Some n) (position_from t (n + 1) xs))
    by true h = let e : n + 1 ≡ suc n = omega arith in ap (λ j. Some j) e
    by false h = h

-- names of one owner, and then those of others
and_fails : (a b : Bool) → b ≡ false → (a && b) ≡ false
and_fails true b e = e
and_fails false b e = refl

first_fails : (a b : Bool) → a ≡ false → (a && b) ≡ false
first_fails true b e = absurd (true≢false e)
first_fails false b e = refl

abbrev is_pair : List ℕ → List ℕ → List ℕ × List ℕ → Bool
is_pair w x q = bytes_eq w q.0 && bytes_eq x q.1

its_others : (w x : List ℕ) (ys : List (List ℕ)) → list_any (bytes_eq x) ys ≡ false → list_any (is_pair w x) (map (λ n. (w, n)) ys) ≡ false
its_others w x [] e = refl
its_others w x (y ∷ ys) e =
    let p = both_fail (bytes_eq x y) (list_any (bytes_eq x) ys) e in
    neither_holds (is_pair w x (w, y)) (list_any (is_pair w x) (map (λ n. (w, n)) ys)) (and_fails (bytes_eq w w) (bytes_eq x y) p.0) (its_others w x ys p.1)

not_its : (w x : List ℕ) (qs : List (List ℕ × List ℕ)) → Each (λ (q : List ℕ × List ℕ). bytes_eq w q.0 ≡ false) qs → list_any (is_pair w x) qs ≡ false
not_its w x [] h = refl
not_its w x (q ∷ qs) h = neither_holds (is_pair w x q) (list_any (is_pair w x) qs) (first_fails (bytes_eq w q.0) (bytes_eq x q.1) h.0) (not_its w x qs h.1)

pub owner_joins : (w : List ℕ) (names : List (List ℕ)) (rest : List (List ℕ × List ℕ))
    → AreDifferent names → Each (λ (q : List ℕ × List ℕ). bytes_eq w q.0 ≡ false) rest → AreDifferentWithin rest → AreDifferentWithin (map (λ n. (w, n)) names ++ rest)
owner_joins w [] rest d o r = r
owner_joins w (x ∷ xs) rest d o r = (none_append (is_pair w x) (map (λ n. (w, n)) xs) rest (its_others w x xs d.0) (not_its w x rest o), owner_joins w xs rest d.1 o r)

-- names that a function tells the numbers of
abbrev pub AreFound : (List ℕ → Option ℕ) → List (List ℕ) → Type 0
AreFound f xs = (y : List ℕ) → list_any (bytes_eq y) xs ≡ true → is_some (f y) ≡ true

-- tests of which one holds
pub or_true : (a b : Bool) → b ≡ true → (a || b) ≡ true
or_true true b e = refl
or_true false b e = e

pub or_first : (a b : Bool) → a ≡ true → (a || b) ≡ true
or_first true b e = refl
or_first false b e = absurd (true≢false (sym e))

pub found_head : (f : List ℕ → Option ℕ) (x : List ℕ) (xs : List (List ℕ)) → AreFound f (x ∷ xs) → is_some (f x) ≡ true
found_head f x xs h = h x (or_first (bytes_eq x x) (list_any (bytes_eq x) xs) (same_bytes x))

pub found_tail : (f : List ℕ → Option ℕ) (x : List ℕ) (xs : List (List ℕ)) → AreFound f (x ∷ xs) → AreFound f xs
found_tail f x xs h y e = h y (or_true (bytes_eq y x) (list_any (bytes_eq y) xs) e)

-- a name that is in one of two lists
module _ {X : Type 0} (t : X → Bool) where
  pub any_left : (xs ys : List X) → list_any t xs ≡ true → list_any t (xs ++ ys) ≡ true
  any_left xs ys e = list_any-append t xs ys ∙ or_first (list_any t xs) (list_any t ys) e

  pub any_right : (xs ys : List X) → list_any t ys ≡ true → list_any t (xs ++ ys) ≡ true
  any_right xs ys e = list_any-append t xs ys ∙ or_true (list_any t xs) (list_any t ys) e

  pub any_second : (xs ys : List X) → list_any t xs ≡ false → list_any t (xs ++ ys) ≡ true → list_any t ys ≡ true
  any_second xs ys a e = sym (ap (λ b. b || list_any t ys) a) ∙ sym (list_any-append t xs ys) ∙ e

-- each of some names is among them
pub each_there : (names : List (List ℕ)) → Each (λ y. list_any (bytes_eq y) names ≡ true) names
each_there [] = tt
each_there (x ∷ xs) = (
  ap (λ b. b || list_any (bytes_eq x) xs) (same_bytes x),
  each_map (λ y. list_any (bytes_eq y) xs ≡ true) (λ y. list_any (bytes_eq y) (x ∷ xs) ≡ true) (λ y h. any_right (bytes_eq y) (x ∷ []) xs h) xs (each_there xs),
)
