-- Lists of heads of which each comes before those in front of it.
use Rattle.std.proofs.Common.{◌≡◌, ℕ, ◌+◌, ◌-◌, ◌<◌, ◌≤◌, ◌⊎◌, true, false, List, [], ◌∷◌, ◌++◌, length, get_or, Option, Some, None, refl, sym, ap, subst, ◌∙◌, inr, ⊎_elim, arith, length-append, map, eqb, eqb-true, ne_eqb, suc}
use Rattle.std.specs.Prelude.{MatchOption, option_to_list}
use Rattle.std.proofs.lemmas.Bool.{cases_eq, cases_lt, or_cases}
use Rattle.std.proofs.lemmas.List.{get_or_default, get_or_push, length-map}
use Rattle.std.proofs.lemmas.List.Edits.{length-insert}
use Rattle.std.proofs.lemmas.List.Elements.{Contains-append_left}
use Rattle.std.proofs.lemmas.Map.Steps.{length-le_from_distinct_below}
use Rattle.std.specs.List.{Contains, insert, list_any, IsDistinct, AllByRecursion}
use Rattle.yt_chan.specs.declared.target.Arrived.{Arrived}
use Rattle.yt_chan.specs.declared.target.Arrived.TheVariants.{Port, Output}
use Rattle.yt_chan.specs.declared.heads.Head.{Head}
use Rattle.yt_chan.specs.Inside.Heads.{comes_before, IsFalling, IsFirst, HasAlso, AreApart, IsPlaceFor, IsWithin}
use Rattle.yt_order.proofs.Lemmas.{insert_falls, insert_has, last_least, one_least, other_way}
use Rattle.yt_chan.proofs.HeadOrder.{heads_are_ordered, not_itself}

-- the list after an insert at a place for a head that isn't there
pub put_falls : (xs ys new : List Head) (p : ℕ) (e : Head) → ys ≡ xs → new ≡ insert xs p e → IsFalling xs → IsPlaceFor ys e p → IsFalling new
put_falls xs ys new p e same is falls place =
    subst IsFalling (sym (is ∙ ap (λ (zs : List Head). insert zs p e) (sym same)))
    (insert_falls comes_before ys p e (subst IsFalling (sym same) falls) place.bound (λ k lt. place.before k e lt) (λ k le lt. place.after k e le lt))

no_head : (xs : List Head) (p : ℕ) (e : Head) → IsPlaceFor xs e p → Contains xs e → ⊥
no_head xs p e place has =
    let k = has.0 in
    let n = not_itself e in
    ⊎_elim
    (λ (l : k < p). let t : comes_before e e ≡ true = subst (λ (y : Head). comes_before e y ≡ true) has.2 (place.before k e l) in cc)
    (λ (g : p ≤ k). let t : comes_before e e ≡ true = subst (λ (y : Head). comes_before y e ≡ true) has.2 (place.after k e g has.1) in cc)
    (cases_lt k p)

pub put_has : (xs ys new : List Head) (p : ℕ) (e : Head) → ys ≡ xs → new ≡ insert xs p e → IsPlaceFor ys e p → HasAlso xs e new
put_has xs ys new p e same is place =
    let more = insert_has ys p e place.bound (no_head ys p e place) in
    let also : HasAlso ys e (insert ys p e) = record { added = more.added; kept = more.kept; only = more.only } in
    subst (λ (zs : List Head). HasAlso zs e new) same (subst (λ (zs : List Head). HasAlso ys e zs) (sym (is ∙ ap (λ (zs : List Head). insert zs p e) (sym same))) also)

-- a place that was found
pub place_found : (xs : List Head) (p : ℕ) (e : Head) → IsFalling xs → p ≤ length xs → ((k : ℕ) → k < p → comes_before e (get_or xs k e) ≡ true) →
    ((k : ℕ) → p ≤ k → k < length xs → comes_before e (get_or xs k e) ≡ false) → (p < length xs → get_or xs p e ≡ e → ⊥) → IsPlaceFor xs e p
place_found xs p e falls le before after ne =
    let R : Head → Type 0 = λ y. comes_before y e ≡ true in
    record {
      bound = le;
      before = λ k d lt. subst (λ (y : Head). comes_before e y ≡ true) (get_or_default xs k e d (omega arith)) (before k lt);
      after = λ k d g lt. subst R (get_or_default xs k e d lt) (⊎_elim
          (λ (q : k ≡ p). let s : p < length xs = omega arith in other_way heads_are_ordered e (get_or xs k e) (after k g lt) (λ z. ne s (ap (λ (m : ℕ). get_or xs m e) (sym q) ∙ z)))
          (λ (n : k ≡ p → ⊥).
          let s : p < length xs = omega arith in
          let f = falls p k e (omega arith) lt in
          let t = other_way heads_are_ordered e (get_or xs p e) (after p (omega arith) s) (λ z. ne s z) in
          heads_are_ordered.on (get_or xs k e) (get_or xs p e) e f t)
          (cases_eq k p));
    }

pub popped_apart : (xs ys : List Head) (r : Option Head) → xs ≡ ys ++ option_to_list r → AreApart xs → AreApart ys
popped_apart xs ys r e apart =
    let in' : (o : Head) → Contains ys o → Contains xs o = λ o has. let C : List Head → Type 0 = λ zs. Contains zs o in subst C (sym e) (Contains-append_left ys (option_to_list r) o has) in
    record { within = λ o has. apart.within o (in' o has); one = λ a b f g. apart.one a b (in' a f) (in' b g) }

pub has_there : (xs : List Head) (e : Head) → Contains xs e → HasAlso xs e xs
has_there xs e has = record { added = has; kept = λ o h. h; only = λ o h. inr h }

pub also_apart : (xs ys : List Head) (e : Head) → HasAlso xs e ys → AreApart xs → IsWithin e.target → ((o : Head) → Contains xs o → o.target ≡ e.target → o ≡ e) → AreApart ys
also_apart xs ys e also apart within one = record {
  within = λ o has. ⊎_elim (λ (q : o ≡ e). subst (λ (x : Head). IsWithin x.target) (sym q) within) (λ (h : Contains xs o). apart.within o h) (also.only o has);
  one = λ a b f g t.
      ⊎_elim
      (λ (p : a ≡ e). ⊎_elim
      (λ (q : b ≡ e). p ∙ sym q)
      (λ (h : Contains xs b). p ∙ sym (one b h (sym t ∙ ap (λ (x : Head). x.target) p)))
      (also.only b g))
      (λ (k : Contains xs a). ⊎_elim
      (λ (q : b ≡ e). one a k (t ∙ ap (λ (x : Head). x.target) q) ∙ sym q)
      (λ (h : Contains xs b). apart.one a b k h t)
      (also.only b g))
      (also.only a f);
}

-- heads are no more than targets

code : Arrived → ℕ
code (Port n) = n
code (Output n) = 65 + n

one_code : (a b : Arrived) → IsWithin a → IsWithin b → code a ≡ code b → a ≡ b
unfolding code
one_code (Port a) (Port b) v w e = ap (λ (n : ℕ). Port n) e
one_code (Port a) (Output b) v w e = absurd (omega arith)
one_code (Output a) (Port b) v w e = absurd (omega arith)
one_code (Output a) (Output b) v w e = let f : a ≡ b = omega arith in ap (λ (n : ℕ). Output n) f

code_below : (a : Arrived) → IsWithin a → code a < 82
unfolding code
code_below (Port a) w = omega arith
code_below (Output a) w = omega arith

code_of : Head → ℕ
code_of h = code h.target

abbrev codes_of : List Head → List ℕ
codes_of xs = map code_of xs

differ : (x : ℕ) (xs : List Head) → ((y : Head) → Contains xs y → x ≡ code_of y → ⊥) → AllByRecursion (λ n. eqb x n ≡ false) (codes_of xs)
differ x [] h = tt
differ x (y ∷ ys) h =
    (ne_eqb x (code_of y) (h y (0, omega arith, refl)), differ x ys (λ z has. let b = has.1 in h z (suc has.0, omega arith, has.2)))

distinct : (xs : List Head) → IsFalling xs → AreApart xs → IsDistinct eqb (codes_of xs)
unfolding IsDistinct code_of
distinct [] falls apart = tt
distinct (x ∷ xs) falls apart =
    let in' : (y : Head) → Contains xs y → Contains (x ∷ xs) y = λ y has. let b = has.1 in (suc has.0, omega arith, has.2) in
    let here : Contains (x ∷ xs) x = (0, omega arith, refl) in (
      differ (code_of x) xs (λ y has e.
          let t = one_code x.target y.target (apart.within x here) (apart.within y (in' y has)) e in
          let s : x ≡ y = apart.one x y here (in' y has) t in
          let b = has.1 in
          let f : comes_before (get_or xs has.0 y) x ≡ true = falls 0 (suc has.0) y (omega arith) (omega arith) in
          let g : comes_before y x ≡ true = subst (λ (z : Head). comes_before z x ≡ true) has.2 f in
          let n : comes_before y y ≡ true = subst (λ (z : Head). comes_before y z ≡ true) s g in
          let m = not_itself y in
          cc),
      distinct xs
          (λ i j d lt b. falls (suc i) (suc j) d (omega arith) (omega arith))
          (record { within = λ y has. apart.within y (in' y has); one = λ a b f g. apart.one a b (in' a f) (in' b g) }),
    )

any_below : (xs : List Head) (q : ℕ) → AreApart xs → list_any (eqb q) (codes_of xs) ≡ true → q < 82
unfolding code_of
any_below [] q apart h = cc
any_below (x ∷ xs) q apart h =
    ⊎_elim
    (λ (e : eqb q (code_of x) ≡ true). let s = eqb-true q (code_of x) e in let b = code_below x.target (apart.within x (0, omega arith, refl)) in omega arith)
    (λ (r : list_any (eqb q) (codes_of xs) ≡ true).
    let in' : (y : Head) → Contains xs y → Contains (x ∷ xs) y = λ y has. let b = has.1 in (suc has.0, omega arith, has.2) in
    any_below xs q (record { within = λ y has. apart.within y (in' y has); one = λ a b f g. apart.one a b (in' a f) (in' b g) }) r)
    (or_cases (eqb q (code_of x)) (list_any (eqb q) (codes_of xs)) h)

-- there are 82 heads at most
pub few_heads : (xs : List Head) → IsFalling xs → AreApart xs → length xs ≤ 82
few_heads xs falls apart =
    let l = length-map xs code_of in
    let d = length-le_from_distinct_below (codes_of xs) 82 (distinct xs falls apart) (λ q h. any_below xs q apart h) in
    omega arith

-- so there is room for one that isn't there
pub room_for : (xs ys : List Head) (p : ℕ) (e : Head) → ys ≡ xs → IsFalling xs → AreApart xs → IsPlaceFor ys e p → IsWithin e.target → ((o : Head) → Contains xs o → o.target ≡ e.target → o ≡ e) → length xs < 82
room_for xs ys p e same falls apart place within one =
    let new = insert xs p e in
    let also = put_has xs ys new p e same refl place in
    let l = ap length same in
    let b = place.bound in
    let m = length-insert xs p e (omega arith) in
    let f = few_heads new (put_falls xs ys new p e same refl falls place) (also_apart xs new e also apart within one) in
    omega arith

-- what is left where the first is taken
pub first_popped : (xs ys : List Head) (r : Option Head) (now : ℕ) (n m : ℕ) (head : Head) → IsFalling xs → xs ≡ ys ++ option_to_list r → length xs ≡ n → MatchOption r ((n ≡ 0) × (m ≡ 0)) (λ _. m + 1 ≡ n) → IsFirst xs head → head.time ≡ now →
    MatchOption r ((xs ≡ []) ⊎ ((h : Head) × IsFirst xs h × (h.time ≡ now → ⊥))) (λ h. IsFirst xs h × (h.time ≡ now))
first_popped xs ys None now n m head falls e l k first time = let b = first.has.1 in let z = k.0 in absurd (omega arith)
first_popped xs ys (Some x) now n m head falls e l k first time =
    let at : length xs - 1 ≡ length ys = let a = ap length e in let b = length-append ys (x ∷ []) in omega arith in
    let f = last_least heads_are_ordered xs x falls (omega arith) (ap (λ (zs : List Head). get_or zs (length xs - 1) x) e ∙ get_or_push ys x x (length xs - 1) (sym at)) in
    (f, ap (λ (h : Head). h.time) (one_least heads_are_ordered xs x head f first) ∙ time)
