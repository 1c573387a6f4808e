-- Lists of which each element comes before those in front of it.
use Rattle.std.proofs.Common.{◌≡◌, ℕ, ◌+◌, ◌-◌, ◌<◌, ◌≤◌, ◌⊎◌, Bool, true, false, List, [], ◌∷◌, ◌++◌, length, get_or, Option, Some, None, refl, sym, ap, subst, ◌∙◌, inl, inr, ⊎_elim, arith, length-append, append-nil}
use Rattle.std.specs.Prelude.{MatchOption, slice_get, option_to_list}
use Rattle.std.proofs.lemmas.Bool.{cases_eq, cases_lt, cases_order, both_ways, false_from_ne_true, true_from_ne_false}
use Rattle.std.proofs.lemmas.List.{get_or_default, get_or_push, get_or_append_left}
use Rattle.std.proofs.lemmas.List.Edits.{length-insert, get_or-insert_below, get_or-insert_at, get_or-insert_above}
use Rattle.std.proofs.lemmas.List.Elements.{Contains-append_left, Contains-push, Contains-push_cases}
use Rattle.std.proofs.lemmas.Option.{slice_get-get_or}
use Rattle.std.specs.List.{Contains, insert}
use Rattle.std.specs.List.Sorted.{IsPartitionedBy}
use Rattle.yt_order.specs.Orders.{IsStrictOrder}
use Rattle.yt_order.specs.Falling.{HasOneMore, IsFallingBy, IsLeastBy}

module _ {X : Type 0} where
  -- an element after a place stands one further after an insert there
  at_above : (xs : List X) (p : ℕ) (e d : X) (j : ℕ) → p < j → p ≤ length xs → get_or (insert xs p e) j d ≡ get_or xs (j - 1) d
  at_above xs p e d j lt le =
      let k : j - 1 + 1 ≡ j = omega arith in
      ap (λ (n : ℕ). get_or (insert xs p e) n d) (sym k) ∙ get_or-insert_above xs p e d (j - 1) (omega arith) le

  pub insert_has : (xs : List X) (p : ℕ) (e : X) → p ≤ length xs → (Contains xs e → ⊥) → HasOneMore xs e (insert xs p e)
  insert_has xs p e le fresh = record {
    fresh = fresh;
    added = let n = length-insert xs p e le in (p, omega arith, get_or-insert_at xs p e e le);
    kept = λ o has.
        let n = length-insert xs p e le in
        let k = has.0 in
        ⊎_elim
        (λ (l : k < p). let h : k < length (insert xs p e) = let b = has.1 in omega arith in (k, h, get_or-insert_below xs p e o k l le ∙ has.2))
        (λ (l : p ≤ k). let h : k + 1 < length (insert xs p e) = let b = has.1 in omega arith in (k + 1, h, get_or-insert_above xs p e o k l le ∙ has.2))
        (cases_lt k p);
    only = λ o has.
        let n = length-insert xs p e le in
        let k = has.0 in
        let b = has.1 in
        ⊎_elim
        (λ (q : k ≡ p). inl (sym has.2 ∙ ap (λ (m : ℕ). get_or (insert xs p e) m o) q ∙ get_or-insert_at xs p e o le))
        (λ (s : (k < p) ⊎ (p < k)). inr (⊎_elim
        (λ (l : k < p). let h : k < length xs = omega arith in (k, h, sym (get_or-insert_below xs p e o k l le) ∙ has.2))
        (λ (l : p < k). let h : k - 1 < length xs = omega arith in (k - 1, h, sym (at_above xs p e o k l le) ∙ has.2))
        s))
        (cases_order k p);
  }

  pub push_has : (xs ys new : List X) (p : ℕ) (e : X) → ys ≡ xs → new ≡ insert xs p e → (Contains xs e → ⊥) → p ≤ length ys → HasOneMore xs e new
  push_has xs ys new p e same is fresh le =
      subst (λ (zs : List X). HasOneMore xs e zs) (sym is) (insert_has xs p e (let l = ap length same in omega arith) fresh)

  none_left : (xs : List X) → length xs ≡ 0 → xs ≡ []
  none_left [] e = refl
  none_left (x ∷ xs) e = absurd (omega arith)

  -- an element that isn't in a list, nor the one that the list has more, isn't in the longer list
  pub fresh_after : (xs ys : List X) (x y : X) → HasOneMore xs x ys → (Contains xs y → ⊥) → (y ≡ x → ⊥) → Contains ys y → ⊥
  fresh_after xs ys x y more fresh other has = ⊎_elim other fresh (more.only y has)

  pub none_fresh : (xs : List X) (y : X) → xs ≡ [] → Contains xs y → ⊥
  none_fresh xs y e has = let l = ap length e in let b = has.1 in omega arith

module _ {X : Type 0} (comes : X → X → Bool) where
  pub insert_falls : (xs : List X) (p : ℕ) (e : X) → IsFallingBy comes xs → p ≤ length xs →
      ((k : ℕ) → k < p → comes e (get_or xs k e) ≡ true) →
      ((k : ℕ) → p ≤ k → k < length xs → comes (get_or xs k e) e ≡ true) → IsFallingBy comes (insert xs p e)
  insert_falls xs p e falls le before after i j d lt in' =
      let n = length-insert xs p e le in
      let new = insert xs p e in
      let R : X → X → Type 0 = λ a b. comes a b ≡ true in
      let at = get_or-insert_at xs p e d le in
      ⊎_elim
      (λ (a : j < p).
      let x = get_or-insert_below xs p e d j a le in
      let y = get_or-insert_below xs p e d i (omega arith) le in
      subst (λ (u : X). R u (get_or new i d)) (sym x) (subst (λ (v : X). R (get_or xs j d) v) (sym y) (falls i j d lt (omega arith))))
      (λ (a : p ≤ j).
      ⊎_elim
      (λ (q : j ≡ p).
      let x : get_or new j d ≡ e = ap (λ (m : ℕ). get_or new m d) q ∙ at in
      let y : get_or new i d ≡ get_or xs i e = get_or-insert_below xs p e d i (omega arith) le ∙ get_or_default xs i d e (omega arith) in
      subst (λ (u : X). R u (get_or new i d)) (sym x) (subst (λ (v : X). R e v) (sym y) (before i (omega arith))))
      (λ (q : j ≡ p → ⊥).
      let x = at_above xs p e d j (omega arith) le in
      ⊎_elim
      (λ (s : i ≡ p).
      let y : get_or new i d ≡ e = ap (λ (m : ℕ). get_or new m d) s ∙ at in
      let z : get_or new j d ≡ get_or xs (j - 1) e = x ∙ get_or_default xs (j - 1) d e (omega arith) in
      subst (λ (u : X). R u (get_or new i d)) (sym z) (subst (λ (v : X). R (get_or xs (j - 1) e) v) (sym y) (after (j - 1) (omega arith) (omega arith))))
      (λ (o : (i < p) ⊎ (p < i)). ⊎_elim
      (λ (l : i < p).
      let y = get_or-insert_below xs p e d i l le in
      subst (λ (u : X). R u (get_or new i d)) (sym x) (subst (λ (v : X). R (get_or xs (j - 1) d) v) (sym y) (falls i (j - 1) d (omega arith) (omega arith))))
      (λ (l : p < i).
      let y = at_above xs p e d i l le in
      subst (λ (u : X). R u (get_or new i d)) (sym x) (subst (λ (v : X). R (get_or xs (j - 1) d) v) (sym y) (falls (i - 1) (j - 1) d (omega arith) (omega arith))))
      o)
      (cases_order i p))
      (cases_eq j p))
      (cases_lt j p)

  -- the front of such a list is one
  pub front_falls : (ys zs : List X) → IsFallingBy comes (ys ++ zs) → IsFallingBy comes ys
  front_falls ys zs falls i j d lt in' =
      let l = length-append ys zs in
      let f = falls i j d lt (omega arith) in
      let u = get_or_append_left ys zs d i (omega arith) in
      let v = get_or_append_left ys zs d j in' in
      subst (λ (y : X). comes (get_or ys j d) y ≡ true) u (subst (λ (y : X). comes y (get_or (ys ++ zs) i d) ≡ true) v f)

  -- what is left of such a list where its last element was taken
  pub popped_falls : (xs ys : List X) (r : Option X) → xs ≡ ys ++ option_to_list r → IsFallingBy comes xs → IsFallingBy comes ys
  popped_falls xs ys r e falls = front_falls ys (option_to_list r) (subst (IsFallingBy comes) e falls)

module _ {X : Type 0} {comes : X → X → Bool} (order : IsStrictOrder comes) where
  pub not_after : (a b : X) → comes a b ≡ true → comes b a ≡ false
  not_after a b h = false_from_ne_true (comes b a) (λ k. both_ways (comes a a) (order.itself a) (order.on a b a h k))

  -- what another doesn't come before comes before the other
  pub other_way : (a b : X) → comes a b ≡ false → (b ≡ a → ⊥) → comes b a ≡ true
  other_way a b h ne = true_from_ne_false (comes b a) (λ k. ne (order.either b a k h))

  -- an element that isn't in the list comes after those that it doesn't come before
  after_others : (xs : List X) (e : X) (p : ℕ) → (Contains xs e → ⊥) → ((k : ℕ) → p ≤ k → k < length xs → comes e (get_or xs k e) ≡ false) →
      (k : ℕ) → p ≤ k → k < length xs → comes (get_or xs k e) e ≡ true
  after_others xs e p fresh not k le lt = other_way e (get_or xs k e) (not k le lt) (λ q. fresh (k, lt, q))

  -- the list after a push at a place found in the list
  pub push_falls : (xs ys new : List X) (p : ℕ) (e : X) → ys ≡ xs → new ≡ insert xs p e → IsFallingBy comes xs → (Contains xs e → ⊥) → p ≤ length ys →
      ((k : ℕ) → k < p → comes e (get_or ys k e) ≡ true) →
      ((k : ℕ) → p ≤ k → k < length ys → comes e (get_or ys k e) ≡ false) → IsFallingBy comes new
  push_falls xs ys new p e same is falls fresh le before after =
      let fresh' : Contains ys e → ⊥ = subst (λ (zs : List X). Contains zs e → ⊥) (sym same) fresh in
      let falls' : IsFallingBy comes ys = subst (IsFallingBy comes) (sym same) falls in
      subst (IsFallingBy comes) (sym (is ∙ ap (λ (zs : List X). insert zs p e) (sym same))) (insert_falls comes ys p e falls' le before (after_others ys e p fresh' after))

  -- what comes before the last comes before all
  pub before_all : (xs : List X) (e last : X) → IsFallingBy comes xs → slice_get xs (length xs - 1) ≡ Some last → comes e last ≡ true →
      (k : ℕ) → k < length xs → comes e (get_or xs k e) ≡ true
  before_all xs e last falls is h k lt =
      let n = length xs - 1 in
      let s : get_or xs n e ≡ last = let g = slice_get-get_or xs n e (omega arith) in cc in
      let P : X → Type 0 = λ x. comes e x ≡ true in
      let b : comes e (get_or xs n e) ≡ true = subst P (sym s) h in
      ⊎_elim
      (λ (q : k ≡ n). subst P (sym (ap (λ (m : ℕ). get_or xs m e) q)) b)
      (λ (ne : k ≡ n → ⊥). order.on e (get_or xs n e) (get_or xs k e) b (falls k n e (omega arith) (omega arith)))
      (cases_eq k n)

  pub partitioned : (xs : List X) (e : X) → IsFallingBy comes xs → IsPartitionedBy (λ y. comes e y) xs
  partitioned xs e falls i j d le lt h =
      let P : X → Type 0 = λ x. comes e x ≡ true in
      ⊎_elim
      (λ (q : i ≡ j). subst P (sym (ap (λ (m : ℕ). get_or xs m d) q)) h)
      (λ (ne : i ≡ j → ⊥). order.on e (get_or xs j d) (get_or xs i d) h (falls i j d (omega arith) lt))
      (cases_eq i j)

  pub last_least : (xs : List X) (x : X) → IsFallingBy comes xs → 0 < length xs → get_or xs (length xs - 1) x ≡ x → IsLeastBy comes xs x
  last_least xs x falls some is = record {
    has = (length xs - 1, omega arith, is);
    first = λ o has.
        let n = length xs - 1 in
        let k = has.0 in
        let P : X → Type 0 = λ y. comes o y ≡ false in
        let b = has.1 in
        let last : get_or xs n o ≡ x = get_or_default xs n o x (omega arith) ∙ is in
        ⊎_elim
        (λ (q : k ≡ n).
        let e : o ≡ x = sym has.2 ∙ ap (λ (m : ℕ). get_or xs m o) q ∙ last in
        subst P e (order.itself o))
        (λ (ne : k ≡ n → ⊥).
        let f = falls k n o (omega arith) (omega arith) in
        let g : comes x o ≡ true = subst (λ (y : X). comes x y ≡ true) has.2 (subst (λ (y : X). comes y (get_or xs k o) ≡ true) last f) in
        not_after x o g)
        (cases_eq k n);
  }

  -- the least is one
  pub one_least : (xs : List X) (a b : X) → IsLeastBy comes xs a → IsLeastBy comes xs b → a ≡ b
  one_least xs a b f g = order.either a b (g.first a f.has) (f.first b g.has)

  pub least_at_end : (xs : List X) (r : Option X) → IsFallingBy comes xs → r ≡ slice_get xs (length xs - 1) → MatchOption r (xs ≡ []) (λ x. IsLeastBy comes xs x)
  least_at_end [] None falls e = refl
  least_at_end [] (Some x) falls e = cc
  least_at_end (y ∷ ys) None falls e = let g = slice_get-get_or (y ∷ ys) (length (y ∷ ys) - 1) y (omega arith) in cc
  least_at_end (y ∷ ys) (Some x) falls e =
      let g = slice_get-get_or (y ∷ ys) (length (y ∷ ys) - 1) x (omega arith) in
      let s : get_or (y ∷ ys) (length (y ∷ ys) - 1) x ≡ x = cc in
      last_least (y ∷ ys) x falls (omega arith) s

  pub least_popped : (xs ys : List X) (r : Option X) (n m : ℕ) → IsFallingBy comes xs → xs ≡ ys ++ option_to_list r → length xs ≡ n → MatchOption r ((n ≡ 0) × (m ≡ 0)) (λ _. m + 1 ≡ n) → MatchOption r (xs ≡ []) (λ x. IsLeastBy comes xs x)
  least_popped xs ys None n m falls e l k = none_left xs (l ∙ k.0)
  least_popped xs ys (Some x) n m falls e l k =
      let at : length xs - 1 ≡ length ys = let a = ap length e in let b = length-append ys (x ∷ []) in omega arith in
      last_least xs x falls (omega arith) (ap (λ (zs : List X). get_or zs (length xs - 1) x) e ∙ get_or_push ys x x (length xs - 1) (sym at))

  -- an element is at one place only
  last_fresh : (ys : List X) (x : X) → IsFallingBy comes (ys ++ x ∷ []) → Contains ys x → ⊥
  last_fresh ys x falls has =
      let k = has.0 in
      let l = length-append ys (x ∷ []) in
      let b = has.1 in
      let f = falls k (length ys) x b (omega arith) in
      let u : get_or (ys ++ x ∷ []) (length ys) x ≡ x = get_or_push ys x x (length ys) refl in
      let v : get_or (ys ++ x ∷ []) k x ≡ x = get_or_append_left ys (x ∷ []) x k b ∙ has.2 in
      let g : comes x x ≡ true = subst (λ (y : X). comes x y ≡ true) v (subst (λ (y : X). comes y (get_or (ys ++ x ∷ []) k x) ≡ true) u f) in
      let i = order.itself x in
      cc

  pub one_popped : (ys : List X) (x : X) → IsFallingBy comes (ys ++ x ∷ []) → HasOneMore ys x (ys ++ x ∷ [])
  one_popped ys x falls = record {
    fresh = last_fresh ys x falls;
    added = Contains-push ys x;
    kept = λ o has. Contains-append_left ys (x ∷ []) o has;
    only = λ o has. ⊎_elim (λ (a : Contains ys o). inr a) (λ (e : x ≡ o). inl (sym e)) (Contains-push_cases ys x o has);
  }

  pub taken_popped : (xs ys : List X) (r : Option X) (P : Type 0) → IsFallingBy comes xs → xs ≡ ys ++ option_to_list r → (ys ≡ xs → P) → MatchOption r P (λ x. HasOneMore ys x xs)
  taken_popped xs ys None P falls e same = same (sym (append-nil ys) ∙ sym e)
  taken_popped xs ys (Some x) P falls e same =
      let Q : List X → Type 0 = λ zs. HasOneMore ys x zs in
      subst Q (sym e) (one_popped ys x (subst (IsFallingBy comes) e falls))
