-- What lists have: one behind another, and put in order.
use Rattle.std.proofs.Common.{◌≡◌, ◌⊎◌, Bool, true, false, List, [], ◌∷◌, ◌++◌, refl, sym, subst, inl, inr, ⊎_elim}
use Rattle.std.proofs.lemmas.Bool.{cases_Bool, cond-true, cond-false}
use Rattle.yt_order.specs.Sorting.{insert_by, sort_by}
use Rattle.yt_log.specs.Tasks.{Has}

pub has_left : {X : Type 0} (xs ys : List X) (x : X) → Has xs x → Has (xs ++ ys) x
has_left [] ys x h = absurd h
has_left {X = X} (y ∷ xs) ys x h = ⊎_elim (λ (e : x ≡ y). inl e) (λ (k : Has xs x). inr (has_left xs ys x k)) h

pub has_right : {X : Type 0} (xs ys : List X) (x : X) → Has ys x → Has (xs ++ ys) x
has_right [] ys x h = h
has_right (y ∷ xs) ys x h = inr (has_right xs ys x h)

pub has_last : {X : Type 0} (xs : List X) (x : X) → Has (xs ++ x ∷ []) x
has_last [] x = inl refl
has_last (y ∷ xs) x = inr (has_last xs x)

pub has_append : {X : Type 0} (xs ys : List X) (x : X) → Has (xs ++ ys) x → Has xs x ⊎ Has ys x
has_append [] ys x h = inr h
has_append {X = X} (y ∷ xs) ys x h =
    ⊎_elim
    (λ (e : x ≡ y). inl (inl e))
    (λ (k : Has (xs ++ ys) x). ⊎_elim (λ (l : Has xs x). inl (inr l)) (λ (r : Has ys x). inr r) (has_append xs ys x k))
    h

pub has_insert : {X : Type 0} (before : X → X → Bool) (x : X) (ys : List X) (e : X) → Has (insert_by before x ys) e → (e ≡ x) ⊎ Has ys e
has_insert before x [] e h = h
has_insert {X = X} before x (y ∷ ys) e h =
    let P : List X → Type 0 = λ zs. Has zs e in
    ⊎_elim
    (λ (b : before y x ≡ true).
    let k : (e ≡ y) ⊎ Has (insert_by before x ys) e = subst P (cond-true (before y x) (y ∷ insert_by before x ys) (x ∷ y ∷ ys) b) h in
    ⊎_elim
    (λ (q : e ≡ y). inr (inl q))
    (λ (l : Has (insert_by before x ys) e). ⊎_elim (λ (q : e ≡ x). inl q) (λ (m : Has ys e). inr (inr m)) (has_insert before x ys e l))
    k)
    (λ (b : before y x ≡ false). subst P (cond-false (before y x) (y ∷ insert_by before x ys) (x ∷ y ∷ ys) b) h)
    (cases_Bool (before y x))

pub insert_has : {X : Type 0} (before : X → X → Bool) (x : X) (ys : List X) (e : X) → (e ≡ x) ⊎ Has ys e → Has (insert_by before x ys) e
insert_has before x [] e h = h
insert_has {X = X} before x (y ∷ ys) e h =
    let P : List X → Type 0 = λ zs. Has zs e in
    ⊎_elim
    (λ (b : before y x ≡ true).
    subst P (sym (cond-true (before y x) (y ∷ insert_by before x ys) (x ∷ y ∷ ys) b))
    (⊎_elim
    (λ (q : e ≡ x). inr (insert_has before x ys e (inl q)))
    (λ (k : (e ≡ y) ⊎ Has ys e). ⊎_elim (λ (q : e ≡ y). inl q) (λ (l : Has ys e). inr (insert_has before x ys e (inr l))) k)
    h))
    (λ (b : before y x ≡ false). subst P (sym (cond-false (before y x) (y ∷ insert_by before x ys) (x ∷ y ∷ ys) b)) h)
    (cases_Bool (before y x))

pub has_sorted : {X : Type 0} (before : X → X → Bool) (xs : List X) (e : X) → Has (sort_by before xs) e → Has xs e
has_sorted before [] e h = h
has_sorted {X = X} before (x ∷ xs) e h =
    ⊎_elim (λ (q : e ≡ x). inl q) (λ (k : Has (sort_by before xs) e). inr (has_sorted before xs e k)) (has_insert before x (sort_by before xs) e h)

pub sorted_has : {X : Type 0} (before : X → X → Bool) (xs : List X) (e : X) → Has xs e → Has (sort_by before xs) e
sorted_has before [] e h = h
sorted_has {X = X} before (x ∷ xs) e h =
    insert_has before x (sort_by before xs) e (⊎_elim (λ (q : e ≡ x). inl q) (λ (k : Has xs e). inr (sorted_has before xs e k)) h)
