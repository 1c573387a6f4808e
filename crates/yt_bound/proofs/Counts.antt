-- Counts by number, added up.
use Rattle.std.proofs.Common.{◌≡◌, ℕ, suc, ◌+◌, ◌<◌, ◌≤◌, List, [], ◌∷◌, length, slice_get, Bool, true, false, Some, refl, ap, ⊎_elim, arith, ◌∙◌}
use Rattle.std.specs.List.{sum_by}
use Rattle.std.proofs.lemmas.Bool.{cases_Bool, cases_eq, cond-true, cond-false}
use Rattle.std.proofs.lemmas.List.Sums.{sum_by-cons}
use Rattle.yt_order.specs.Sorting.{insert_by, sort_by}

-- a count for each item of a list, by the items' numbers, which begin with this one
pub count_from : {X : Type 0} → ℕ → List X → (ℕ → ℕ) → ℕ
count_from n [] f = 0
count_from n (x ∷ xs) f = f n + count_from (suc n) xs f

pub count_le : {X : Type 0} (n : ℕ) (xs : List X) (f h : ℕ → ℕ) → ((k : ℕ) → f k ≤ h k) → count_from n xs f ≤ count_from n xs h
unfolding count_from
count_le n [] f h le = omega arith
count_le n (x ∷ xs) f h le = let a = le n in let b = count_le (suc n) xs f h le in omega arith

-- a count that grows at one of the numbers
pub count_more : {X : Type 0} (n : ℕ) (xs : List X) (f h : ℕ → ℕ) (key : ℕ) → ((k : ℕ) → f k ≤ h k) → f key + 1 ≤ h key → n ≤ key → key < n + length xs → suc (count_from n xs f) ≤ count_from n xs h
unfolding count_from
count_more n [] f h key le more low high = absurd (omega arith)
count_more n (x ∷ xs) f h key le more low high =
    ⊎_elim
    (λ (e : n ≡ key).
    let a : f n ≡ f key = ap f e in
    let b : h n ≡ h key = ap h e in
    let rest = count_le (suc n) xs f h le in
    omega arith)
    (λ (ne : n ≡ key → ⊥).
    let a = le n in
    let rest = count_more (suc n) xs f h key le more (omega arith) (omega arith) in
    omega arith)
    (cases_eq n key)

-- counts that are no greater than those of the items
pub count_sum : {X : Type 0} (n : ℕ) (xs : List X) (f : ℕ → ℕ) (h : X → ℕ) → ((k : ℕ) (x : X) → slice_get xs k ≡ Some x → f (n + k) ≤ h x) → count_from n xs f ≤ sum_by h xs
unfolding count_from
count_sum n [] f h le = omega arith
count_sum n (x ∷ xs) f h le =
    let first = le 0 x refl in
    let here : f (n + 0) ≡ f n = ap f (omega arith) in
    let rest = count_sum (suc n) xs f h (λ k y there. let a = le (suc k) y there in let e : f (n + suc k) ≡ f (suc n + k) = ap f (omega arith) in omega arith) in
    let c = sum_by-cons h x xs in
    omega arith

-- sums of two lists, item by item
pub sum_le : {X Y : Type 0} (xs : List X) (ys : List Y) (f : X → ℕ) (h : Y → ℕ) → length xs ≡ length ys
    → ((k : ℕ) (x : X) (y : Y) → slice_get xs k ≡ Some x → slice_get ys k ≡ Some y → f x ≤ h y) → sum_by f xs ≤ sum_by h ys
sum_le [] [] f h long le = omega arith
sum_le [] (y ∷ ys) f h long le = absurd (omega arith)
sum_le (x ∷ xs) [] f h long le = absurd (omega arith)
sum_le (x ∷ xs) (y ∷ ys) f h long le =
    let first = le 0 x y refl refl in
    let rest = sum_le xs ys f h (omega arith) (λ k a b there other. le (suc k) a b there other) in
    let c = sum_by-cons f x xs in
    let d = sum_by-cons h y ys in
    omega arith

insert-length : {X : Type 0} (before : X → X → Bool) (x : X) (ys : List X) → length (insert_by before x ys) ≡ suc (length ys)
insert-length before x [] = refl
insert-length before x (y ∷ ys) =
    ⊎_elim
    (λ (e : before y x ≡ true). ap length (cond-true (before y x) (y ∷ insert_by before x ys) (x ∷ y ∷ ys) e) ∙ ap suc (insert-length before x ys))
    (λ (e : before y x ≡ false). ap length (cond-false (before y x) (y ∷ insert_by before x ys) (x ∷ y ∷ ys) e))
    (cases_Bool (before y x))

pub sort-length : {X : Type 0} (before : X → X → Bool) (xs : List X) → length (sort_by before xs) ≡ length xs
sort-length before [] = refl
sort-length before (x ∷ xs) = insert-length before x (sort_by before xs) ∙ ap suc (sort-length before xs)
